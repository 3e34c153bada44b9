-- A list of calls is a run of the machine: its single steps and reopenings that are not refused, in order. The counts agree.
use mathlib.Core.Path.{◌≡◌, refl, ap}
use mathlib.Core.Bool.{Bool, true, ◌&&◌, and-false}
use mathlib.Core.List.{List, [], ◌∷◌, ◌++◌}
use Prim.Native.Nat.{ℕ, ◌+◌}
use native.Mathlib.Omega.{arith}
use lib.Dec.{eqb}
use Rattle.session.specs.Stage
use Rattle.session.specs.Record as SessionRecord
use Rattle.mailbox.specs.Entry.{Entry}
use Rattle.mailbox.specs.Layout as Mail
use Rattle.table.specs.Layout as Table
use Rattle.step.specs.Step as Step
use Rattle.lockmgr.specs.Calls.{Config}
use Rattle.step.specs.Step.{Stepped, stepped, refused_answer}
use Rattle.lockmgr.specs.Run as Run
use Rattle.lockmgr.specs.Run.{Buffers, buffers, Done, done_on, left_by, done, left, rolls_back, one}
use Rattle.lockmgr.specs.History.{Call, step, report, drain, reopen, steps_of, leaves, after, steps}
use Rattle.reopen.specs.Reopening.{Reopened}
use Rattle.deadlock.specs.Lists.{bit}
use Rattle.deadlock.specs.Machine
use Rattle.clause.specs.Statement.{closed, rolled_back}
use Rattle.clause.proofs.State.{machine_of, state_of, Good}
use Rattle.clause.proofs.Moves.{Moved, StepMoved, one-is-bit, never_both}
use Rattle.clause.proofs.Step.{by-step}
use Rattle.clause.proofs.Reopening.{by-reopen}

-- the policy that refuses nothing: a refused step is no call of the machine
abbrev pub anything : Machine.State → Machine.Call → Bool
anything s c = true

-- what a list of the machine's calls leaves from a state
abbrev pub ran : Config → Machine.State → List Machine.Call → Machine.Ran
ran conf s cs = Machine.run (machine_of conf) anything s cs

-- the machine's step at a move
pub step_is : (conf : Config) (table : List ℕ) (l : List Entry) (b : Buffers) (m : Moved conf table l b)
    → Machine.step (machine_of conf) anything (state_of conf table l) m.call ≡ record { state = state_of conf b.table m.entries; event = m.event }
unfolding Machine.step
step_is conf table l b m = rw (m.is_of_machine, ← m.moves, m.happens) refl

-- a run whose first step is known
run_more : (conf : Config) (s : Machine.State) (c : Machine.Call) (cs : List Machine.Call) (a : Machine.Stepped) → Machine.step (machine_of conf) anything s c ≡ a
    → ran conf s (c ∷ cs) ≡ record { state = (ran conf a.state cs).state; events = a.event ∷ (ran conf a.state cs).events }
unfolding Machine.run
run_more conf s c cs a e =
    ap (λ (b : Machine.Stepped). record { state = (ran conf b.state cs).state; events = b.event ∷ (ran conf b.state cs).events }) e

-- what is left in the end and the counts of the steps done, after k cycles closed and j sessions rolled back, are those of a run of the machine
pub record Followed (conf : Config) (s : Machine.State) (end : Buffers) (steps : List Done) (k j : ℕ) : Type 0 where
  pub run : List Machine.Call
  pub entries : List Entry
  pub mail : end.mail ≡ Mail.mail_bytes conf.capacity entries
  pub good : Good conf end.table entries
  pub state : (ran conf s run).state ≡ state_of conf end.table entries
  pub closes : k + closed steps ≡ Machine.count_closed (ran conf s run).events
  pub rolls : j + rolled_back steps ≡ Machine.count_rolled_back (ran conf s run).events

-- nothing is done
none-followed : (conf : Config) (table : List ℕ) (l : List Entry) → Good conf table l
    → Followed conf (state_of conf table l) (buffers table (Mail.mail_bytes conf.capacity l)) [] 0 0
unfolding closed rolled_back Machine.run Machine.count_closed Machine.count_rolled_back
none-followed conf table l g = record { run = []; entries = l; mail = refl; good = g; state = refl; closes = refl; rolls = refl }

-- a move, and what is done behind it
moved_on : (conf : Config) (table : List ℕ) (l : List Entry) (b : Buffers) (m : Moved conf table l b) (end : Buffers) (steps : List Done) (k j : ℕ)
    → k ≡ bit m.event.closed → j ≡ bit m.event.rolled_back
    → Followed conf (state_of conf b.table m.entries) end steps 0 0 → Followed conf (state_of conf table l) end steps k j
unfolding Machine.count_closed Machine.count_rolled_back
moved_on conf table l b m end steps k j closes rolls h =
    let at = run_more conf (state_of conf table l) m.call h.run _ (step_is conf table l b m) in record {
      run = m.call ∷ h.run;
      entries = h.entries;
      mail = h.mail;
      good = h.good;
      state = rw (at) h.state;
      closes = rw (at) (omega (arith, closes, h.closes));
      rolls = rw (at) (omega (arith, rolls, h.rolls));
    }

-- what is done behind a step: what it leaves in the end, and its single steps
module _ (conf : Config) (end : Buffers → Buffers) (more : Buffers → List Done) where
  -- it is followed from a table and entries
  abbrev FollowedFrom : List ℕ → List Entry → Type 0
  FollowedFrom table l =
      let b = buffers table (Mail.mail_bytes conf.capacity l) in
      Followed conf (state_of conf table l) (end b) (more b) 0 0

  module _ (verb t : ℕ) (table : List ℕ) (l : List Entry) where
    abbrev delivery : Bool
    delivery = Step.is_delivery verb

    -- behind a step that leaves and answers r, with its counts
    abbrev After : Stepped → Type 0
    After r =
        let b = buffers r.table r.mail in
        Followed conf (state_of conf table l) (end b) (more b) r.answer.closed (one (delivery && rolls_back t table r.table))

    refused-after : FollowedFrom table l → (n : ℕ) → After (stepped (refused_answer n) table (Mail.mail_bytes conf.capacity l))
    refused-after h n = record {
      run = h.run;
      entries = h.entries;
      mail = h.mail;
      good = h.good;
      state = h.state;
      closes = h.closes;
      rolls = rw (never_both (eqb (Table.session table t).stage Stage.rolled_back), and-false delivery) h.rolls;
    }

    moved-after : (r : Stepped) (m : StepMoved conf table l verb t r) → FollowedFrom r.table m.moved.entries → After r
    moved-after r m h =
        let b = buffers r.table r.mail in
        moved_on conf table l b m.moved (end b) (more b) r.answer.closed (one (delivery && rolls_back t table r.table)) m.closes
        (rw (m.delivered, m.rolls) (one-is-bit m.moved.event.rolled_back)) (rw m.moved.mail h)

  -- a step, if what is done behind it is followed from wherever it leads
  follow-step : ((table : List ℕ) (l : List Entry) → Good conf table l → FollowedFrom table l)
      → (c : Run.Step) (table : List ℕ) (l : List Entry) → Good conf table l
      → (let d = done_on (buffers table (Mail.mail_bytes conf.capacity l)) c in Followed conf (state_of conf table l) (end (left_by d)) (d ∷ more (left_by d)) 0 0)
  unfolding closed rolled_back
  follow-step then c table l g =
      let h =
      by-step g c.verb c.session c.item (After c.verb c.session table l)
      (λ n _. refused-after c.verb c.session table l (then table l g) n)
      (λ r m. moved-after c.verb c.session table l r m (then r.table m.moved.entries m.moved.good)) in
      record { run = h.run; entries = h.entries; mail = h.mail; good = h.good; state = h.state; closes = omega (arith, h.closes); rolls = omega (arith, h.rolls) }

-- a list of steps
follow-steps : (conf : Config) (end : Buffers → Buffers) (more : Buffers → List Done)
    → ((table : List ℕ) (l : List Entry) → Good conf table l → FollowedFrom conf end more table l)
    → (steps : List Run.Step) (table : List ℕ) (l : List Entry) → Good conf table l
    → FollowedFrom conf (λ b. end (left b steps)) (λ b. done b steps ++ more (left b steps)) table l
unfolding left done
follow-steps conf end more then [] table l g = then table l g
follow-steps conf end more then (c ∷ steps) table l g =
    follow-step conf (λ b. end (left b steps)) (λ b. done b steps ++ more (left b steps)) (follow-steps conf end more then steps) c table l g

-- a list of calls
pub follow : (conf : Config) (calls : List Call) (table : List ℕ) (l : List Entry) → Good conf table l
    → FollowedFrom conf (λ b. after b calls) (λ b. steps b calls) table l
unfolding after steps leaves steps_of done
follow conf [] table l g = none-followed conf table l g
follow conf (step verb t x ∷ calls) table l g = follow-steps conf (λ b. after b calls) (λ b. steps b calls) (follow conf calls) (steps_of (buffers table (Mail.mail_bytes conf.capacity l)) (step verb t x)) table l g
follow conf (report t ∷ calls) table l g = follow conf calls table l g
follow conf (drain limit ∷ calls) table l g = follow-steps conf (λ b. after b calls) (λ b. steps b calls) (follow conf calls) (steps_of (buffers table (Mail.mail_bytes conf.capacity l)) (drain limit)) table l g
follow conf (reopen t ∷ calls) table l g =
    let mail = Mail.mail_bytes conf.capacity l in
    by-reopen g t (λ (r : Reopened). let b = buffers r.table mail in Followed conf (state_of conf table l) (after b calls) (steps b calls) 0 0)
    (λ _. follow conf calls table l g)
    (λ m. let b = buffers (Table.with_session table t SessionRecord.fresh) mail in
    moved_on conf table l b m.moved (after b calls) (steps b calls) 0 0 (rw m.nothing refl) (rw m.nothing refl)
    (rw m.moved.mail (follow conf calls _ m.moved.entries m.moved.good)))
