-- The tallies of a list of steps: when it leaves no mail, as many sessions were rolled back as cycles were closed.
use mathlib.Core.Path.{◌≡◌, refl, ap}
use mathlib.Core.Bool.{◌&&◌, and-false}
use mathlib.Core.List.{List, [], ◌∷◌, map}
use Prim.Native.Nat.{ℕ, ◌+◌}
use native.Mathlib.Omega.{arith}
use lib.Dec.{eqb}
use Rattle.session.specs.Stage
use Rattle.mailbox.specs.Entry.{Entry}
use Rattle.mailbox.specs.Layout as Mail
use Rattle.table.specs.Layout as Table
use Rattle.step.specs.Step as Step
use Rattle.lockmgr.specs.Calls as Calls
use Rattle.step.specs.Step.{Stepped}
use Rattle.lockmgr.specs.Calls.{Config}
use Rattle.lockmgr.proofs.Judging.{start-zero}
use Rattle.lockmgr.specs.Run as Run
use Rattle.lockmgr.specs.Run.{Buffers, buffers, Done, done_on, left_by, done, left, tallied, rolls_back}
use Rattle.lockmgr.specs.History.{steps_of, leaves, after, steps}
use Rattle.clause.specs.Statement.{opened, closed, rollback, rolled_back}
use Rattle.clause.specs.Drains.{call_of}
use Rattle.clause.proofs.State.{Good}
use Rattle.clause.proofs.Moves.{never_both}
use Rattle.clause.proofs.Step.{by-step}
use Rattle.clause.proofs.Theorem.{begun-good, start-accepted, start-leaves, theorem}

-- what is known after a step: a session comes to stage 6 at deliveries alone, and the buffers are good
record Next (conf : Config) (verb t : ℕ) (table : List ℕ) (r : Stepped) : Type 0 where
  delivered : Step.is_delivery verb && rolls_back t table r.table ≡ rolls_back t table r.table
  entries : List Entry
  good : Good conf r.table entries
  mail : r.mail ≡ Mail.mail_bytes conf.capacity entries

next : (conf : Config) (table mail : List ℕ) (l : List Entry) → Good conf table l → mail ≡ Mail.mail_bytes conf.capacity l
    → (verb t x : ℕ) → Next conf verb t table (Calls.step verb t x table mail)
next conf table mail l g e verb t x =
    rw (e) (by-step g verb t x (Next conf verb t table)
    (λ n _. record {
      delivered = rw (never_both (eqb (Table.session table t).stage Stage.rolled_back)) (and-false (Step.is_delivery verb));
      entries = l;
      good = g;
      mail = refl;
    })
    (λ r m. record { delivered = m.delivered; entries = m.moved.entries; good = m.moved.good; mail = m.moved.mail }))

-- the steps add their counts to a tally
record Tallied (y : Run.Tally) (l : List Done) : Type 0 where
  closes : (tallied y l).closed ≡ y.closed + closed l
  rolls : (tallied y l).rolled_back ≡ y.rolled_back + rolled_back l

no_steps : (y : Run.Tally) → Tallied y []
unfolding tallied closed rolled_back
no_steps y = record { closes = omega arith; rolls = omega arith }

one-step : (y : Run.Tally) (d : Done) (l : List Done) → rollback d ≡ rolls_back d.session d.before.table d.result.table
    → Tallied (Run.counted d.session d.before.table d.result y) l → Tallied y (d ∷ l)
unfolding tallied closed rolled_back
one-step y d l e h = record { closes = omega (arith, h.closes); rolls = rw (e) (omega (arith, h.rolls)) }

replay : (conf : Config) (l : List Run.Step) (table mail : List ℕ) (k : List Entry) → Good conf table k → mail ≡ Mail.mail_bytes conf.capacity k → (y : Run.Tally)
    → Tallied y (done (buffers table mail) l)
unfolding done
replay conf [] table mail k g e y = no_steps y
replay conf (c ∷ l) table mail k g e y =
    let n = next conf table mail k g e c.verb c.session c.item in
    let d = done_on (buffers table mail) c in
    one-step y d (done (left_by d) l) n.delivered (replay conf l d.result.table d.result.mail n.entries n.good n.mail (Run.counted c.session table d.result y))

-- a list of steps, as calls
pub steps-left : (b : Buffers) (l : List Run.Step) → after b (map call_of l) ≡ left b l
unfolding after leaves steps_of left
steps-left b [] = refl
steps-left b (c ∷ l) = steps-left (left_by (done_on b c)) l

pub steps-done : (b : Buffers) (l : List Run.Step) → steps b (map call_of l) ≡ done b l
unfolding steps leaves steps_of left done
steps-done b [] = refl
steps-done b (c ∷ l) = ap (λ (k : List Done). done_on b c ∷ k) (steps-done (left_by (done_on b c)) l)

-- from a start that is not refused, with the tallies at zero
abbrev pub replayed : Config → List ℕ → List ℕ → List Run.Step → Run.Ran
replayed c table mail l = let s = Calls.start c table mail in Run.run s.table s.mail Run.zeros l

pub tallies_agree : (c : Config) (table mail : List ℕ) → (Calls.start c table mail).refusal ≡ 0 → (l : List Run.Step)
    → Mail.count_of (replayed c table mail l).mail ≡ 0
    → (replayed c table mail l).tally.closed ≡ (replayed c table mail l).tally.rolled_back
unfolding opened Run.run
tallies_agree c table mail e l empty =
    let s = Calls.start c table mail in
    let b = buffers s.table s.mail in
    let p = start-leaves c table mail e in
    let g : Good c s.table [] = rw (ap (λ (b : Buffers). b.table) p) (begun-good c (start-zero c table mail (start-accepted c table mail e))) in
    let h = replay c l s.table s.mail [] g (ap (λ (b : Buffers). b.mail) p) Run.zeros in
    let n = ((theorem c table mail e (map call_of l)).settled (rw (steps-left b l) empty)).counts in
    omega (arith, h.closes, h.rolls, rw (steps-done b l) at n)
