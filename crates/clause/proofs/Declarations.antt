-- Every declaration of a list of calls is true: each is one of a run of the machine.
use mathlib.Core.Path.{◌≡◌, refl, sym, ap, ◌∙◌}
use mathlib.Core.List.{List, [], ◌∷◌, ◌++◌}
use mathlib.Core.Logic.{◌≢◌}
use mathlib.Core.Option.{some}
use Prim.Native.Nat.{ℕ}
use lib.Dec.{eqb}
use borrow.Author.Tests.{eqb-false, not-true}
use Rattle.mailbox.specs.Entry.{Entry}
use Rattle.mailbox.specs.Layout as Mail
use Rattle.waits.specs.Waits
use Rattle.waits.specs.OnTable.{waits_for, cycle_length}
use Rattle.step.specs.Step.{Stepped}
use Rattle.reopen.specs.Reopening.{Reopened}
use Rattle.deadlock.specs.Machine
use Rattle.deadlock.specs.Statement as MachineStatement
use Rattle.deadlock.proofs.Theorem as MachineTheorem
use Rattle.lockmgr.specs.Calls.{Config}
use Rattle.lockmgr.specs.Run.{Step, Buffers, buffers, Done, done_on, left_by, done, left}
use Rattle.lockmgr.specs.History.{Call, step, report, drain, reopen, steps_of, leaves, steps}
use Rattle.clause.specs.Statement.{TrueDeclaration, DeclarationsTrue}
use Rattle.clause.proofs.State.{machine_of, machine_laws, state_of, Good, sessions_are, ranks_of}
use Rattle.clause.proofs.Cycles.{reached_of, on-cycle_of}
use Rattle.clause.proofs.Moves.{Moved}
use Rattle.clause.proofs.Step.{by-step}
use Rattle.clause.proofs.Reopening.{by-reopen}
use Rattle.clause.proofs.Follow.{anything, ran, step_is}

-- what is guaranteed of the machine with the lock manager's seniority and next holder
pub guaranteed : {conf : Config} {table : List ℕ} {l : List Entry} → Good conf table l → MachineStatement.Guarantees (machine_of conf) anything
guaranteed {conf} g = MachineTheorem.theorem (machine_of conf) (machine_laws g) anything

-- a declaration that is true in the state is true in the table that says it
true_in_table : (conf : Config) (table : List ℕ) (l : List Entry) → Good conf table l → (v i : ℕ)
    → MachineStatement.TrueDeclaration (machine_of conf) (state_of conf table l) v i → TrueDeclaration table v i
true_in_table conf table l g v i d =
    let at : (n : ℕ) → Machine.reached (machine_of conf) (state_of conf table l) n i ≡ Waits.reached (waits_for table) n i = λ n. reached_of g n i in
    let by_rank = ranks_of g in
    record {
      known = (d.low, rw (sessions_are g) d.high);
      on-cycle = eqb-false (cycle_length table i) 0 (not-true (eqb (cycle_length table i) 0) (sym (on-cycle_of g i) ∙ d.on-cycle));
      most-senior = λ n. rw (by_rank) (rw (at n) at (d.most-senior n));
      member = (d.victim-member.0, sym (at d.victim-member.0) ∙ d.victim-member.1);
      most-junior = λ n. rw (by_rank) (rw (at n) at (d.most-junior n));
    }

-- one call more at the end of a run
run_then : (conf : Config) (s : Machine.State) (cs : List Machine.Call) (c : Machine.Call)
    → (ran conf s (cs ++ (c ∷ []))).state ≡ (Machine.step (machine_of conf) anything (ran conf s cs).state c).state
unfolding Machine.run
run_then conf s [] c = refl
run_then conf s (d ∷ cs) c = run_then conf (Machine.step (machine_of conf) anything s d).state cs c

module _ (conf : Config) where
  abbrev begun : Machine.State
  begun = Machine.start (machine_of conf)

  -- after a run of the machine from its start, a move
  module _ (table : List ℕ) (l : List Entry) (b : Buffers) (m : Moved conf table l b)
      (cs : List Machine.Call) (e : (ran conf begun cs).state ≡ state_of conf table l) where
    stepped_to : Machine.step (machine_of conf) anything (ran conf begun cs).state m.call ≡ record { state = state_of conf b.table m.entries; event = m.event }
    stepped_to = ap (λ (s : Machine.State). Machine.step (machine_of conf) anything s m.call) e ∙ step_is conf table l b m

    run_on : (ran conf begun (cs ++ (m.call ∷ []))).state ≡ state_of conf b.table m.entries
    run_on = run_then conf begun cs m.call ∙ ap (λ (s : Machine.Stepped). s.state) stepped_to

    declared_truly : (v i : ℕ) → m.event.declared ≡ some (record { victim = v; initiator = i }) → TrueDeclaration b.table v i
    declared_truly v i declared =
        let told = (guaranteed m.good).declarations-true cs m.call (record { victim = v; initiator = i }) (ap (λ (s : Machine.Stepped). s.event.declared) stepped_to ∙ declared) in
        true_in_table conf b.table m.entries m.good v i (rw (stepped_to) at told)

  -- every declaration of what is done from a table and entries that a run leads to
  abbrev TrueFrom : (Buffers → List Done) → List ℕ → List Entry → Type 0
  TrueFrom more table l =
      (cs : List Machine.Call) → (ran conf begun cs).state ≡ state_of conf table l → DeclarationsTrue (more (buffers table (Mail.mail_bytes conf.capacity l)))

  -- of a step and of what is done behind it
  true-step : (more : Buffers → List Done) → ((table : List ℕ) (l : List Entry) → Good conf table l → TrueFrom more table l)
      → (c : Step) (table : List ℕ) (l : List Entry) → Good conf table l → TrueFrom (λ b. let d = done_on b c in d ∷ more (left_by d)) table l
  true-step more then c table l g cs e =
      by-step g c.verb c.session c.item
      (λ (r : Stepped). (r.answer.victim ≢ 0 → r.answer.initiator ≢ 0 → TrueDeclaration r.table r.answer.victim r.answer.initiator)
      × DeclarationsTrue (more (buffers r.table r.mail)))
      (λ n _. ((λ v. absurd (v refl)), then table l g cs e))
      (λ r m. (
        (λ v _. declared_truly table l _ m.moved cs e r.answer.victim r.answer.initiator (m.declares v)),
        rw m.moved.mail (then r.table m.moved.entries m.moved.good (cs ++ (m.moved.call ∷ [])) (run_on table l _ m.moved cs e)),
      ))

  -- of a list of steps, and of a list of calls
  true-steps : (more : Buffers → List Done) → ((table : List ℕ) (l : List Entry) → Good conf table l → TrueFrom more table l)
      → (steps : List Step) (table : List ℕ) (l : List Entry) → Good conf table l → TrueFrom (λ b. done b steps ++ more (left b steps)) table l
  unfolding done left
  true-steps more then [] table l g = then table l g
  true-steps more then (c ∷ steps) table l g = true-step (λ b. done b steps ++ more (left b steps)) (true-steps more then steps) c table l g

  pub declarations : (calls : List Call) (table : List ℕ) (l : List Entry) → Good conf table l → TrueFrom (λ b. steps b calls) table l
  unfolding steps leaves steps_of done
  declarations [] table l g = λ _ _. tt
  declarations (step verb t x ∷ calls) table l g = true-steps (λ b. steps b calls) (declarations calls) (steps_of (buffers table (Mail.mail_bytes conf.capacity l)) (step verb t x)) table l g
  declarations (report t ∷ calls) table l g = declarations calls table l g
  declarations (drain limit ∷ calls) table l g = true-steps (λ b. steps b calls) (declarations calls) (steps_of (buffers table (Mail.mail_bytes conf.capacity l)) (drain limit)) table l g
  declarations (reopen t ∷ calls) table l g = λ cs e.
      by-reopen g t (λ (r : Reopened). DeclarationsTrue (steps (buffers r.table (Mail.mail_bytes conf.capacity l)) calls))
      (λ _. declarations calls table l g cs e)
      (λ m. rw m.moved.mail (declarations calls _ m.moved.entries m.moved.good (cs ++ (m.moved.call ∷ [])) (run_on table l _ m.moved cs e)))
