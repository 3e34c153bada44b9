-- A drain is its single deliveries, all of them accepted; from a state that is reached it makes no more than the formula says.
use mathlib.Core.Path.{◌≡◌, refl, sym, ap, subst, ◌∙◌}
use mathlib.Core.Bool.{true}
use mathlib.Core.List.{List, [], ◌∷◌, append-nil}
use Prim.Native.Nat.{ℕ, zero, suc, ◌≤◌, ◌<◌}
use native.Mathlib.Omega.{arith}
use lib.Dec.{eqb}
use lib.ListN.{length}
use borrow.Author.Tests.{eq-eqb, eqb-true, eqb-false}
use Rattle.lists.specs.Lists.{all_of}
use Rattle.lists.proofs.Laws.{all_weaken}
use Rattle.lists.proofs.Tests.{and_both, and_intro, by-test}
use Rattle.mailbox.specs.Entry.{Entry, to_item}
use Rattle.mailbox.specs.Layout as Mail
use Rattle.mailbox.specs.Layout.{count_of, entry_at}
use Rattle.mailbox.proofs.Laws as MailLaws
use Rattle.step.specs.Step as Step
use Rattle.step.specs.Step.{Stepped, Formed}
use Rattle.drain.specs.Oldest.{verb_of}
use Rattle.lockmgr.specs.Calls.{Config}
use Rattle.lockmgr.specs.Run as Run
use Rattle.lockmgr.specs.Run.{Buffers, buffers, done_on, left_by, done, left}
use Rattle.lockmgr.specs.Drain.{oldest, limited, ending, deliveries, drain_refusal, drain_steps, drain}
use Rattle.lockmgr.specs.History
use Rattle.lockmgr.specs.History.{steps_of, leaves, after, steps}
use Rattle.lockmgr.proofs.Judging.{formed-zero, buffers-zero, start-zero}
use Rattle.lockmgr.proofs.Form.{step_keeps_form}
use Rattle.lockmgr.proofs.Draining.{next-accepted}
use Rattle.deadlock.specs.Machine
use Rattle.deadlock.specs.Invariant.{Invariant}
use Rattle.deadlock.proofs.InvariantKept.{invariant, invariant-move}
use Rattle.bound.specs.Formula.{delivery_bound}
use Rattle.bound.specs.Potential.{potential}
use Rattle.bound.proofs.Theorem as BoundTheorem
use Rattle.agreement.specs.Reading.{read_entries}
use Rattle.agreement.proofs.MailboxAgrees.{length-read_entries}
use Rattle.clause.specs.Statement.{opened}
use Rattle.clause.specs.Drains.{is_accepted, is_delivered, AllDelivered, DrainIsSteps, DrainEnds, DrainsEnd, BoundSmall}
use Rattle.clause.proofs.State
use Rattle.clause.proofs.State.{machine_of, machine_laws, state_of, Good}
use Rattle.clause.proofs.Moves.{Moved, StepMoved}
use Rattle.clause.proofs.Step.{by-step}
use Rattle.clause.proofs.Follow.{anything}
use Rattle.clause.proofs.Theorem.{start-accepted, followed}
use Rattle.clause.proofs.Replay.{steps-left, steps-done}

-- the verb of an entry is that of a delivery
pub is-delivery : (e : Entry) → Step.is_delivery (verb_of e) ≡ true
is-delivery e = by-test (λ (n : ℕ). Step.is_delivery n ≡ true) (eqb e.direction to_item) (λ _. refl) (λ _. refl)

-- ---- a drain is its single deliveries
all-delivered : (n : ℕ) (b : Buffers) → Formed b.table b.mail → AllDelivered b (deliveries n b)
unfolding deliveries done all_of
all-delivered zero b f = refl
all-delivered (suc n) b f =
    by-test (AllDelivered b) (eqb (ending b) limited)
    (λ q. let c = oldest b in
    and_intro (and_intro (is-delivery (entry_at b.mail 0)) (eq-eqb (done_on b c).result.answer.refusal 0 (next-accepted b.table b.mail f (eqb-true (ending b) limited q))))
    (all-delivered n (left_by (done_on b c)) (step_keeps_form c.verb c.session c.item b.table b.mail f).formed))
    (λ _. refl)

pub drain-delivers : (limit : ℕ) (b : Buffers) → AllDelivered b (drain_steps limit b)
unfolding drain_steps done all_of
drain-delivers limit b =
    by-test (AllDelivered b) (eqb (drain_refusal b) 0) (λ q. all-delivered limit b (buffers-zero b.table b.mail (eqb-true (drain_refusal b) 0 q))) (λ _. refl)

-- the steps of a single call
one-call : (limit : ℕ) (b : Buffers) → steps b (History.drain limit ∷ []) ≡ done b (drain_steps limit b)
unfolding steps leaves steps_of
one-call limit b = append-nil (done b (drain_steps limit b))

pub drain-is-steps : DrainIsSteps
unfolding drain drain_steps done all_of after leaves steps_of
drain-is-steps limit b = record {
  made = refl;
  left = rw (steps-left b (drain_steps limit b)) refl;
  same_left = rw (steps-left b (drain_steps limit b)) refl;
  same-steps = rw (steps-done b (drain_steps limit b)) (one-call limit b);
  accepted = all_weaken is_delivered is_accepted (λ d e. (and_both (Step.is_delivery d.verb) (is_accepted d) e).1) (done b (drain_steps limit b)) (drain-delivers limit b);
}

-- ---- how many deliveries there are
-- a drain that the limit ends has made as many as the limit
all_made : (n : ℕ) (b : Buffers) → ending (left b (deliveries n b)) ≡ limited → length (deliveries n b) ≡ n
unfolding deliveries left
all_made zero b = λ _. refl
all_made (suc n) b =
    by-test (λ (l : List Run.Step). ending (left b l) ≡ limited → length l ≡ suc n) (eqb (ending b) limited)
    (λ _ h. ap suc (all_made n (left_by (done_on b (oldest b))) h))
    (λ q h. absurd (eqb-false (ending b) limited q h))

module _ (conf : Config) where
  abbrev R : Machine.Rules
  R = machine_of conf

  -- each makes the potential fall
  module _ (table : List ℕ) (l : List Entry) (k : Invariant R (state_of conf table l)) (verb t : ℕ) (r : Stepped) (s : StepMoved conf table l verb t r) where
    abbrev m : Moved conf table l (buffers r.table r.mail)
    m = s.moved

    kept : Invariant R (state_of conf r.table m.entries)
    kept = rw m.moves (invariant-move R (machine_laws m.good) (state_of conf table l) k m.call m.is_of_machine)

    falls : Step.is_delivery verb ≡ true → potential R (state_of conf r.table m.entries) < potential R (state_of conf table l)
    falls d = rw m.moves (omega (arith, (BoundTheorem.theorem R (machine_laws m.good)).falls (state_of conf table l) k m.call m.is_of_machine (s.delivers d)))

  -- any list of deliveries, none of them refused
  few : (steps : List Run.Step) (table : List ℕ) (l : List Entry) → Good conf table l → Invariant R (state_of conf table l)
      → AllDelivered (buffers table (Mail.mail_bytes conf.capacity l)) steps → length steps ≤ potential R (state_of conf table l)
  unfolding done all_of
  few [] table l g k h = omega arith
  few (c ∷ steps) table l g k h =
      let b = buffers table (Mail.mail_bytes conf.capacity l) in
      let d = done_on b c in
      let both = and_both (is_delivered d) (all_of is_delivered (done (left_by d) steps)) h in
      let first = and_both (Step.is_delivery c.verb) (is_accepted d) both.0 in
      by-step g c.verb c.session c.item
      (λ (r : Stepped). r.answer.refusal ≡ 0 → AllDelivered (buffers r.table r.mail) steps → length (c ∷ steps) ≤ potential R (state_of conf table l))
      (λ i other z. absurd (other z))
      (λ r m _ more. omega (
        arith,
        few steps r.table m.moved.entries m.moved.good (kept table l k _ _ r m) (rw m.moved.mail at more),
        falls table l k _ _ r m first.0,
      ))
      (eqb-true d.result.answer.refusal 0 first.1) both.1

  -- as the formula says
  module _ (table : List ℕ) (l : List Entry) (g : Good conf table l) (k : Invariant R (state_of conf table l)) where
    abbrev at : Buffers
    at = buffers table (Mail.mail_bytes conf.capacity l)

    pub steps-bounded : (steps : List Run.Step) → AllDelivered at steps → length steps ≤ delivery_bound conf.kept.sessions conf.kept.items (count_of (Mail.mail_bytes conf.capacity l))
    steps-bounded steps h =
        let c : count_of (Mail.mail_bytes conf.capacity l) ≡ length (read_entries l) = MailLaws.count-mail conf.capacity l g.low g.high g.room ∙ sym (length-read_entries l) in
        rw (c) (omega (arith, few steps table l g k h, (BoundTheorem.theorem R (machine_laws g)).bounded (state_of conf table l)))

    bound_of : (n : ℕ) → length (deliveries n at) ≤ delivery_bound conf.kept.sessions conf.kept.items (count_of (Mail.mail_bytes conf.capacity l))
    bound_of n = steps-bounded (deliveries n at) (all-delivered n at (State.buffers-formed g))

    pub drain-ends : (limit : ℕ) → DrainEnds conf at limit
    unfolding drain drain_steps
    drain-ends limit =
        let z : drain_refusal at ≡ 0 = formed-zero table (Mail.mail_bytes conf.capacity l) (State.buffers-formed g) in
        record {
          bounded = rw (z) (bound_of limit);
          ends = λ h. rw (z) (λ q. omega (arith, bound_of limit, h, all_made limit at q));
        }

pub drains_end : DrainsEnd
drains_end c table mail e calls limit =
    let b = after (opened c table mail) calls in
    let h = followed c table mail e calls in
    let k : Invariant (machine_of c) (state_of c b.table h.entries) = rw (← h.state) (invariant (machine_of c) (machine_laws h.good) anything h.run) in
    subst (λ (m : List ℕ). DrainEnds c (buffers b.table m) limit) (sym h.mail) (drain-ends c b.table h.entries h.good k limit)

pub bound_small : BoundSmall
bound_small c table mail e n fits =
    let s = (start-zero c table mail (start-accepted c table mail e)).sizes in
    BoundTheorem.small_bound c.kept.sessions c.kept.items n s.bounded.max-sessions s.bounded.max-items (omega (arith, fits, s.max-room))
