-- The theorem: every declaration is true; and when no message is left no session lies on a cycle, and as many sessions were rolled back as cycles were closed.
use mathlib.Core.Path.{◌≡◌, ◌∙◌, ap, refl}
use mathlib.Core.Bool.{◌&&◌, ◌||◌, Bool, true}
use mathlib.Core.List.{[], ◌∷◌, List}
use mathlib.Core.Option.{none, Option, some}
use Prim.Native.Nat.{◌≤◌, ℕ}
use native.Mathlib.Omega.{arith}
use borrow.Author.Tests.{eqb-true}
use lib.Dec.{eqb}
use Rattle.lists.specs.Lists.{member}
use Rattle.lists.proofs.Tests.{and_both, by-test}
use Rattle.item.specs.declared.Event.{Event as ItemEvent}
use Rattle.deadlock.specs.Machine.{abort, after_item, Call, clean, Declaration, declares, deliver_to_item, deliver_to_session, down, Entry, event_of, grant_or_queue, hand_over, held_by, in_queue, item_event, item_receives, ItemStep, item_takes, Laws, Message, move, no_entry, of_machine, on_release, on_request, probe, reached, rebroadcast, release, release_call, reopen, request, request_call, Rules, run, session_event, start, State, step, Stepped, take_first, Taken, taken, taken_event, up, withdraw}
use Rattle.deadlock.specs.Walks.{FirstApart, Walk}
use Rattle.deadlock.specs.World.{Edge}
use Rattle.deadlock.specs.Invariant.{Invariant, world_of}
use Rattle.deadlock.specs.Statement.{Statement, TrueDeclaration}
use Rattle.deadlock.proofs.Laws.Counts.{inQueue-queued}
use Rattle.deadlock.proofs.Laws.Lists.{updated-unchanged}
use Rattle.deadlock.proofs.Links.Kept.{item-high, item-low}
use Rattle.deadlock.proofs.Laws.Walks.{walk-map}
use Rattle.deadlock.proofs.Victims.OneOnCycle.{edge-against, edge-along}
use Rattle.deadlock.proofs.StateWaits.{cycle-on_cycle, cycle-reached, walk-reached}
use Rattle.deadlock.proofs.Probes.ClosedPath.{DeclaredCycle}
use Rattle.deadlock.proofs.Core.Kept.{declaration-true, links-of}
use Rattle.deadlock.proofs.InvariantKept.{invariant, invariant-move}
use Rattle.deadlock.proofs.Settled.{none-on-cycle}
use Rattle.deadlock.proofs.Count.Kept.{counts-agree}

module _ (R : Rules) (L : Laws R) where
  -- a cycle that a declaration names, with items that say the same, in a state where the invariant holds
  true_in : (s r : State) (ks : Invariant R s) (kr : Invariant R r) → ((z : ℕ) → r.item z ≡ s.item z) → (i j : ℕ) → (1 ≤ i) × (i ≤ R.S)
      → DeclaredCycle L (links-of R L s ks.core) i j → TrueDeclaration R r j i
  true_in s r ks kr same i j rg d = record {
    low = rg.0;
    high = rg.1;
    on-cycle = cycle-on_cycle R r (links-of R L r kr.core) kr.is_in_range i loop;
    most-senior = λ n. d.most-senior (reached R r n i) (old n);
    victim-member = walk-reached R r (links-of R L r kr.core) kr.is_in_range (walk-map there d.on-cycle);
    most-junior = λ n. d.most-junior (reached R r n i) (old n);
  }
    where
      there : (a b : ℕ) → Edge R (world_of s) a b → Edge R (world_of r) a b
      there = edge-along R s.item r.item same

      loop : FirstApart (Edge R (world_of r)) i i
      loop = record { next = d.cycle.next; out = there i d.cycle.next d.cycle.out; walk = walk-map there d.cycle.walk }

      old : (n : ℕ) → Walk (Edge R (world_of s)) i (reached R r n i)
      old n = walk-map (edge-against R s.item r.item same) (cycle-reached R r (links-of R L r kr.core) kr.is_in_range i loop n)

  module _ (s : State) (k : Invariant R s) where
    -- what an event declares
    abbrev True : State → Option Declaration → Type 0
    True r o = (d : Declaration) → o ≡ some d → TrueDeclaration R r d.victim d.initiator

    none-declared : (r : State) → True r none
    none-declared r d e = let z : ◌≡◌ {A = ℕ} 0 1 = cc in absurd (omega arith)

    -- what happens at an item
    abbrev EventTrue : State → ItemEvent → Type 0
    EventTrue r e = (c : Bool) → True r (item_event e c).declared

    module _ (t x : ℕ) (lo : 1 ≤ x) (hi : x ≤ R.M) (l : List Entry) where
      probe-true : (i j : ℕ) → take_first true t x s.mailbox ≡ taken (probe i j) l → Invariant R (after_item s x l (item_receives R t (s.item x) (probe i j)))
          → EventTrue (after_item s x l (item_receives R t (s.item x) (probe i j))) (item_receives R t (s.item x) (probe i j)).event
      unfolding declares item_event after_item item_receives
      probe-true i j e kr = by-test (EventTrue r) (in_queue R t (s.item x)) (λ q. at (s.item x).holder refl q) (λ _ c. none-declared r)
        where
          r : State
          r = after_item s x l (item_receives R t (s.item x) (probe i j))

          same : (z : ℕ) → r.item z ≡ s.item z
          same = updated-unchanged s.item x

          declared : (h : ℕ) → (s.item x).holder ≡ some h → h ≡ i → in_queue R t (s.item x) ≡ true → TrueDeclaration R r j i
          declared h f z q =
              let g : (s.item x).holder ≡ some i = f ∙ ap some z in
              true_in s r k kr same i j ((k.is_in_range x).holder i g) (declaration-true R L s k.core t x i j l lo hi e (inQueue-queued R t (s.item x) q) g)

          at : (o : Option ℕ) → (s.item x).holder ≡ o → in_queue R t (s.item x) ≡ true → EventTrue r (declares R i j o)
          at none f q = λ c. none-declared r
          at (some h) f q = by-test (EventTrue r) (R.senior h i) (λ _ c. none-declared r)
              (λ _. by-test (EventTrue r) (eqb h i) (λ z c d p. let v : d.victim ≡ j = cc in let y : d.initiator ≡ i = cc in rw (v, y) (declared h f (eqb-true h i z) q)) (λ _ c. none-declared r))

      granted_or_queued-true : (r : State) (h : Option ℕ) → EventTrue r (grant_or_queue R t (s.item x).queue h).event
      unfolding item_event grant_or_queue
      granted_or_queued-true r none c = none-declared r
      granted_or_queued-true r (some h) c = none-declared r

      hands_over-true : (r : State) (q : List ℕ) → EventTrue r (hand_over R q).event
      unfolding item_event hand_over
      hands_over-true r [] c = none-declared r
      hands_over-true r (a ∷ q) c = none-declared r

      item-true : (m : Message) → take_first true t x s.mailbox ≡ taken m l → Invariant R (after_item s x l (item_receives R t (s.item x) m))
          → EventTrue (after_item s x l (item_receives R t (s.item x) m)) (item_receives R t (s.item x) m).event
      unfolding item_event item_receives on_request on_release
      item-true (up request) e kr =
          let r = after_item s x l (on_request R t (s.item x)) in
          by-test (λ (o : ItemStep). EventTrue r o.event) (held_by (s.item x).holder t || member t (s.item x).queue) (λ _ c. none-declared r) (λ _. granted_or_queued-true r (s.item x).holder)
      item-true (up release) e kr =
          let r = after_item s x l (on_release R t (s.item x)) in
          by-test (λ (o : ItemStep). EventTrue r o.event) (held_by (s.item x).holder t) (λ _. hands_over-true r (s.item x).queue) (λ _ c. none-declared r)
      item-true (up rebroadcast) e kr = λ c. none-declared _
      item-true (up withdraw) e kr = λ c. none-declared _
      item-true (down m) e kr = λ c. none-declared _
      item-true (probe i j) e kr = probe-true i j e kr
      item-true (clean v i) e kr = λ c. none-declared _
      item-true (abort v i) e kr = λ c. none-declared _

    taken_true : (t x : ℕ) → 1 ≤ x → x ≤ R.M → (p : Taken) → take_first true t x s.mailbox ≡ p → Invariant R (item_takes R s t x p)
        → True (item_takes R s t x p) (taken_event R t (s.item x) (item_takes R s t x p) p).declared
    unfolding item_takes taken_event
    taken_true t x lo hi no_entry e kr = none-declared _
    taken_true t x lo hi (taken m l) e kr = item-true t x lo hi l m e kr _

    move-true : (c : Call) → of_machine R c ≡ true → Invariant R (move R s c) → True (move R s c) (event_of R s c (move R s c)).declared
    unfolding move of_machine event_of session_event
    move-true (request_call t x) e kr = none-declared _
    move-true (release_call t x) e kr = none-declared _
    move-true (deliver_to_item t x) e kr = taken_true t x (item-low R t x e) (item-high R t x e) (take_first true t x s.mailbox) refl kr
    move-true (deliver_to_session t x) e kr = none-declared _
    move-true (reopen t) e kr = none-declared _

    step-true : (admits : State → Call → Bool) (c : Call) → True (step R admits s c).state (step R admits s c).event.declared
    unfolding step
    step-true admits c =
        by-test (λ (a : Stepped). True a.state a.event.declared) (of_machine R c && admits s c)
        (λ e. move-true c (and_both (of_machine R c) (admits s c) e).0 (invariant-move R L s k c (and_both (of_machine R c) (admits s c) e).0)) (λ _. none-declared s)

pub theorem : Statement
theorem R L admits = record {
  declarations-true = λ cs c d. step-true R L (run R admits (start R) cs).state (invariant R L admits cs) admits c d;
  settled-free = λ cs e t lo hi. none-on-cycle R L (run R admits (start R) cs).state (invariant R L admits cs) e t lo;
  counts-agree = counts-agree R L admits;
}
