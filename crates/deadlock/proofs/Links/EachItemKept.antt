-- What holds of each item by itself and is kept by every step: a free item has an empty queue, and the sessions that it names are in range.
use mathlib.Core.Path.{◌≡◌, ap, refl}
use mathlib.Core.Bool.{◌||◌, true}
use mathlib.Core.List.{[], ◌∷◌, List}
use mathlib.Core.Option.{none, Option, some}
use Prim.Native.Nat.{◌≤◌, ℕ}
use native.Mathlib.Omega.{arith}
use Rattle.lists.specs.Lists.{member}
use Rattle.lists.proofs.Tests.{by-test, same?}
use borrow.Author.Tests.{ne_eqb}
use Rattle.deadlock.specs.Lists.{bit, occurs, without}
use Rattle.deadlock.specs.Machine.{abort, accepted, after_answer, after_item, after_session, Answer, Call, clean, deliver_to_item, deliver_to_session, down, grant_or_queue, hand_over, held_by, Item, item_receives, ItemStep, item_takes, Laws, Message, move, no_entry, of_machine, on_release, on_request, probe, rebroadcast, refused, release, release_call, reopen, request, request_call, Rules, session_takes, State, Taken, taken, up, withdraw}
use Rattle.deadlock.specs.World.{FreeIsEmpty}
use Rattle.deadlock.specs.Invariant.{InRange}
use Rattle.deadlock.proofs.Laws.Lists.{member-occurs, occurs-append, occurs-without-le, updated-other, updated-same}
use Rattle.deadlock.proofs.Links.Kept.{session-high, session-low}

-- a fact of each item by itself that an item keeps on every message is kept by every admitted call
module _ (R : Rules) (P : Item → Type 0) (keep : (t : ℕ) (i : Item) (m : Message) → 1 ≤ t → t ≤ R.S → P i → P (item_receives R t i m).after) where
  each-item-answer : (s : State) (t : ℕ) (a : Answer) (z : ℕ) → P (s.item z) → P ((after_answer R s t a).item z)
  unfolding after_answer after_session
  each-item-answer s t refused z h = h
  each-item-answer s t (accepted o) z h = h

  each-item-item : (s : State) (t x : ℕ) → 1 ≤ t → t ≤ R.S → (p : Taken) (z : ℕ) → ((z : ℕ) → P (s.item z)) → P ((item_takes R s t x p).item z)
  unfolding item_takes after_item
  each-item-item s t x lo hi no_entry z h = h z
  each-item-item s t x lo hi (taken m l) z h = elim (same? x z) [
    | yes q ↦ rw (← q, updated-same) (keep t (s.item x) m lo hi (h x))
    | no q ↦ rw (updated-other s.item x (item_receives R t (s.item x) m).after z q) (h z)
  ]

  each-item-session : (s : State) (t x : ℕ) (p : Taken) (z : ℕ) → P (s.item z) → P ((session_takes R s t x p).item z)
  unfolding session_takes after_session
  each-item-session s t x no_entry z h = h
  each-item-session s t x (taken m l) z h = h

  pub each-item-move : (s : State) (c : Call) → of_machine R c ≡ true → ((z : ℕ) → P (s.item z)) → (z : ℕ) → P ((move R s c).item z)
  unfolding move of_machine
  each-item-move s (request_call t x) e h z = each-item-answer s t _ z (h z)
  each-item-move s (release_call t x) e h z = each-item-answer s t _ z (h z)
  each-item-move s (deliver_to_item t x) e h z = each-item-item s t x (session-low R t x e) (session-high R t x e) _ z h
  each-item-move s (deliver_to_session t x) e h z = each-item-session s t x _ z (h z)
  each-item-move s (reopen t) e h z = each-item-answer s t _ z (h z)

free-granted-or-queued : (R : Rules) (t : ℕ) (l : List ℕ) (o : Option ℕ) → FreeIsEmpty (grant_or_queue R t l o).after
unfolding FreeIsEmpty grant_or_queue
free-granted-or-queued R t l none e = cc
free-granted-or-queued R t l (some h) e = cc

free-hands-over : (R : Rules) (l : List ℕ) → FreeIsEmpty (hand_over R l).after
unfolding FreeIsEmpty hand_over
free-hands-over R [] e = refl
free-hands-over R (a ∷ l) e = cc

pub free-kept : (R : Rules) (t : ℕ) (i : Item) (m : Message) → 1 ≤ t → t ≤ R.S → FreeIsEmpty i → FreeIsEmpty (item_receives R t i m).after
unfolding FreeIsEmpty item_receives on_request on_release without
free-kept R t i (up request) lo hi h = by-test (λ (o : ItemStep). FreeIsEmpty o.after) (held_by i.holder t || member t i.queue) (λ _. h) (λ _. free-granted-or-queued R t i.queue i.holder)
free-kept R t i (up release) lo hi h = by-test (λ (o : ItemStep). FreeIsEmpty o.after) (held_by i.holder t) (λ _. free-hands-over R i.queue) (λ _. h)
free-kept R t i (up rebroadcast) lo hi h = h
free-kept R t i (up withdraw) lo hi h = λ e. rw (h e)
free-kept R t i (down m) lo hi h = h
free-kept R t i (probe a b) lo hi h = h
free-kept R t i (clean a b) lo hi h = h
free-kept R t i (abort a b) lo hi h = h

module _ (R : Rules) (L : Laws R) where
  range-granted-or-queued : (t : ℕ) → 1 ≤ t → t ≤ R.S → (l : List ℕ) (o : Option ℕ) → InRange R (record { holder = o; queue = l })
      → InRange R (grant_or_queue R t l o).after
  unfolding grant_or_queue occurs
  range-granted-or-queued t lo hi l none h = record { holder = λ k e. let q : t ≡ k = cc in (rw (← q) lo, rw (← q) hi); queue = h.queue }
  range-granted-or-queued t lo hi l (some k) h = record {
    holder = h.holder;
    queue = λ a p. elim (same? t a) [ yes q ↦ (rw (← q) lo, rw (← q) hi) | no q ↦ h.queue a (omega (arith, occurs-append a l (t ∷ []), ap bit (ne_eqb t a q))) ];
  }

  range-hands-over : (l : List ℕ) (o : Option ℕ) → InRange R (record { holder = o; queue = l }) → InRange R (hand_over R l).after
  unfolding hand_over
  range-hands-over [] o h = record { holder = λ k e. let z : ◌≡◌ {A = ℕ} 0 1 = cc in absurd (omega arith); queue = h.queue }
  range-hands-over (a ∷ l) o h =
      let k = R.next a l in
      record {
        holder = λ k' e. let q : k ≡ k' = cc in h.queue k' (rw (← q) (member-occurs k (a ∷ l) (L.next-member a l)));
        queue = λ b p. h.queue b (omega (arith, occurs-without-le b k (a ∷ l)));
      }

  pub range-kept : (t : ℕ) (i : Item) (m : Message) → 1 ≤ t → t ≤ R.S → InRange R i → InRange R (item_receives R t i m).after
  unfolding item_receives on_request on_release
  range-kept t i (up request) lo hi h = by-test (λ (o : ItemStep). InRange R o.after) (held_by i.holder t || member t i.queue) (λ _. h) (λ _. range-granted-or-queued t lo hi i.queue i.holder h)
  range-kept t i (up release) lo hi h = by-test (λ (o : ItemStep). InRange R o.after) (held_by i.holder t) (λ _. range-hands-over i.queue i.holder h) (λ _. h)
  range-kept t i (up rebroadcast) lo hi h = h
  range-kept t i (up withdraw) lo hi h = record { holder = h.holder; queue = λ b p. h.queue b (omega (arith, occurs-without-le b t i.queue)) }
  range-kept t i (down m) lo hi h = h
  range-kept t i (probe a b) lo hi h = h
  range-kept t i (clean a b) lo hi h = h
  range-kept t i (abort a b) lo hi h = h
