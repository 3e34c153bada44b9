-- The theorem: every delivery makes the potential fall, and the potential is bounded.
use mathlib.Core.Path.{◌∙◌, ◌≡◌, ap, refl}
use mathlib.Core.Bool.{false, false≢true, true}
use mathlib.Core.List.{◌∷◌, List}
use mathlib.Core.Option.{some}
use Prim.Native.Nat.{◌+◌, ◌≤◌, ℕ}
use native.Mathlib.Omega.{arith}
use lib.ListN.{length}
use Rattle.lists.proofs.Searches.{sum_changed}
use Rattle.lists.proofs.Tests.{eqb_self}
use Rattle.deadlock.specs.Lists.{bit, updated}
use Rattle.deadlock.specs.Machine.{after_item, after_session, clean, deliver_to_item, deliver_to_session, Entry, item_receives, item_takes, Laws, Message, move, no_entry, of_machine, release_call, reopen, request_call, route, Rules, Session, session_receives, session_takes, State, take_first, Taken, taken, waits_for}
use Rattle.deadlock.specs.Counts.{cleans_of}
use Rattle.deadlock.specs.Invariant.{Invariant, up_route}
use Rattle.deadlock.proofs.Laws.Lists.{updated-other, updated-same}
use Rattle.deadlock.proofs.Laws.Routes.{take_same}
use Rattle.deadlock.proofs.Laws.Stages.{seen-facts}
use Rattle.deadlock.proofs.Links.Kept.{item-high, item-low, session-high, session-low}
use Rattle.deadlock.proofs.InvariantKept.{invariant-move}
use Rattle.bound.specs.Formula.{delivery_bound}
use Rattle.bound.specs.Potential.{distance_in, mail_weight, potential, session_weight, waits_left, weight}
use Rattle.bound.specs.Statement.{delivers, Falls, is_taken, SmallBound, Statement}
use Rattle.bound.proofs.Sums.{length_le}
use Rattle.bound.proofs.Mail.{sum-item, sum-session}
use Rattle.bound.proofs.Bounds.{bounded}
use Rattle.bound.proofs.Numbers.{message_small, mul_le, session_small}
use Rattle.bound.proofs.Distance.{clean-up-walk, cycle_of, CyclesStay, distance_some, distance-stays, mail-stays, one_less, stays-waits_for}
use Rattle.bound.proofs.CyclesStay.{item-stays}
use Rattle.bound.proofs.ItemCovers.{item_covers}
use Rattle.bound.proofs.SessionCovers.{session_covers}

module _ (R : Rules) (L : Laws R) (s : State) (k : Invariant R s) (t x : ℕ) (lo : 1 ≤ x) (hi : x ≤ R.M) where
  -- at most S sessions stand in a queue
  queue_short : length (s.item x).queue ≤ R.S
  queue_short = length_le R.S (s.item x).queue (λ a. let f = k.core.links.linked a x lo hi in omega (arith, seen-facts (s.session a).stage x)) (k.is_in_range x).queue

  -- ---- a message at an item
  module _ (m : Message) (l : List Entry) (e : take_first true t x s.mailbox ≡ taken m l) where
    abbrev after : State
    after = after_item s x l (item_receives R t (s.item x) m)

    module _ (kr : Invariant R after) where
      stay : CyclesStay R s after
      stay = item-stays R L s k t x lo hi l m e

      -- a clean goes on by a wait of its victim's cycle
      clean-goes-on : (v i : ℕ) → m ≡ clean v i
          → (1 ≤ distance_in R after t v) × ((h : ℕ) → (s.item x).holder ≡ some h → waits_left R (distance_in R after) h v + 1 ≤ distance_in R after t v)
      unfolding up_route cleans_of
      clean-goes-on v i q = (some_left, λ h y. rw (← next h y) (one_less R after t v some_left))
        where
          here : 1 ≤ cleans_of v (route true t x s.mailbox)
          here = omega (arith, ap (cleans_of v) (take_same true t x s.mailbox m l e ∙ ap (λ (a : Message). a ∷ route true t x l) q), ap bit (eqb_self v))

          some_left : 1 ≤ distance_in R after t v
          some_left =
              let w = clean-up-walk R L s k v t x here in
              omega (arith, distance-stays R L s after k kr stay v t w, distance_some R L s k v t (cycle_of R L s k v w.0) w.1)

          next : (h : ℕ) → (s.item x).holder ≡ some h → waits_for R after t ≡ h
          next h y =
              let w = clean-up-walk R L s k v t x here in
              let stands = (k.core.victims.clean-up-on-cycle v t x here).stands in
              stays-waits_for R L s after k kr stay v t h w.0 w.1 (record { item = x; low = lo; high = hi; stands = stands; held = y })

      item-falls : potential R after + 1 ≤ potential R s
      unfolding potential mail_weight after_item
      item-falls = omega (
        arith,
        mail-stays R L s after k kr stay,
        sum-item (λ (a : Entry). weight R (distance_in R after) a.to_item a.session a.message) t x s.mailbox m l (item_receives R t (s.item x) m).sends e,
        item_covers R (distance_in R after) t (s.item x) queue_short m clean-goes-on,
      )

  item-delivery : (p : Taken) → take_first true t x s.mailbox ≡ p → is_taken p ≡ true → Invariant R (item_takes R s t x p) → potential R (item_takes R s t x p) + 1 ≤ potential R s
  unfolding item_takes
  item-delivery no_entry e h kr = absurd (false≢true h)
  item-delivery (taken m l) e h kr = item-falls m l e kr

  -- ---- a message at a session
  module _ (low : 1 ≤ t) (high : t ≤ R.S) where
    session-falls : (m : Message) (l : List Entry) → take_first false t x s.mailbox ≡ taken m l
        → potential R (after_session s t l (session_receives R t x (s.session t) m)) + 1 ≤ potential R s
    unfolding potential mail_weight after_session distance_in waits_for
    session-falls m l e =
        let f : Session → ℕ = session_weight R in
        let o = session_receives R t x (s.session t) m in
        omega (
          arith,
          sum_changed R.S t (λ a. f (s.session a)) (λ a. f (updated s.session t o.after a)) low high (λ a ne. ap f (updated-other s.session t o.after a ne)),
          ap f (updated-same s.session t o.after),
          sum-session (λ (a : Entry). weight R (distance_in R s) a.to_item a.session a.message) t x s.mailbox m l o.sends e,
          session_covers R L s k t x low high l m e,
        )

    session-delivery : (p : Taken) → take_first false t x s.mailbox ≡ p → is_taken p ≡ true → potential R (session_takes R s t x p) + 1 ≤ potential R s
    unfolding session_takes
    session-delivery no_entry e h = absurd (false≢true h)
    session-delivery (taken m l) e h = session-falls m l e

falls : (R : Rules) → Laws R → Falls R
unfolding move of_machine delivers
falls R L s k (request_call t x) e h = absurd (false≢true h)
falls R L s k (release_call t x) e h = absurd (false≢true h)
falls R L s k (reopen t) e h = absurd (false≢true h)
falls R L s k (deliver_to_item t x) e h =
    item-delivery R L s k t x (item-low R t x e) (item-high R t x e) (take_first true t x s.mailbox) refl h (invariant-move R L s k (deliver_to_item t x) e)
falls R L s k (deliver_to_session t x) e h =
    session-delivery R L s k t x (item-low R t x e) (item-high R t x e) (session-low R t x e) (session-high R t x e) (take_first false t x s.mailbox) refl h

pub theorem : Statement
theorem R L = record { falls = falls R L; bounded = bounded R }

pub small_bound : SmallBound
unfolding delivery_bound
small_bound S M n s m k = omega (arith, mul_le s (session_small S M s m), mul_le k (message_small S M s m))
