-- A step of an item leaves the cycles of the victims whose cleans are on their way.
use mathlib.Core.Path.{◌≡◌, ap, refl}
use mathlib.Core.Bool.{◌||◌, true}
use mathlib.Core.List.{[], ◌∷◌, List}
use mathlib.Core.Option.{none, Option, some}
use Prim.Native.Nat.{◌≤◌, ℕ}
use native.Mathlib.Omega.{arith}
use Rattle.lists.specs.Lists.{member}
use Rattle.lists.proofs.Tests.{by-test}
use Rattle.deadlock.specs.Lists.{occurs}
use Rattle.deadlock.specs.Machine.{abort, after_item, clean, down, Entry, grant_or_queue, hand_over, held_by, item_drops, item_receives, ItemStep, Laws, Message, on_release, on_request, probe, rebroadcast, release, request, Rules, State, take_first, taken, up, withdraw, withdrawn}
use Rattle.deadlock.specs.World.{Known}
use Rattle.deadlock.specs.Invariant.{Invariant, mail_of, world_of}
use Rattle.deadlock.proofs.Laws.Lists.{occurs-without-le, updated-unchanged}
use Rattle.deadlock.proofs.Victims.KeptByWithdraw.{withdraw-stays-clean}
use Rattle.deadlock.proofs.Probes.PathsStay.{ItemTakes}
use Rattle.deadlock.proofs.Core.KeptByRequestAndRelease.{granted-stays, queued-stays, released-stays}
use Rattle.deadlock.proofs.Core.Kept.{item-takes, known_of}
use Rattle.bound.proofs.Distance.{cycle_of, CyclesStay}

module _ (R : Rules) (L : Laws R) (s : State) (k : Invariant R s) (t x : ℕ) (lo : 1 ≤ x) (hi : x ≤ R.M) (l : List Entry) where
  abbrev known_now : Known R (world_of s)
  known_now = known_of R L s k.core

  abbrev Stay : ItemStep → Type 0
  Stay o = CyclesStay R s (after_item s x l o)

  takes : (m : Message) → take_first true t x s.mailbox ≡ taken m l → (o : ItemStep) → ItemTakes (world_of s) t x m o.sends (mail_of (after_item s x l o))
  takes m e o = item-takes R L s k.core t x m l e o

  -- the item stays as it was
  unchanged : (o : ItemStep) → o.after ≡ s.item x → Stay o
  unfolding after_item
  unchanged o e v c u b w d = rw (e, updated-unchanged s.item x d.item) (d.stands, d.held)

  requested : take_first true t x s.mailbox ≡ taken (up request) l → (h : Option ℕ) → (s.item x).holder ≡ h → Stay (grant_or_queue R t (s.item x).queue h)
  unfolding grant_or_queue after_item
  requested e none free v c =
      let ar = takes (up request) e (grant_or_queue R t (s.item x).queue none) in
      (granted-stays L known_now t x lo hi _ _ ar.head free ar v (cycle_of R L s k v c)).edge_stays
  requested e (some h) held v c =
      let ar = takes (up request) e (grant_or_queue R t (s.item x).queue (some h)) in
      (queued-stays L known_now t x lo hi _ _ ar.head h held ar v (cycle_of R L s k v c)).edge_stays

  handed-over : take_first true t x s.mailbox ≡ taken (up release) l → (q : List ℕ) → (s.item x).queue ≡ q → Stay (hand_over R q)
  unfolding hand_over after_item occurs
  handed-over e [] p v c =
      let o = hand_over R [] in
      let ar = takes (up release) e o in
      (released-stays L known_now t x lo hi _ _ ar.head o.after (λ a. omega arith) ar v (cycle_of R L s k v c)).edge_stays
  handed-over e (j ∷ js) p v c =
      let o = hand_over R (j ∷ js) in
      let ar = takes (up release) e o in
      (released-stays L known_now t x lo hi _ _ ar.head o.after (λ a. omega (arith, occurs-without-le a (R.next j js) (j ∷ js), ap (occurs a) p)) ar v
      (cycle_of R L s k v c)).edge_stays

  withdrew : take_first true t x s.mailbox ≡ taken (up withdraw) l → Stay (item_receives R t (s.item x) (up withdraw))
  unfolding item_receives after_item
  withdrew e v c =
      let o = item_receives R t (s.item x) (up withdraw) in
      let ar : ItemTakes (world_of s) t x (up withdraw) ((t, down withdrawn) ∷ []) (mail_of (after_item s x l o)) = takes (up withdraw) e o in
      (withdraw-stays-clean L known_now lo hi ar v c).edge_stays

  pub item-stays : (m : Message) → take_first true t x s.mailbox ≡ taken m l → Stay (item_receives R t (s.item x) m)
  unfolding item_receives on_request on_release
  item-stays (up request) e =
      by-test Stay (held_by (s.item x).holder t || member t (s.item x).queue) (λ _. unchanged (item_drops (s.item x)) refl) (λ _. requested e (s.item x).holder refl)
  item-stays (up release) e =
      by-test Stay (held_by (s.item x).holder t) (λ _. handed-over e (s.item x).queue refl) (λ _. unchanged (item_drops (s.item x)) refl)
  item-stays (up rebroadcast) e = unchanged (item_receives R t (s.item x) (up rebroadcast)) refl
  item-stays (up withdraw) e = withdrew e
  item-stays (down m) e = unchanged (item_receives R t (s.item x) (down m)) refl
  item-stays (probe i j) e = unchanged (item_receives R t (s.item x) (probe i j)) refl
  item-stays (clean v i) e = unchanged (item_receives R t (s.item x) (clean v i)) refl
  item-stays (abort v i) e = unchanged (item_receives R t (s.item x) (abort v i)) refl
