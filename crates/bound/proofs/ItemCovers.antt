-- A message at an item: its weight covers what the item sends, and its own delivery.
use mathlib.Core.Path.{◌≡◌, refl}
use mathlib.Core.Bool.{◌||◌, false, true}
use mathlib.Core.List.{[], ◌∷◌, List}
use mathlib.Core.Option.{none, Option, some}
use Prim.Native.Nat.{◌+◌, ◌≤◌, ℕ}
use native.Mathlib.Omega.{arith}
use native.Mathlib.Nat.{mul-le-mul_left, mul-le-mul_right}
use lib.Dec.{eqb}
use lib.ListN.{length}
use Rattle.lists.specs.Lists.{member}
use Rattle.lists.proofs.Tests.{by-test}
use Rattle.deadlock.specs.Lists.{without}
use Rattle.deadlock.specs.Machine.{abort, clean, down, grant_or_queue, hand_over, held_by, in_queue, Item, item_drops, item_receives, ItemStep, Message, on_rebroadcast, on_release, on_request, pass_clean, pass_probe, probe, probes_anew, probes_to, rebroadcast, release, request, resends, Rules, Sends, up, withdraw}
use Rattle.bound.specs.Formula.{hop_cost, queue_cost, resend_cost}
use Rattle.bound.specs.Potential.{waits_left, weight}
use Rattle.bound.proofs.Sums.{length_without}
use Rattle.bound.proofs.Bounds.{downward_some, upward_some}
use Rattle.bound.proofs.Sent.{sent-append, sent-probes_to, sent-resends, sent_weight}

module _ (R : Rules) (distance : ℕ → ℕ → ℕ) (t : ℕ) where
  abbrev sent : Sends → ℕ
  sent = sent_weight (weight R distance false)

  abbrev pub ItemCovered : Message → ItemStep → Type 0
  ItemCovered m o = sent_weight (weight R distance false) o.sends + 1 ≤ weight R distance true t m

  -- what an item sends anew for a queue of at most S sessions
  queue-covered : (h : ℕ) (l k : List ℕ) → length l ≤ R.S → length k ≤ R.S → sent (probes_anew R h l k) + 2 ≤ queue_cost R.S
  unfolding probes_anew weight queue_cost
  queue-covered h l k a b = omega (
    arith,
    sent-append (weight R distance false) (probes_to R h l) (resends k),
    sent-probes_to (weight R distance false) R h (λ i j. refl) l,
    sent-resends (weight R distance false) (resend_cost R.S) (λ _. refl) k,
    mul-le-mul_right (resend_cost R.S) b,
  )

  requested : (l : List ℕ) (o : Option ℕ) → ItemCovered (up request) (grant_or_queue R t l o)
  unfolding grant_or_queue sent_weight weight
  requested l none = omega arith
  requested l (some h) = by-test (λ (q : Sends). sent q + 1 ≤ 2) (R.senior t h) (λ _. omega arith) (λ _. omega arith)

  handed-over : (l : List ℕ) → length l ≤ R.S → ItemCovered (up release) (hand_over R l)
  unfolding hand_over sent_weight weight
  handed-over [] h = omega (arith, upward_some R release)
  handed-over (x ∷ xs) h =
      let a = R.next x xs in
      let n = length_without a (x ∷ xs) in
      omega (arith, queue-covered a (without a (x ∷ xs)) (without a (x ∷ xs)) (omega arith) (omega arith))

  rebroadcasted : (l : List ℕ) (o : Option ℕ) → length l ≤ R.S → sent (on_rebroadcast R l o) + 1 ≤ weight R distance true t (up rebroadcast)
  unfolding on_rebroadcast sent_weight weight
  rebroadcasted l none h = omega (arith, upward_some R rebroadcast)
  rebroadcasted l (some a) h = omega (arith, queue-covered a l l h h)

  probed : (i j : ℕ) (o : Option ℕ) → sent (pass_probe R i j o) + 1 ≤ 2
  unfolding pass_probe sent_weight weight
  probed i j none = omega arith
  probed i j (some h) =
      by-test (λ (q : Sends). sent q + 1 ≤ 2) (R.senior h i) (λ _. omega arith)
      (λ _. by-test (λ (q : Sends). sent q + 1 ≤ 2) (eqb h i) (λ _. omega arith) (λ _. omega arith))

  -- the holder has one wait less before it
  cleaned : (v i : ℕ) (l : List ℕ) (o : Option ℕ) → length l ≤ R.S → 1 ≤ distance t v → ((h : ℕ) → o ≡ some h → waits_left R distance h v + 1 ≤ distance t v)
      → sent (pass_clean R t v i l o) + 1 ≤ weight R distance true t (clean v i)
  unfolding pass_clean sent_weight weight hop_cost
  cleaned v i l none h lo less = omega (arith, mul-le-mul_left (hop_cost R.S R.M) lo, upward_some R release)
  cleaned v i l (some a) h lo less =
      let n = length_without t l in
      omega (arith, mul-le-mul_left (hop_cost R.S R.M) (less a refl), queue-covered a l (without t l) h (omega arith))

  module _ (r : Item) (short : length r.queue ≤ R.S) where
    dropped : (m : Message) → 1 ≤ weight R distance true t m → ItemCovered m (item_drops r)
    unfolding sent_weight
    dropped m h = omega arith

    pub item_covers : (m : Message) → ((v i : ℕ) → m ≡ clean v i → (1 ≤ distance t v) × ((h : ℕ) → r.holder ≡ some h → waits_left R distance h v + 1 ≤ distance t v))
        → ItemCovered m (item_receives R t r m)
    unfolding item_receives on_request on_release weight sent_weight
    item_covers (up request) f =
        by-test (ItemCovered (up request)) (held_by r.holder t || member t r.queue) (λ _. dropped (up request) (omega arith)) (λ _. requested r.queue r.holder)
    item_covers (up release) f =
        by-test (ItemCovered (up release)) (held_by r.holder t) (λ _. handed-over r.queue short)
        (λ _. dropped (up release) (upward_some R release))
    item_covers (up rebroadcast) f = rebroadcasted r.queue r.holder short
    item_covers (up withdraw) f = omega arith
    item_covers (down m) f = dropped (down m) (downward_some R m)
    item_covers (probe i j) f = by-test (λ (q : Sends). sent q + 1 ≤ 2) (in_queue R t r) (λ _. probed i j r.holder) (λ _. omega arith)
    item_covers (clean v i) f = cleaned v i r.queue r.holder short (f v i refl).0 (f v i refl).1
    item_covers (abort v i) f = dropped (abort v i) (omega arith)
