-- A message at a session: its weight and the session's cover what the session sends, what it weighs then, and the delivery.
use mathlib.Core.Path.{◌≡◌, ap, refl}
use mathlib.Core.Bool.{◌&&◌, Bool, false, not, true}
use mathlib.Core.List.{[], ◌∷◌, List}
use Prim.Native.Nat.{◌*◌, ◌+◌, ◌≤◌, ℕ}
use native.Mathlib.Omega.{arith}
use native.Mathlib.Nat.{mul-le-mul_left}
use lib.Dec.{eqb}
use borrow.Author.Tests.{ne_eqb}
use Rattle.lists.proofs.Tests.{by-test, eqb_self}
use Rattle.deadlock.specs.Lists.{bit, one_to}
use Rattle.deadlock.specs.Machine.{abort, clean, cleaning, cleared, down, Entry, grant, growing, is_live, is_news, junior, Laws, Message, on_abort, on_clean, on_grant, on_probe, on_resend, on_withdrawn, probe, rebroadcast, rebroadcasts, release, releasing, resend, Rules, Sends, Session, session_drops, session_receives, SessionStep, Stage, State, stored_probes, store_probe, take_first, taken, to_awaited, to_each, up, victim, waiting, withdrawing, withdrawn}
use Rattle.deadlock.specs.Counts.{cleans_of}
use Rattle.deadlock.specs.World.{CleanUnderWay, is_cleaning}
use Rattle.deadlock.specs.Invariant.{down_route, Invariant, world_of}
use Rattle.deadlock.proofs.Laws.Routes.{take_same}
use Rattle.deadlock.proofs.Victims.OneOnCycle.{victim-of-down}
use Rattle.deadlock.proofs.Core.Kept.{known_of}
use Rattle.bound.specs.Formula.{clean_cost, hop_cost, items_cost, queue_cost, resend_cost, wait_cost}
use Rattle.bound.specs.Potential.{distance_in, session_weight, stage_weight, waits_left, weight}
use Rattle.bound.proofs.Sums.{length-one_to}
use Rattle.bound.proofs.Bounds.{distance_le, downward_some, store_le, upward_some}
use Rattle.bound.proofs.Sent.{sent-append, sent-probes_from, sent-to_each, sent_weight}
use Rattle.bound.proofs.Store.{store-falls}
use Rattle.bound.proofs.Ranges.{initiator-range, junior-range}

module _ (R : Rules) (L : Laws R) (s : State) (k : Invariant R s) (t x : ℕ) (low : 1 ≤ t) (high : t ≤ R.S) (l : List Entry) where
  abbrev distance : ℕ → ℕ → ℕ
  distance = distance_in R s

  abbrev own : Session
  own = s.session t

  abbrev to_item : ℕ → Message → ℕ
  to_item _ m = weight R distance true t m

  abbrev SessionCovered : Message → SessionStep → Type 0
  SessionCovered m o = session_weight R o.after + sent_weight to_item o.sends + 1 ≤ session_weight R own + weight R distance false t m

  -- every message covers its own delivery
  weight-some : (m : Message) → 1 ≤ weight R distance false t m
  unfolding weight clean_cost
  weight-some (up m) = upward_some R m
  weight-some (down m) = downward_some R m
  weight-some (probe i j) = omega arith
  weight-some (clean v i) = omega arith
  weight-some (abort v i) = omega arith

  dropped : (m : Message) → SessionCovered m (session_drops own)
  unfolding sent_weight
  dropped m = omega (arith, weight-some m)

  -- a release or a rebroadcast to each item that passes a test
  each_item : (m : Message) → weight R distance true t m ≡ queue_cost R.S → (f : ℕ → Bool) → sent_weight to_item (to_each m f (one_to R.M)) ≤ items_cost R.S R.M
  unfolding items_cost
  each_item m e f = rw length-one_to at (sent-to_each to_item (queue_cost R.S) m (λ _. e) f (one_to R.M))

  granted : (a : Stage) → own.stage ≡ a → SessionCovered (down grant) (on_grant R x own a)
  unfolding on_grant session_weight sent_weight weight
  granted growing e = dropped (down grant)
  granted (waiting y) e = by-test (SessionCovered (down grant)) (eqb y x) (λ _. omega arith) (λ _. dropped (down grant))
  granted (victim p y) e = dropped (down grant)
  granted (releasing p) e = dropped (down grant)

  -- a probe to the awaited item
  awaited_le : (i j : ℕ) (a : Stage) → sent_weight to_item (to_awaited a (probe i j)) ≤ 2
  unfolding to_awaited sent_weight weight
  awaited_le i j growing = omega arith
  awaited_le i j (waiting y) = omega arith
  awaited_le i j (victim p y) = omega arith
  awaited_le i j (releasing p) = omega arith

  probed : (i j : ℕ) → take_first false t x s.mailbox ≡ taken (probe i j) l → SessionCovered (probe i j) (on_probe R t own i j own.stage)
  unfolding on_probe store_probe session_weight weight
  probed i j e =
      by-test (SessionCovered (probe i j)) (is_live own.stage)
      (λ live. by-test (SessionCovered (probe i j)) (is_news R own.stored i (junior R j t))
      (λ news. omega (
        arith,
        awaited_le i (junior R j t) own.stage,
        store-falls L own.stored i (junior R j t) (initiator-range R s k t x i j l e live) (junior-range R s k t x i j l e live (low, high)) news,
      ))
      (λ _. dropped (probe i j)))
      (λ _. dropped (probe i j))

  resent : (a : Stage) → own.stage ≡ a → SessionCovered (down resend) (on_resend R x own a)
  unfolding on_resend stored_probes weight sent_weight resend_cost
  resent growing e = dropped (down resend)
  resent (waiting y) e =
      by-test (λ (o : Sends). SessionCovered (down resend) (record { after = own; sends = o })) (eqb y x)
      (λ _. omega (arith, rw length-one_to at (sent-probes_from to_item 2 x (λ i j. refl) own.stored (one_to R.S)))) (λ _. dropped (down resend))
  resent (victim p y) e = dropped (down resend)
  resent (releasing p) e = dropped (down resend)

  aborted : (v i : ℕ) (a : Stage) → own.stage ≡ a → SessionCovered (abort v i) (on_abort R own v i a)
  unfolding on_abort session_weight sent_weight weight wait_cost
  aborted v i growing e = dropped (abort v i)
  aborted v i (waiting y) e =
      omega (arith, ap (stage_weight R) e, store_le R (λ (_ : ℕ). 0), mul-le-mul_left (hop_cost R.S R.M) (distance_le R s t v))
  aborted v i (victim p y) e = dropped (abort v i)
  aborted v i (releasing p) e = dropped (abort v i)

  module _ (v i : ℕ) (e : take_first false t x s.mailbox ≡ taken (clean v i) l) where
    clean_of_victim : CleanUnderWay (world_of s) v
    unfolding down_route cleans_of
    clean_of_victim = victim-of-down (known_of R L s k.core) v t x (omega (arith, ap (cleans_of v) (take_same false t x s.mailbox (clean v i) l e), ap bit (eqb_self v)))

    -- a waiting session is not the victim
    not_there : (y : ℕ) → own.stage ≡ waiting y → waits_left R distance t v ≡ distance t v
    unfolding waits_left
    not_there y q = rw (ne_eqb t v (λ z. absurd (omega (arith, clean_of_victim, ap is_cleaning q, ap (λ (u : ℕ). is_cleaning (s.session u).stage) z))))

    rebroadcasts_le : sent_weight to_item (rebroadcasts R x own) ≤ items_cost R.S R.M
    unfolding rebroadcasts weight
    rebroadcasts_le = each_item (up rebroadcast) refl (λ (z : ℕ). own.held z && not (eqb z x))

    cleaned : (a : Stage) → own.stage ≡ a → SessionCovered (clean v i) (on_clean R t x own v i a)
    unfolding on_clean cleared session_weight sent_weight weight clean_cost
    cleaned growing q = omega (arith, store_le R (λ (_ : ℕ). 0), rebroadcasts_le)
    cleaned (waiting y) q = omega (
      arith,
      store_le R (λ (_ : ℕ). 0),
      rebroadcasts_le,
      sent-append to_item (rebroadcasts R x own) ((y, clean v i) ∷ []),
      ap (λ (n : ℕ). hop_cost R.S R.M * n) (not_there y q),
    )
    cleaned (victim cleaning y) q = by-test (SessionCovered (clean v i)) (eqb v t) (λ _. omega (arith, ap (stage_weight R) q)) (λ _. dropped (clean v i))
    cleaned (victim withdrawing y) q = dropped (clean v i)
    cleaned (releasing p) q = dropped (clean v i)

  rolled-back : (a : Stage) → own.stage ≡ a → SessionCovered (down withdrawn) (on_withdrawn R own a)
  unfolding on_withdrawn session_weight weight
  rolled-back growing e = dropped (down withdrawn)
  rolled-back (waiting y) e = dropped (down withdrawn)
  rolled-back (victim cleaning y) e = dropped (down withdrawn)
  rolled-back (victim withdrawing y) e = omega (arith, ap (stage_weight R) e, each_item (up release) refl own.held)
  rolled-back (releasing p) e = dropped (down withdrawn)

  pub session_covers : (m : Message) → take_first false t x s.mailbox ≡ taken m l → SessionCovered m (session_receives R t x own m)
  unfolding session_receives
  session_covers (up m) e = dropped (up m)
  session_covers (down grant) e = granted own.stage refl
  session_covers (down resend) e = resent own.stage refl
  session_covers (down withdrawn) e = rolled-back own.stage refl
  session_covers (probe i j) e = probed i j e
  session_covers (clean v i) e = cleaned v i e own.stage refl
  session_covers (abort v i) e = aborted v i own.stage refl
