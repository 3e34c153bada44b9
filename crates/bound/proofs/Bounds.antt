-- What each message and each session weighs at the least and at the most, and so the state.
use mathlib.Core.Bool.{Bool, false, true}
use mathlib.Core.List.{[], ◌∷◌, List}
use Prim.Native.Nat.{◌*◌, ◌+◌, ◌≤◌, ℕ}
use native.Mathlib.Omega.{arith}
use native.Mathlib.Nat.{mul-le-mul_left}
use lib.Dec.{eqb}
use lib.ListN.{length}
use Rattle.lists.specs.Lists.{count_up_to}
use Rattle.lists.proofs.Searches.{count_le, lowest_le}
use Rattle.lists.proofs.Tests.{by-test}
use Rattle.deadlock.specs.Machine.{abort, clean, down, Downward, Entry, grant, growing, is_news, Message, probe, rebroadcast, release, releasing, request, resend, Rules, Session, Stage, State, up, Upward, victim, waiting, withdraw, withdrawn}
use Rattle.bound.specs.Formula.{clean_cost, delivery_bound, hop_cost, message_cost, queue_cost, resend_cost, store_cost, wait_cost}
use Rattle.bound.specs.Potential.{distance_in, downward_weight, mail_sum, mail_weight, potential, session_weight, stage_weight, store_weight, upward_weight, waits_left, weight}
use Rattle.bound.specs.Statement.{Bounded}
use Rattle.bound.proofs.Sums.{sum_le}

module _ (R : Rules) where
  -- ---- sessions
  pub store_le : (f : ℕ → ℕ) → store_weight R f ≤ store_cost R.S
  unfolding store_weight store_cost
  store_le f = sum_le R.S (2 * R.S) (λ i. 2 * count_up_to R.S (is_news R f i)) (λ i. omega (arith, count_le R.S (is_news R f i)))

  stage_le : (a : Stage) → stage_weight R a ≤ wait_cost R.S R.M
  unfolding wait_cost
  stage_le growing = omega arith
  stage_le (waiting y) = omega arith
  stage_le (victim p y) = omega arith
  stage_le (releasing p) = omega arith

  session_le : (r : Session) → session_weight R r ≤ wait_cost R.S R.M + store_cost R.S
  unfolding session_weight
  session_le r = omega (arith, stage_le r.stage, store_le r.stored)

  -- ---- messages
  pub upward_some : (m : Upward) → 1 ≤ upward_weight R m
  unfolding queue_cost
  upward_some request = omega arith
  upward_some release = omega arith
  upward_some rebroadcast = omega arith
  upward_some withdraw = omega arith

  pub downward_some : (m : Downward) → 1 ≤ downward_weight R m
  unfolding resend_cost
  downward_some grant = omega arith
  downward_some resend = omega arith
  downward_some withdrawn = omega arith

  upward_le : (m : Upward) → upward_weight R m ≤ hop_cost R.S R.M
  unfolding hop_cost queue_cost
  upward_le request = omega arith
  upward_le release = omega arith
  upward_le rebroadcast = omega arith
  upward_le withdraw = omega arith

  downward_le : (m : Downward) → downward_weight R m ≤ hop_cost R.S R.M
  unfolding hop_cost clean_cost store_cost queue_cost resend_cost
  downward_le grant = omega arith
  downward_le resend = omega arith
  downward_le withdrawn = omega arith

  pub distance_le : (s : State) (t v : ℕ) → distance_in R s t v ≤ R.S
  unfolding distance_in
  distance_le s t v = lowest_le R.S _

  module _ (distance : ℕ → ℕ → ℕ) (le : (t v : ℕ) → distance t v ≤ R.S) where
    left_le : (t v : ℕ) → waits_left R distance t v ≤ R.S
    unfolding waits_left
    left_le t v = by-test (λ (k : ℕ). k ≤ R.S) (eqb t v) (λ _. omega arith) (λ _. le t v)

    message_le : (d : Bool) (t : ℕ) (m : Message) → weight R distance d t m ≤ message_cost R.S R.M
    unfolding weight message_cost hop_cost clean_cost
    message_le d t (up m) = omega (arith, upward_le m)
    message_le d t (down m) = omega (arith, downward_le m)
    message_le true t (probe i j) = omega arith
    message_le false t (probe i j) = omega arith
    message_le true t (clean v i) = omega (arith, mul-le-mul_left (hop_cost R.S R.M) (le t v))
    message_le false t (clean v i) = omega (arith, mul-le-mul_left (hop_cost R.S R.M) (left_le t v))
    message_le d t (abort v i) = omega arith

    mail_le : (l : List Entry) → mail_weight R distance l ≤ length l * message_cost R.S R.M
    unfolding mail_weight mail_sum
    mail_le [] = omega arith
    mail_le (e ∷ l) = omega (arith, message_le e.to_item e.session e.message, mail_le l)

  -- ---- the state
  pub bounded : Bounded R
  unfolding potential delivery_bound
  bounded s = omega (
    arith,
    sum_le R.S (wait_cost R.S R.M + store_cost R.S) (λ t. session_weight R (s.session t)) (λ t. session_le (s.session t)),
    mail_le (distance_in R s) (distance_le s) s.mailbox,
  )
