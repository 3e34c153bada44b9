-- The costs in numbers, with at most 64 sessions and 64 items.
use Prim.Native.Nat.{◌*◌, ◌+◌, ◌≤◌, ℕ}
use native.Mathlib.Omega.{arith}
use native.Mathlib.Nat.{mul-le-mul_left, mul-le-mul_right}
use Rattle.bound.specs.Formula.{clean_cost, hop_cost, items_cost, message_cost, queue_cost, resend_cost, store_cost, wait_cost}

pub mul_le : {a b c d : ℕ} → a ≤ b → c ≤ d → a * c ≤ b * d
mul_le {a} {b} {c} {d} p q = omega (arith, mul-le-mul_right c p, mul-le-mul_left b q)

module _ (S M : ℕ) (s : S ≤ 64) (m : M ≤ 64) where
  queue_small : queue_cost S ≤ 8322
  unfolding queue_cost resend_cost
  queue_small = omega (arith, mul_le s s)

  items_small : items_cost S M ≤ 532608
  unfolding items_cost
  items_small = omega (arith, mul_le m queue_small)

  store_small : store_cost S ≤ 8192
  unfolding store_cost
  store_small = omega (arith, mul_le s s)

  hop_small : hop_cost S M ≤ 549126
  unfolding hop_cost clean_cost
  hop_small = omega (arith, queue_small, items_small, store_small)

  pub session_small : wait_cost S M + store_cost S ≤ 35693056
  unfolding wait_cost
  session_small = omega (arith, mul_le hop_small s, items_small, store_small)

  pub message_small : message_cost S M ≤ 35693190
  unfolding message_cost
  message_small = omega (arith, mul_le hop_small s, hop_small)
