-- Rounding half to even: the definition is rounded so, and no other number is.
use mathlib.Core.Path.{◌≡◌, sym}
use Prim.Native.Nat.{ℕ, ◌+◌, ◌*◌, ◌/◌, ◌%◌, ◌≤◌, ◌<◌}
use native.Mathlib.Nat.{add-zero, add-mul, div-add-mod', mod-lt, mul-le-mul_right}
use native.Mathlib.Omega.{arith}
use borrow.Author.Tests.{ltb-true, ltb-false, eqb-true, eqb-false}
use lib.Dec.{eqb, ltb}
use Rattle.lists.proofs.Tests.{by_answer, by-test}
use Rattle.yearly.specs.Rate.{round_half_even, rate}
use Rattle.yearly.specs.Claims.{distance, HalfEven, OneRounded}

-- by whether n is below k
by_order : {P : Type 0} (n k : ℕ) → (n < k → P) → (k ≤ n → P) → P
by_order n k f g = by_answer (ltb n k) (λ e. f (ltb-true n k e)) (λ e. g (ltb-false n k e))

-- different multiples of b are at least b apart
apart : (b n k : ℕ) → n < k → n * b + b ≤ k * b
apart b n k l = omega (arith, add-mul n 1 b, mul-le-mul_right b l)

-- ---- what the remainder says of the quotient and the next whole number
module _ (a b : ℕ) (h : 1 ≤ b) where
  -- the remainder is at most half of b, and half only where the quotient is even
  round_down : 2 * (a % b) ≤ b → (2 * (a % b) ≡ b → a / b % 2 ≡ 0) → HalfEven a b (a / b)
  round_down half tie =
      let q = a / b in
      let whole = div-add-mod' a b in
      let less = mod-lt a h in
      record {
        nearest = λ n. by_order q n (λ l. omega (arith, whole, half, apart b q n l)) (λ l. omega (arith, whole, mul-le-mul_right b l));
        even = λ n e d. tie (by_order q n (λ l. omega (arith, whole, half, e, apart b q n l)) (λ l. omega (arith, whole, less, e, apart b n q (omega (arith, d)))));
      }

  -- the remainder is at least half of b, and half only where the quotient is odd
  round_up : b ≤ 2 * (a % b) → (2 * (a % b) ≡ b → a / b % 2 ≡ 1) → HalfEven a b (a / b + 1)
  round_up half tie =
      let q = a / b in
      let whole = div-add-mod' a b in
      let less = mod-lt a h in
      let next = add-mul q 1 b in
      record {
        nearest = λ n. by_order q n (λ l. omega (arith, whole, less, next, apart b q n l)) (λ l. omega (arith, whole, less, half, next, mul-le-mul_right b l));
        even = λ n e d. by_order q n
            (λ l. absurd (omega (arith, whole, less, next, e, apart b (q + 1) n (omega (arith, d)))))
            (λ l. omega (arith, tie (omega (arith, whole, less, half, next, e, mul-le-mul_right b l))));
      }

  pub below_half : 2 * (a % b) < b → HalfEven a b (a / b)
  below_half l = round_down (omega (arith, l)) (λ t. absurd (omega (arith, l, t)))

  pub above_half : b < 2 * (a % b) → HalfEven a b (a / b + 1)
  above_half l = round_up (omega (arith, l)) (λ t. absurd (omega (arith, l, t)))

  pub at-half : 2 * (a % b) ≡ b → HalfEven a b (a / b + a / b % 2)
  at-half t =
      let q = a / b in
      by_answer (eqb (q % 2) 0)
      (λ e. let even = eqb-true (q % 2) 0 e in rw (even, add-zero q) (round_down (omega (arith, t)) (λ _. even)))
      (λ e. let odd : q % 2 ≡ 1 = omega (arith, eqb-false (q % 2) 0 e) in rw (odd) (round_up (omega (arith, t)) (λ _. odd)))

  half-even : HalfEven a b (round_half_even a b)
  unfolding round_half_even
  half-even =
      let twice = 2 * (a % b) in
      by-test (HalfEven a b) (ltb twice b) (λ e. below_half (ltb-true twice b e))
      (λ e. by-test (HalfEven a b) (ltb b twice) (λ f. above_half (ltb-true b twice f)) (λ f. at-half (omega (arith, ltb-false twice b e, ltb-false b twice f))))

pub rounded : (rollbacks sessions : ℕ) → 1 ≤ sessions → HalfEven (1000 * rollbacks) sessions (rate rollbacks sessions)
rounded rollbacks sessions h = half-even (1000 * rollbacks) sessions h

-- two that are as near are both even, so another is between them, and it is nearer
none_greater : (a b k l : ℕ) → 1 ≤ b → HalfEven a b k → HalfEven a b l → k < l → ⊥
none_greater a b k l h u v less =
    let same : distance a b k ≡ distance a b l = omega (arith, u.nearest l, v.nearest k) in
    let k-even = u.even l (sym same) (λ e. omega (arith, less, e)) in
    let l-even = v.even k same (λ e. omega (arith, less, e)) in
    omega (arith, h, same, u.nearest (k + 1), add-mul k 1 b, apart b (k + 1) l (omega (arith, less, k-even, l-even)))

pub one-rounded : OneRounded
one-rounded a b k l h u v =
    by_order k l (λ f. absurd (none_greater a b k l h u v f)) (λ f. by_order l k (λ g. absurd (none_greater a b l k h v u g)) (λ g. omega (arith, f, g)))

pub rate_small : (rollbacks sessions : ℕ) → 1 ≤ sessions → rollbacks ≤ sessions → rate rollbacks sessions < 1001
rate_small rollbacks sessions h f =
    by_order (rate rollbacks sessions) 1001 (λ l. l)
    (λ l. absurd (omega (arith, h, f, (rounded rollbacks sessions h).nearest 1000, mul-le-mul_right sessions l)))
