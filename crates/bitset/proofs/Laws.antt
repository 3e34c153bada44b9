-- Laws of masks: the members, the lowest of them, and a place for one that is absent.
use mathlib.Core.Path.{◌≡◌, refl, sym, ◌∙◌}
use mathlib.Core.Bool.{Bool, true, false, cond}
use mathlib.Core.List.{List, [], ◌∷◌}
use Prim.Native.Nat.{ℕ, zero, suc, ◌+◌, ◌-◌, ◌*◌, ◌/◌, ◌%◌, ◌^◌, ◌≤◌, ◌<◌, zero-le, max}
use native.Mathlib.Nat.{add-mul, mod-lt, pow-suc, one-mul, max-zero, le-div_iff_mul-le}
use native.Mathlib.Omega.{arith}
use borrow.Author.Tests.{eqb-true}
use lib.Arith.{digits_lt}
use lib.Bits.{bit_or, or_step, or_zero_r}
use lib.Dec.{eqb}
use lib.Count.{count_trailing_zeros, under}
use lib.ListN.{length}
use lib.Pow.{shl_exact, shr_lt, shr-shr, pow-add, pow_pos, split}
use Rattle.bitset.specs.Bitset.{has, with_bit, bits_from}

-- what is known of the place t of the lowest set bit of mask, which is below 2 ^ d
abbrev pub Low : ℕ → ℕ → ℕ → Type 0
Low d mask t = (2 ^ t ≤ mask) × (t < d) × ((k : ℕ) → bits_from d k mask ≡ (k + t) ∷ bits_from d k (mask - 2 ^ t))

low_step : (d n t : ℕ) → 0 < n → (r : ℕ) → n % 2 ≡ r → (0 < n / 2 → Low d (n / 2) t) → Low (suc d) n (under r t)
unfolding bits_from
low_step d n t p zero e ih =
    let i = ih (omega arith) in
    let even : (n - 2 ^ suc t) % 2 ≡ 0 = omega (arith, pow-suc 2 t) in
    let half : (n - 2 ^ suc t) / 2 ≡ n / 2 - 2 ^ t = omega (arith, pow-suc 2 t) in
    let at : (k : ℕ) → suc k + t ≡ k + suc t = λ k. omega arith in
    (omega (arith, pow-suc 2 t), omega arith, λ k. rw (e, even, half, ← at k) (i.2 (suc k)))
low_step d n t p (suc r) e ih =
    let even : (n - 1) % 2 ≡ 0 = omega arith in
    let half : (n - 1) / 2 ≡ n / 2 = omega arith in
    let at : (k : ℕ) → k + 0 ≡ k = λ k. omega arith in
    (p, omega arith, λ k. rw (e, even, half, at k) refl)

-- trailing zeros find the lowest member
pub low : (d mask : ℕ) → 0 < mask → mask < 2 ^ d → Low d mask (count_trailing_zeros d mask)
unfolding count_trailing_zeros
low zero n p h = absurd (omega arith)
low (suc d) n p h = low_step d n (count_trailing_zeros d (n / 2)) p (n % 2) refl (λ q. low d (n / 2) q (omega (arith, pow-suc 2 d)))

pub trailing_below : (mask : ℕ) → (mask ≡ 0 → ⊥) → mask < 2 ^ 64 → count_trailing_zeros 64 mask < 64
trailing_below mask h f = (low 64 mask (omega arith) f).1

length-step : (r k d : ℕ) (l : List ℕ) → length l ≤ d → length (with_bit r k l) ≤ suc d
length-step zero k d l h = omega arith
length-step (suc r) k d l h = omega arith

pub bits_length : (d k mask : ℕ) → length (bits_from d k mask) ≤ d
unfolding bits_from
bits_length zero k n = zero-le
bits_length (suc d) k n = length-step (n % 2) k d (bits_from d (suc k) (n / 2)) (bits_length d (suc k) (n / 2))

pub bits_none : (d k : ℕ) → bits_from d k 0 ≡ []
unfolding bits_from
bits_none zero k = refl
bits_none (suc d) k = bits_none d (suc k)

-- the shift of 1 is the power
pub shift_one : (t : ℕ) → t < 64 → (1 * 2 ^ t) % 2 ^ 64 ≡ 2 ^ t
shift_one t h = shl_exact {a = 1} 1 t 64 (omega arith) (omega arith) ∙ one-mul (2 ^ t)

-- a number below a power of 2 has room for a digit that it lacks
pub room : (m t d : ℕ) → m < 2 ^ (d + 1 + t) → m / 2 ^ t % 2 ≡ 0 → m + 2 ^ t < 2 ^ (d + 1 + t)
room m t d h e =
    let q : m / 2 ^ t < 2 ^ (d + 1) = shr_lt (d + 1) t h in
    let more : m / 2 ^ t + 1 < 2 ^ (d + 1) = rw (pow-add 2 d 1) (omega (arith, rw (pow-add 2 d 1) at q)) in
    let sum : (m / 2 ^ t + 1) * 2 ^ t + m % 2 ^ t ≡ m + 2 ^ t = omega (arith, add-mul (m / 2 ^ t) 1 (2 ^ t), split m t) in
    rw (← sum, pow-add 2 (d + 1) t) (digits_lt more (mod-lt m (pow_pos t)))

-- a digit that is set by `or`: the number, if it had the digit, or more by a power of 2
lowest_or : (q d : ℕ) → d < 2 → q * 2 + max d 1 ≡ cond (eqb d 1) (q * 2 + d) (q * 2 + d + 1)
lowest_or q zero h = omega arith
lowest_or q (suc zero) h = omega arith
lowest_or q (suc (suc d)) h = absurd (omega arith)

higher_or : (b : Bool) (m t : ℕ) → cond b (m / 2) (m / 2 + 2 ^ t) * 2 + m % 2 ≡ cond b m (m + 2 ^ suc t)
higher_or true m t = omega arith
higher_or false m t = omega (arith, pow-suc 2 t)

pub or_bit : (t mask : ℕ) → bit_or mask (2 ^ t) ≡ cond (eqb (mask / 2 ^ t % 2) 1) mask (mask + 2 ^ t)
or_bit zero mask =
    let whole : mask / 1 ≡ mask = omega arith in
    let digits : mask / 2 * 2 + mask % 2 ≡ mask = omega arith in
    or_step mask 1 ∙ rw (or_zero_r (mask / 2), whole) (lowest_or (mask / 2) (mask % 2) (mod-lt mask (omega arith)) ∙ rw (digits) refl)
or_bit (suc t) mask =
    let half : 2 ^ suc t / 2 ≡ 2 ^ t = omega (arith, pow-suc 2 t) in
    let even : 2 ^ suc t % 2 ≡ 0 = omega (arith, pow-suc 2 t) in
    let one : 1 + t ≡ suc t = omega arith in
    let up : mask / 2 ^ suc t ≡ mask / 2 / 2 ^ t = sym (rw (one) at (shr-shr mask 1 t)) in
    or_step mask (2 ^ suc t) ∙ rw (half, even, max-zero (mask % 2), or_bit t (mask / 2), up) (higher_or (eqb (mask / 2 / 2 ^ t % 2) 1) mask t)

module _ (k mask : ℕ) where
  -- the bit of a number that is present can be taken away
  pub present_fits : has k mask ≡ true → 2 ^ (k - 1) ≤ mask
  unfolding has
  present_fits e =
      let one : mask / 2 ^ (k - 1) % 2 ≡ 1 = eqb-true (mask / 2 ^ (k - 1) % 2) 1 e in
      rw (one-mul) at ((le-div_iff_mul-le {x = 1} {y = mask} (pow_pos (k - 1))).0 (omega arith))
