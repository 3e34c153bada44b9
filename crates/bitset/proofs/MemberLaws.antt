-- Laws of membership in a mask: after a number is put in or taken out, in the empty mask, above the mask's bound, and as the list of members.
use mathlib.Core.Path.{◌≡◌, refl, sym, ap, ◌∙◌}
use mathlib.Core.Bool.{Bool, true, false, cond, ◌||◌, or-false, or-true}
use mathlib.Core.List.{List, [], ◌∷◌}
use Prim.Native.Nat.{ℕ, zero, suc, ◌+◌, ◌-◌, ◌*◌, ◌/◌, ◌%◌, ◌^◌, ◌≤◌, ◌<◌}
use native.Mathlib.Nat.{add-mul, mod-lt, div-eq_of_lt, pow-suc}
use native.Mathlib.Numerals.{add-one}
use native.Mathlib.Omega.{arith}
use lib.Dec.{eqb, ltb}
use lib.Pow.{pow_pos, pow_mono, split, high, low, shr-shr, field, mod-mod-pow, ones_lt, ones_split}
use borrow.Author.Tests.{ltb-true, ltb-false, eqb-true, eqb-false, eq-eqb, ne_eqb}
use Rattle.lists.proofs.Tests.{by_answer, eqb_self}
use Rattle.bitset.specs.Bitset.{has, single, full, insert, remove, with_bit, bits_from, members}
use Rattle.bitset.proofs.Laws.{room, present_fits}

-- the digits of a number below place t are those of its remainder, the digits above it those of half its quotient
module _ (n t u : ℕ) where
  digit-below : u < t → n / 2 ^ u % 2 ≡ n % 2 ^ t / 2 ^ u % 2
  digit-below h =
      let j = t - u - 1 in
      let e : j + 1 + u ≡ t = omega arith in
      let f : n % 2 ^ (j + 1 + u) / 2 ^ u ≡ n / 2 ^ u % 2 ^ (j + 1) = field n (j + 1) u in
      rw (← e, f) (sym (mod-mod-pow (n / 2 ^ u) j 1))

  digit-above : t < u → n / 2 ^ u ≡ n / 2 ^ t / 2 / 2 ^ (u - t - 1)
  digit-above h =
      let e : t + 1 + (u - t - 1) ≡ u = omega arith in
      sym (ap (λ (q : ℕ). q / 2 ^ (u - t - 1)) (shr-shr n t 1) ∙ shr-shr n (t + 1) (u - t - 1) ∙ ap (λ (k : ℕ). n / 2 ^ k) e)

-- two numbers that differ at place t alone
module _ (m n t : ℕ) (lower : m % 2 ^ t ≡ n % 2 ^ t) (upper : m / 2 ^ t / 2 ≡ n / 2 ^ t / 2) where
  digit-other : (u : ℕ) → (u ≡ t → ⊥) → m / 2 ^ u % 2 ≡ n / 2 ^ u % 2
  digit-other u h = go (ltb u t) refl
    where
      go : (b : Bool) → ltb u t ≡ b → m / 2 ^ u % 2 ≡ n / 2 ^ u % 2
      go true e =
          let l = ltb-true u t e in
          digit-below m t u l ∙ ap (λ (r : ℕ). r / 2 ^ u % 2) lower ∙ sym (digit-below n t u l)
      go false e =
          let l : t < u = omega (arith, ltb-false u t e) in
          ap (λ (r : ℕ). r % 2) (digit-above m t u l ∙ ap (λ (q : ℕ). q / 2 ^ (u - t - 1)) upper ∙ sym (digit-above n t u l))

module _ (m t : ℕ) where
  added : m + 2 ^ t ≡ (m / 2 ^ t + 1) * 2 ^ t + m % 2 ^ t
  added = omega (arith, add-mul (m / 2 ^ t) 1 (2 ^ t), split m t)

  added-high : (m + 2 ^ t) / 2 ^ t ≡ m / 2 ^ t + 1
  added-high = rw (added) (high (m / 2 ^ t + 1) t (mod-lt m (pow_pos t)))

  added-low : (m + 2 ^ t) % 2 ^ t ≡ m % 2 ^ t
  added-low = ap (λ (k : ℕ). k % 2 ^ t) added ∙ low (m / 2 ^ t + 1) t (mod-lt m (pow_pos t))

  added-upper : m / 2 ^ t % 2 ≡ 0 → (m + 2 ^ t) / 2 ^ t / 2 ≡ m / 2 ^ t / 2
  added-upper e = rw (added-high) (omega arith)

module _ (x mask : ℕ) where
  pub has-insert-same : has x (insert x mask) ≡ true
  unfolding has insert
  has-insert-same = go (has x mask) refl
    where
      go : (b : Bool) → has x mask ≡ b → has x (cond b mask (mask + 2 ^ (x - 1))) ≡ true
      go true e = e
      go false e =
          eq-eqb ((mask + 2 ^ (x - 1)) / 2 ^ (x - 1) % 2) 1
          (rw (added-high mask (x - 1)) (omega (arith, eqb-false (mask / 2 ^ (x - 1) % 2) 1 e)))

  pub has-remove-same : has x (remove x mask) ≡ false
  unfolding has remove
  has-remove-same = go (has x mask) refl
    where
      go : (b : Bool) → has x mask ≡ b → has x (cond b (mask - 2 ^ (x - 1)) mask) ≡ false
      go false e = e
      go true e =
          let less = mask - 2 ^ (x - 1) in
          let fits = present_fits x mask e in
          let back : less + 2 ^ (x - 1) ≡ mask = omega arith in
          let up : mask / 2 ^ (x - 1) ≡ less / 2 ^ (x - 1) + 1 = ap (λ (k : ℕ). k / 2 ^ (x - 1)) (sym back) ∙ added-high less (x - 1) in
          ne_eqb (less / 2 ^ (x - 1) % 2) 1 (λ q. omega (arith, eqb-true (mask / 2 ^ (x - 1) % 2) 1 e))

  module _ (k : ℕ) (x-low : 1 ≤ x) (k-low : 1 ≤ k) (other : k ≡ x → ⊥) where
    pub has-insert-other : has k (insert x mask) ≡ has k mask
    unfolding has insert
    has-insert-other = go (has x mask) refl
      where
        go : (b : Bool) → has x mask ≡ b → has k (cond b mask (mask + 2 ^ (x - 1))) ≡ has k mask
        go true e = refl
        go false e =
            let t = x - 1 in
            let off : mask / 2 ^ t % 2 ≡ 0 = omega (arith, eqb-false (mask / 2 ^ t % 2) 1 e) in
            ap (λ (d : ℕ). eqb d 1) (digit-other (mask + 2 ^ t) mask t (added-low mask t) (added-upper mask t off) (k - 1) (λ q. other (omega arith)))

    pub has-remove-other : has k (remove x mask) ≡ has k mask
    unfolding has remove
    has-remove-other = go (has x mask) refl
      where
        go : (b : Bool) → has x mask ≡ b → has k (cond b (mask - 2 ^ (x - 1)) mask) ≡ has k mask
        go false e = refl
        go true e =
            let t = x - 1 in
            let less = mask - 2 ^ t in
            let fits = present_fits x mask e in
            let back : less + 2 ^ t ≡ mask = omega arith in
            let up : mask / 2 ^ t ≡ less / 2 ^ t + 1 = ap (λ (n : ℕ). n / 2 ^ t) (sym back) ∙ added-high less t in
            let off : less / 2 ^ t % 2 ≡ 0 = omega (arith, eqb-true (mask / 2 ^ t % 2) 1 e) in
            let lower : less % 2 ^ t ≡ mask % 2 ^ t = sym (added-low less t) ∙ ap (λ (n : ℕ). n % 2 ^ t) back in
            let upper : less / 2 ^ t / 2 ≡ mask / 2 ^ t / 2 = omega arith in
            ap (λ (d : ℕ). eqb d 1) (digit-other less mask t lower upper (k - 1) (λ q. other (omega arith)))

-- a mask below a power of 2 has no number above the exponent
pub has_above : (M k mask : ℕ) → mask < 2 ^ M → M < k → has k mask ≡ false
unfolding has
has_above M k mask h l =
    let wide : 2 ^ M ≤ 2 ^ (k - 1) = pow_mono (omega arith) in
    let e : mask / 2 ^ (k - 1) ≡ 0 = div-eq_of_lt (omega arith) in rw (e) refl

pub has-none : (k : ℕ) → has k 0 ≡ false
unfolding has
has-none k = let e : 0 / 2 ^ (k - 1) ≡ 0 = div-eq_of_lt (pow_pos (k - 1)) in rw (e) refl

pub insert-none : (x : ℕ) → 1 ≤ x → insert x 0 ≡ single x
unfolding insert single
insert-none x l = rw (has-none x, ne_eqb x 0 (λ e. omega arith)) (omega arith)

-- the one member of a mask
pub has-single : (k h : ℕ) → 1 ≤ k → has k (single h) ≡ eqb h k
unfolding single
has-single k zero l = rw (has-none k, ne_eqb 0 k (λ e. omega arith)) refl
has-single k (suc h) l = by_answer (eqb k (suc h))
    (λ e. rw (← insert-none (suc h) (omega arith), eqb-true k (suc h) e, eqb_self (suc h)) (has-insert-same (suc h) 0))
    (λ e. let other = eqb-false k (suc h) e in
    rw (← insert-none (suc h) (omega arith), has-insert-other (suc h) 0 k (omega arith) l other, ne_eqb (suc h) k (λ q. other (sym q))) (has-none k))

-- one member more
pub has-insert : (k x mask : ℕ) → 1 ≤ k → 1 ≤ x → has k (insert x mask) ≡ has k mask || eqb x k
has-insert k x mask l h = by_answer (eqb k x)
    (λ e. rw (eqb-true k x e, eqb_self x, has-insert-same x mask) (sym (or-true (has x mask))))
    (λ e. let other = eqb-false k x e in
    rw (has-insert-other x mask k h l other, ne_eqb x k (λ q. other (sym q))) (sym (or-false (has k mask))))

module _ (M x mask : ℕ) (h : mask < 2 ^ M) where
  pub insert-below : 1 ≤ x → x ≤ M → insert x mask < 2 ^ M
  unfolding insert has
  insert-below l u = go (has x mask) refl
    where
      go : (b : Bool) → has x mask ≡ b → cond b mask (mask + 2 ^ (x - 1)) < 2 ^ M
      go true e = h
      go false e =
          let w : M - x + 1 + (x - 1) ≡ M = omega arith in
          let off : mask / 2 ^ (x - 1) % 2 ≡ 0 = omega (arith, eqb-false (mask / 2 ^ (x - 1) % 2) 1 e) in
          rw (w) at (room mask (x - 1) (M - x) (rw (w) h) off)

  pub remove-below : remove x mask < 2 ^ M
  unfolding remove
  remove-below = go (has x mask)
    where
      go : (b : Bool) → cond b (mask - 2 ^ (x - 1)) mask < 2 ^ M
      go true = omega arith
      go false = h

-- the mask of 1 to m has these
pub has-full : (m k : ℕ) → 1 ≤ k → k ≤ m → has k (full m) ≡ true
unfolding has
has-full m k l h =
    let t = k - 1 in
    let j = m - k in
    let w : suc j + t ≡ m = omega arith in
    let up : (2 ^ (suc j + t) - 1) / 2 ^ t ≡ 2 ^ suc j - 1 = rw (ones_split (suc j) t) (high (2 ^ suc j - 1) t (ones_lt t)) in
    let odd : (2 ^ suc j - 1) % 2 ≡ 1 = omega (arith, pow-suc 2 j, pow_pos j) in
    rw (← w, up, odd) refl

-- two masks with the same members are equal
lowest-digit : (a b : ℕ) → has 1 a ≡ has 1 b → a % 2 ≡ b % 2
unfolding has
lowest-digit a b e = by_answer (eqb (a % 2) 1)
    (λ q. omega (arith, eqb-true (a % 2) 1 q, eqb-true (b % 2) 1 (sym (digits e) ∙ q)))
    (λ q. omega (arith, eqb-false (a % 2) 1 q, eqb-false (b % 2) 1 (sym (digits e) ∙ q)))
  where
    digits : eqb (a / 1 % 2) 1 ≡ eqb (b / 1 % 2) 1 → eqb (a % 2) 1 ≡ eqb (b % 2) 1
    digits q = let x : a / 1 ≡ a = omega arith in let y : b / 1 ≡ b = omega arith in rw (x, y) at q

has-half : (k a : ℕ) → 1 ≤ k → has k (a / 2) ≡ has (suc k) a
unfolding has
has-half k a l =
    let w : 1 + (k - 1) ≡ suc k - 1 = omega arith in
    ap (λ (n : ℕ). eqb (n % 2) 1) (rw (w) at (shr-shr a 1 (k - 1)))

pub same-members : (d a b : ℕ) → a < 2 ^ d → b < 2 ^ d → ((k : ℕ) → 1 ≤ k → k ≤ d → has k a ≡ has k b) → a ≡ b
same-members zero a b h g f = omega arith
same-members (suc d) a b h g f =
    let half = same-members d (a / 2) (b / 2) (omega (arith, pow-suc 2 d)) (omega (arith, pow-suc 2 d)) (λ k l m. has-half k a l ∙ f (suc k) (omega arith) (omega arith) ∙ sym (has-half k b l)) in
    omega (arith, half, lowest-digit a b (f 1 (omega arith) (omega arith)))

-- k, k + 1 and so on, n numbers
unfoldable pub rising : ℕ → ℕ → List ℕ
rising zero k = []
rising (suc n) k = k ∷ rising n (suc k)

-- those of a list that are in the mask
unfoldable pub those_in : ℕ → List ℕ → List ℕ
those_in mask [] = []
those_in mask (k ∷ l) = cond (has k mask) (k ∷ those_in mask l) (those_in mask l)

digit : (r k : ℕ) (l : List ℕ) → r < 2 → with_bit r k l ≡ cond (eqb r 1) (k ∷ l) l
digit zero k l h = refl
digit (suc zero) k l h = refl
digit (suc (suc r)) k l h = absurd (omega arith)

bits_rising : (d k mask : ℕ) → bits_from d (suc k) (mask / 2 ^ k) ≡ those_in mask (rising d (suc k))
unfolding bits_from those_in rising has
bits_rising zero k mask = refl
bits_rising (suc d) k mask =
    let half : mask / 2 ^ k / 2 ≡ mask / 2 ^ suc k = shr-shr mask k 1 ∙ ap (λ (n : ℕ). mask / 2 ^ n) (add-one k) in
    let place : suc k - 1 ≡ k = omega arith in
    rw (half, place, bits_rising d (suc k) mask) (digit (mask / 2 ^ k % 2) (suc k) (those_in mask (rising d (suc (suc k)))) (omega arith))

-- the members are the numbers from 1 to 64 that are in the mask, rising
pub members-rising : (mask : ℕ) → members mask ≡ those_in mask (rising 64 1)
members-rising mask = let e : mask / 2 ^ 0 ≡ mask = omega arith in rw (e) at (bits_rising 64 0 mask)
