-- Laws of the numbers read back from a text.
use mathlib.Core.Path.{◌≡◌, refl, ap, ◌∙◌}
use mathlib.Core.Bool.{false, cond}
use mathlib.Core.List.{List, [], ◌∷◌, ◌++◌, append_assoc}
use Prim.Native.Nat.{ℕ, zero, suc, ◌+◌, ◌*◌, ◌/◌, ◌%◌, ◌<◌}
use native.Mathlib.Omega.{arith}
use borrow.Author.Tests.{ltb-true, ltb-false}
use lib.Dec.{ltb}
use Rattle.lists.proofs.Tests.{by-test, between_intro}
use Rattle.text.specs.Text.{space, line_feed, digit, digits, decimal, spaced, rest, line}
use Rattle.text.specs.Reading.{is_digit, with_digit, numbers, number_from}

-- a byte that is no digit is passed over
pub numbers-other : (c : ℕ) (l : List ℕ) → is_digit c ≡ false → numbers (c ∷ l) ≡ numbers l
unfolding numbers
numbers-other c l e = rw (e) refl

-- a digit goes on with the number before it
joins : (m d n : ℕ) (l o : List ℕ) → d < 10 → 10 * m + d ≡ n
    → cond (is_digit (digit d)) (number_from (with_digit m (digit d)) l) o ≡ number_from n l
joins m d n l o h e =
    rw (between_intro (digit 0) (digit 9) (digit d) (omega arith) (omega arith)) (ap (λ (k : ℕ). number_from k l) (omega arith))

-- the digits of a number make it
numbers-digits : (k n : ℕ) (l : List ℕ) → n < k → numbers (digits k n ++ l) ≡ number_from n l
unfolding numbers digits
numbers-digits zero n l h = absurd (omega arith)
numbers-digits (suc k) n l h =
    by-test (λ (d : List ℕ). numbers (d ++ l) ≡ number_from n l) (ltb n 10)
    (λ e. joins 0 n n l (numbers l) (ltb-true n 10 e) (omega arith))
    (λ e. ap numbers (append_assoc (digits k (n / 10)) (digit (n % 10) ∷ []) l)
    ∙ numbers-digits k (n / 10) (digit (n % 10) ∷ l) (omega (arith, ltb-false n 10 e))
    ∙ joins (n / 10) (n % 10) n l (n / 10 ∷ numbers l) (omega arith) (omega arith))

-- a number in decimal is read back where no digit follows it
pub numbers-decimal : (n c : ℕ) (l : List ℕ) → is_digit c ≡ false → numbers (decimal n ++ (c ∷ l)) ≡ n ∷ numbers l
unfolding numbers decimal
numbers-decimal n c l e = numbers-digits (suc n) n (c ∷ l) (omega arith) ∙ rw (e) refl

-- the numbers of a line are read back
numbers-rest : (n : ℕ) (l k : List ℕ) → numbers (decimal n ++ (rest l ++ k)) ≡ n ∷ (l ++ numbers k)
unfolding spaced
numbers-rest n [] k = numbers-decimal n line_feed k refl
numbers-rest n (m ∷ l) k =
    numbers-decimal n space (((decimal m ++ spaced l) ++ (line_feed ∷ [])) ++ k) refl
    ∙ ap (λ (j : List ℕ). n ∷ numbers j)
    (ap (λ (j : List ℕ). j ++ k) (append_assoc (decimal m) (spaced l) (line_feed ∷ [])) ∙ append_assoc (decimal m) (rest l) k)
    ∙ ap (λ (j : List ℕ). n ∷ j) (numbers-rest m l k)

pub numbers-line : (n : ℕ) (l k : List ℕ) → numbers (line n l ++ k) ≡ n ∷ (l ++ numbers k)
numbers-line n l k = ap numbers (append_assoc (decimal n) (rest l) k) ∙ numbers-rest n l k
