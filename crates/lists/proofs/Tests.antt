-- Laws of tests: conjunctions, conditionals, equality of numbers, bounds.
use mathlib.Core.Path.{◌≡◌, refl, sym, ap, ◌∙◌}
use mathlib.Core.Bool.{Bool, true, false, cond, not, ◌&&◌, ◌||◌, false≢true, true≢false}
use Prim.Native.Nat.{ℕ, zero, suc, ◌≤◌}
use native.Mathlib.Omega.{arith}
use lib.Bits.{bit_or, or_add_and, and_le_r, or_zero_l}
use lib.Dec.{eqb, leb, eqb-suc-zero}
use borrow.Author.Tests.{eqb-true, eqb-false, eq-eqb, ne_eqb, leb-true, le-leb, not-true, not-false}
use Rattle.lists.specs.Lists.{between}

-- ---- conjunctions and disjunctions
pub and_both : (a b : Bool) → a && b ≡ true → (a ≡ true) × (b ≡ true)
and_both true b e = (refl, e)
and_both false b e = absurd (false≢true e)

pub and_intro : {a b : Bool} → a ≡ true → b ≡ true → a && b ≡ true
and_intro e f = rw (e, f) refl

-- the second part matters only where the first holds
pub and-agrees : (b : Bool) {c d : Bool} → (b ≡ true → c ≡ d) → b && c ≡ b && d
and-agrees true f = f refl
and-agrees false f = refl

pub or_neither : (a b : Bool) → a || b ≡ false → (a ≡ false) × (b ≡ false)
or_neither true b e = absurd (true≢false e)
or_neither false b e = (refl, e)

-- ---- answers of a test
-- a test that cannot hold fails
pub fails : (b : Bool) → (b ≡ true → ⊥) → b ≡ false
fails true h = absurd (h refl)
fails false h = refl

-- a test that fails where it would give what does not hold
pub refuted : (a b : Bool) → (a ≡ true → b ≡ true) → b ≡ false → a ≡ false
refuted a b f e = fails a (λ q. false≢true (sym e ∙ f q))

-- two tests agree where each holds if the other does
pub tests_agree : (a b : Bool) → (a ≡ true → b ≡ true) → (b ≡ true → a ≡ true) → a ≡ b
tests_agree true b f g = sym (f refl)
tests_agree false true f g = g refl
tests_agree false false f g = refl

pub by_answer : {P : Type 0} (b : Bool) → (b ≡ true → P) → (b ≡ false → P) → P
by_answer true f g = f refl
by_answer false f g = g refl

-- what a negated answer says of the test that it answers
module _ (r : Bool) {b : Bool} (e : r ≡ b) where
  pub refuses : not r ≡ true → b ≡ false
  refuses h = sym e ∙ not-true r h

  pub admits : not r ≡ false → b ≡ true
  admits h = sym e ∙ not-false r h

-- ---- conditionals
-- to prove something of a conditional, prove it of both branches, each with the test's answer
pub by-test : {A : Type 0} (P : A → Type 0) (b : Bool) {x y : A} → (b ≡ true → P x) → (b ≡ false → P y) → P (cond b x y)
by-test P true f g = f refl
by-test P false f g = g refl

pub cond_same : {A : Type 0} (b : Bool) (a : A) → cond b a a ≡ a
cond_same true a = refl
cond_same false a = refl

-- a conditional and its reading, on tests that are equal
pub cond-agrees : {A B : Type 0} (f : A → B) (b c : Bool) {x y : A} {u v : B} → b ≡ c → (b ≡ true → f x ≡ u) → (b ≡ false → f y ≡ v)
    → f (cond b x y) ≡ cond c u v
cond-agrees f true c {u} {v} e p q = p refl ∙ ap (λ (t : Bool). cond t u v) e
cond-agrees f false c {u} {v} e p q = q refl ∙ ap (λ (t : Bool). cond t u v) e

-- ---- equal numbers
pub eqb_self : (n : ℕ) → eqb n n ≡ true
eqb_self n = eq-eqb n n refl

pub eqb-sym : (m n : ℕ) → eqb m n ≡ eqb n m
eqb-sym m n = tests_agree (eqb m n) (eqb n m) (λ e. eq-eqb n m (sym (eqb-true m n e))) (λ e. eq-eqb m n (sym (eqb-true n m e)))

pub same? : (m n : ℕ) → Dec (m ≡ n)
same? m n = by_answer (eqb m n) (λ e. yes (eqb-true m n e)) (λ e. no (eqb-false m n e))

-- two numbers joined by `|` make zero where both are
pub or_zero : (a b : ℕ) → eqb (bit_or a b) 0 ≡ eqb a 0 && eqb b 0
or_zero zero b = rw (or_zero_l) refl
or_zero (suc a) b = rw (eqb-suc-zero) (ne_eqb (bit_or (suc a) b) 0 (λ e. omega (arith, or_add_and (suc a) b, and_le_r (suc a) b, e)))

-- ---- bounds
pub within : (low high n : ℕ) → between low high n ≡ true → (low ≤ n) × (n ≤ high)
within low high n e = let p = and_both (leb low n) (leb n high) e in (leb-true low n p.0, leb-true n high p.1)

pub between_intro : (low high n : ℕ) → low ≤ n → n ≤ high → between low high n ≡ true
between_intro low high n l h = rw (le-leb low n l, le-leb n high h) refl
