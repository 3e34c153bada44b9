-- Laws of tests, of changed functions and of lists of numbers.
use mathlib.Core.Path.{◌∙◌, ◌≡◌, ap, refl, subst, sym}
use mathlib.Core.Bool.{◌||◌, Bool, cond, false, false≢true, true, true≢false}
use mathlib.Core.List.{[], ◌++◌, ◌∷◌, List}
use mathlib.Core.Logic.{◌≢◌, ◌⊎◌, inl, inr}
use Prim.Native.Nat.{◌+◌, ◌-◌, ◌<◌, ◌≤◌, suc, zero, ℕ}
use native.Mathlib.Omega.{arith}
use lib.Dec.{eqb}
use borrow.Author.Tests.{eq-eqb, eqb-true, ne_eqb}
use Rattle.lists.specs.Lists.{member}
use Rattle.lists.proofs.Tests.{eqb_self, same?, tests_agree}
use Rattle.deadlock.specs.Lists.{bit, occurs, one_to, updated, without}

module _ {A : Type 0} where
  pub updated-same : (f : ℕ → A) (k : ℕ) (v : A) → updated f k v k ≡ v
  unfolding updated
  updated-same f k v = rw eqb_self

  pub updated-other : (f : ℕ → A) (k : ℕ) (v : A) (j : ℕ) → k ≢ j → updated f k v j ≡ f j
  unfolding updated
  updated-other f k v j h = rw (ne_eqb k j h)

  -- what holds of the new value and of the others
  pub by-updated : (P : ℕ → A → Type 0) (f : ℕ → A) (k : ℕ) (v : A) → P k v → ((j : ℕ) → k ≢ j → P j (f j)) → (j : ℕ) → P j (updated f k v j)
  by-updated P f k v a b j = elim (same? k j) [
    | yes q ↦ subst (λ (i : ℕ). P i (updated f k v i)) q (rw (updated-same f k v) a)
    | no q ↦ rw (updated-other f k v j q) (b j q)
  ]

-- a value written back where it was
pub updated-unchanged : {A : Type 0} (f : ℕ → A) (k j : ℕ) → updated f k (f k) j ≡ f j
updated-unchanged f k j = elim (same? k j) [ yes q ↦ rw (← q, updated-same) | no q ↦ updated-other f k (f k) j q ]

pub occurs-append : (a : ℕ) (l m : List ℕ) → occurs a (l ++ m) ≡ occurs a l + occurs a m
unfolding occurs
occurs-append a [] m = omega arith
occurs-append a (b ∷ l) m = omega (arith, occurs-append a l m)

pub occurs-last-same : (a : ℕ) (l : List ℕ) → occurs a (l ++ a ∷ []) ≡ suc (occurs a l)
unfolding occurs
occurs-last-same a l = rw (occurs-append, eqb_self) (omega arith)

pub occurs-last-other : (a b : ℕ) (l : List ℕ) → b ≢ a → occurs a (l ++ b ∷ []) ≡ occurs a l
unfolding occurs
occurs-last-other a b l h = rw (occurs-append, ne_eqb b a h) (omega arith)

pub member-occurs : (a : ℕ) (l : List ℕ) → member a l ≡ true → 1 ≤ occurs a l
unfolding member occurs
member-occurs a [] e = absurd (false≢true e)
member-occurs a (b ∷ l) e = cases (eqb b a) (member-occurs a l) e
  where
    cases : (t : Bool) → (member a l ≡ true → 1 ≤ occurs a l) → t || member a l ≡ true → 1 ≤ bit t + occurs a l
    cases true f e = omega arith
    cases false f e = omega (arith, f e)

pub not-member-occurs : (a : ℕ) (l : List ℕ) → member a l ≡ false → occurs a l ≡ 0
unfolding member occurs
not-member-occurs a [] e = refl
not-member-occurs a (b ∷ l) e = cases (eqb b a) (not-member-occurs a l) e
  where
    cases : (t : Bool) → (member a l ≡ false → occurs a l ≡ 0) → t || member a l ≡ false → bit t + occurs a l ≡ 0
    cases true f e = absurd (true≢false e)
    cases false f e = omega (arith, f e)

pub occurs-member : (a : ℕ) (l : List ℕ) → 1 ≤ occurs a l → member a l ≡ true
occurs-member a l h = cases (member a l) refl
  where
    cases : (b : Bool) → member a l ≡ b → member a l ≡ true
    cases true e = e
    cases false e = absurd (omega (arith, h, not-member-occurs a l e))

-- a number that occurs as often in the one list as in the other
pub member-same : (a : ℕ) (l m : List ℕ) → occurs a l ≡ occurs a m → member a l ≡ member a m
member-same a l m e =
    tests_agree (member a l) (member a m) (λ q. occurs-member a m (omega (arith, member-occurs a l q))) (λ q. occurs-member a l (omega (arith, member-occurs a m q)))

pub occurs-without-same : (a : ℕ) (l : List ℕ) → occurs a (without a l) ≡ occurs a l - 1
unfolding without occurs
occurs-without-same a [] = refl
occurs-without-same a (b ∷ l) = cases (eqb b a) refl (occurs-without-same a l)
  where
    cases : (t : Bool) → eqb b a ≡ t → occurs a (without a l) ≡ occurs a l - 1 → occurs a (cond t l (b ∷ without a l)) ≡ bit t + occurs a l - 1
    cases true e ih = omega arith
    cases false e ih = rw e (omega arith)

pub occurs-without-other : (a b : ℕ) (l : List ℕ) → b ≢ a → occurs a (without b l) ≡ occurs a l
unfolding without occurs
occurs-without-other a b [] h = refl
occurs-without-other a b (c ∷ l) h = cases (eqb c b) refl (occurs-without-other a b l h)
  where
    cases : (t : Bool) → eqb c b ≡ t → occurs a (without b l) ≡ occurs a l → occurs a (cond t l (c ∷ without b l)) ≡ bit (eqb c a) + occurs a l
    cases true e ih = rw (ne_eqb c a (λ q. h (sym (eqb-true c b e) ∙ q))) (omega arith)
    cases false e ih = omega arith

-- a number that does not occur cannot be taken out
pub without-absent : (a : ℕ) (l : List ℕ) → occurs a l ≡ 0 → without a l ≡ l
unfolding without occurs
without-absent a [] z = refl
without-absent a (b ∷ l) z = cases (eqb b a) refl (without-absent a l (omega arith))
  where
    cases : (t : Bool) → eqb b a ≡ t → without a l ≡ l → cond t l (b ∷ without a l) ≡ b ∷ l
    cases true e ih = absurd (omega (arith, z, ap bit e))
    cases false e ih = ap (λ (m : List ℕ). b ∷ m) ih

-- taking a number out makes no number occur more often
pub occurs-without-le : (a b : ℕ) (l : List ℕ) → occurs a (without b l) ≤ occurs a l
occurs-without-le a b l = elim (same? b a) [ yes q ↦ rw q (omega (arith, occurs-without-same a l)) | no q ↦ omega (arith, occurs-without-other a b l q) ]

pub bit_le : (b : Bool) → bit b ≤ 1
bit_le true = omega arith
bit_le false = omega arith

pub bit_or : (a b : Bool) → a || b ≡ true → 1 ≤ bit a + bit b
bit_or true b e = omega arith
bit_or false true e = omega arith
bit_or false false e = absurd (false≢true e)

pub bit-member : (a : ℕ) (l : List ℕ) → bit (member a l) ≤ occurs a l
bit-member a l = cases (member a l) refl
  where
    cases : (b : Bool) → member a l ≡ b → bit b ≤ occurs a l
    cases true e = member-occurs a l e
    cases false e = omega arith

occurs-oneTo-none : (k a : ℕ) → k < a → occurs a (one_to k) ≡ 0
unfolding one_to occurs
occurs-oneTo-none zero a h = refl
occurs-oneTo-none (suc k) a h = omega (arith, occurs-append a (one_to k) (suc k ∷ []), occurs-oneTo-none k a (omega arith), ap bit (ne_eqb (suc k) a (omega arith)))

pub occurs-oneTo : (k a : ℕ) → 1 ≤ a → a ≤ k → occurs a (one_to k) ≡ 1
unfolding one_to occurs
occurs-oneTo zero a l h = absurd (omega arith)
occurs-oneTo (suc k) a l h = cases (same? (suc k) a) (occurs-oneTo k a l)
  where
    cases : Dec (suc k ≡ a) → (a ≤ k → occurs a (one_to k) ≡ 1) → occurs a (one_to k ++ suc k ∷ []) ≡ 1
    cases (yes q) ih = omega (arith, occurs-append a (one_to k) (suc k ∷ []), occurs-oneTo-none k a (omega arith), ap bit (eq-eqb (suc k) a q))
    cases (no q) ih = omega (arith, occurs-append a (one_to k) (suc k ∷ []), ih (omega arith), ap bit (ne_eqb (suc k) a q))

pub bit-eqb : (a b : ℕ) → 1 ≤ bit (eqb a b) → a ≡ b
bit-eqb a b h = cases (eqb a b) refl h
  where
    cases : (t : Bool) → eqb a b ≡ t → 1 ≤ bit t → a ≡ b
    cases true e k = eqb-true a b e
    cases false e k = absurd (omega arith)

pub bit-one : (b : Bool) → 1 ≤ bit b → b ≡ true
bit-one true h = refl
bit-one false h = absurd (omega arith)

pub zero-or-more : (k : ℕ) → (k ≡ 0) ⊎ (1 ≤ k)
zero-or-more zero = inl refl
zero-or-more (suc k) = inr (omega arith)
