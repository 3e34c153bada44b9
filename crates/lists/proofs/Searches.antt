-- Laws of the tests over the numbers 1 to n (lowest, every, count) and of sums, and two pigeonhole principles.
use mathlib.Core.Path.{◌≡◌, refl, sym, ap, ◌∙◌}
use mathlib.Core.Bool.{Bool, true, false, cond, not, ◌&&◌, ◌||◌, true≢false}
use mathlib.Core.List.{List, [], ◌∷◌}
use mathlib.Core.Logic.{◌≢◌, ◌⊎◌, inl, inr}
use Prim.Native.Nat.{ℕ, zero, suc, ◌+◌, ◌-◌, ◌≤◌, ◌<◌, zero-le}
use native.Mathlib.Numerals.{add-one}
use native.Mathlib.Omega.{arith}
use native.Mathlib.Decide.{ℕ_discrete}
use lib.Dec.{eqb}
use lib.ListN.{length}
use borrow.Author.Tests.{eqb-true, eqb-false, ne_eqb, not-true}
use Rattle.lists.specs.Lists.{between, every, lowest, count_up_to, sum_up_to, member, distinct, all_of}
use Rattle.lists.proofs.Tests.{and_both, and_intro, fails, refuted, by_answer, by-test, within, between_intro, eqb_self, same?}

-- what holds of every number below n, and of n, holds of every number below n + 1
pub below-and-at : (P : ℕ → Type 0) (n : ℕ) → ((k : ℕ) → k < n → P k) → P n → (k : ℕ) → k < suc n → P k
below-and-at P n f e k h = at (same? k n)
  where
    at : Dec (k ≡ n) → P k
    at (yes z) = rw (z) e
    at (no z) = f k (omega arith)

-- ---- lowest

lowest_step : (n : ℕ) (p : ℕ → Bool) (P : ℕ → Type 0) → (lowest n p ≢ 0 → P (lowest n p)) → (lowest n p ≡ 0 → p (suc n) ≡ true → P (suc n))
    → (lowest n p ≡ 0 → p (suc n) ≡ false → P 0) → P (lowest (suc n) p)
unfolding lowest
lowest_step n p P old new none =
    by-test P (eqb (lowest n p) 0)
    (λ e. by-test P (p (suc n)) (new (eqb-true (lowest n p) 0 e)) (none (eqb-true (lowest n p) 0 e)))
    (λ e. old (eqb-false (lowest n p) 0 e))

pub lowest_le : (n : ℕ) (p : ℕ → Bool) → lowest n p ≤ n
unfolding lowest
lowest_le zero p = omega arith
lowest_le (suc n) p = lowest_step n p (λ k. k ≤ suc n) (λ _. omega (arith, lowest_le n p)) (λ _ _. omega arith) (λ _ _. omega arith)

pub lowest-passes : (n : ℕ) (p : ℕ → Bool) → lowest n p ≢ 0 → p (lowest n p) ≡ true
unfolding lowest
lowest-passes zero p h = absurd (h refl)
lowest-passes (suc n) p h = lowest_step n p (λ k. k ≢ 0 → p k ≡ true) (λ _. lowest-passes n p) (λ _ e _. e) (λ _ _ z. absurd (z refl)) h

pub lowest-found : (n : ℕ) (p : ℕ → Bool) (k : ℕ) → 1 ≤ k → k ≤ n → p k ≡ true → (1 ≤ lowest n p) × (lowest n p ≤ k)
lowest-found zero p k a b e = absurd (omega arith)
lowest-found (suc n) p k a b e = go (ℕ_discrete k (suc n)) (lowest-found n p k a)
  where
    go : Dec (k ≡ suc n) → (k ≤ n → p k ≡ true → (1 ≤ lowest n p) × (lowest n p ≤ k)) → (1 ≤ lowest (suc n) p) × (lowest (suc n) p ≤ k)
    go (yes q) ih =
        lowest_step n p (λ m. (1 ≤ m) × (m ≤ k)) (λ h. omega (arith, lowest_le n p)) (λ _ _. omega arith)
        (λ _ f. absurd (true≢false (sym (rw q at e) ∙ f)))
    go (no q) ih =
        let r = ih (omega arith) e in
        lowest_step n p (λ m. (1 ≤ m) × (m ≤ k)) (λ _. r) (λ z _. absurd (omega arith)) (λ z _. absurd (omega arith))

-- nothing passes, so there is no lowest
pub lowest-none : (n : ℕ) (p : ℕ → Bool) → ((k : ℕ) → 1 ≤ k → k ≤ n → p k ≡ false) → lowest n p ≡ 0
unfolding lowest
lowest-none zero p h = refl
lowest-none (suc n) p h =
    lowest_step n p (λ m. m ≡ 0) (λ z. lowest-none n p (λ k a b. h k a (omega arith)))
    (λ _ e. absurd (true≢false (sym e ∙ h (suc n) (omega arith) (omega arith)))) (λ _ _. refl)

-- there is no lowest, so nothing passes
pub lowest-zero : (n : ℕ) (p : ℕ → Bool) → lowest n p ≡ 0 → (k : ℕ) → 1 ≤ k → k ≤ n → p k ≡ false
lowest-zero n p z k a b = fails (p k) (λ e. let r = lowest-found n p k a b e in omega arith)

pub lowest-same : (n : ℕ) (p q : ℕ → Bool) → ((k : ℕ) → 1 ≤ k → k ≤ n → p k ≡ q k) → lowest n p ≡ lowest n q
unfolding lowest
lowest-same zero p q h = refl
lowest-same (suc n) p q h = rw (lowest-same n p q (λ k a b. h k a (omega arith)), h (suc n) (omega arith) (omega arith))

-- some number from 1 to n passes, or none
pub some_or_none : (n : ℕ) (p : ℕ → Bool) → ((k : ℕ) × (1 ≤ k) × (k ≤ n) × (p k ≡ true)) ⊎ ((k : ℕ) → 1 ≤ k → k ≤ n → p k ≡ false)
some_or_none n p = go (ℕ_discrete (lowest n p) 0)
  where
    go : Dec (lowest n p ≡ 0) → ((k : ℕ) × (1 ≤ k) × (k ≤ n) × (p k ≡ true)) ⊎ ((k : ℕ) → 1 ≤ k → k ≤ n → p k ≡ false)
    go (yes z) = inr (lowest-zero n p z)
    go (no z) = inl (lowest n p, omega arith, lowest_le n p, lowest-passes n p z)

-- ---- every

pub every-at : (n : ℕ) (p : ℕ → Bool) → every n p ≡ true → (k : ℕ) → 1 ≤ k → k ≤ n → p k ≡ true
unfolding every
every-at zero p e k a b = absurd (omega arith)
every-at (suc n) p e k a b = go (and_both (every n p) (p (suc n)) e) (ℕ_discrete k (suc n)) (every-at n p)
  where
    go : (every n p ≡ true) × (p (suc n) ≡ true) → Dec (k ≡ suc n) → (every n p ≡ true → (k : ℕ) → 1 ≤ k → k ≤ n → p k ≡ true) → p k ≡ true
    go r (yes q) ih = rw q r.1
    go r (no q) ih = ih r.0 k a (omega arith)

pub every_intro : (n : ℕ) (p : ℕ → Bool) → ((k : ℕ) → 1 ≤ k → k ≤ n → p k ≡ true) → every n p ≡ true
unfolding every
every_intro zero p h = refl
every_intro (suc n) p h = and_intro (every_intro n p (λ k a b. h k a (omega arith))) (h (suc n) (omega arith) (omega arith))

pub every-same : (n : ℕ) (p q : ℕ → Bool) → ((k : ℕ) → 1 ≤ k → k ≤ n → p k ≡ q k) → every n p ≡ every n q
unfolding every
every-same zero p q h = refl
every-same (suc n) p q h = rw (every-same n p q (λ k a b. h k a (omega arith)), h (suc n) (omega arith) (omega arith))

pub every_more : (n : ℕ) (p : ℕ → Bool) → every (n + 1) p ≡ every n p && p (suc n)
unfolding every
every_more n p = rw (add-one) refl

pub every-false : (n : ℕ) (p : ℕ → Bool) (k : ℕ) → 1 ≤ k → k ≤ n → p k ≡ false → every n p ≡ false
every-false n p k l h = refuted (every n p) (p k) (λ e. every-at n p e k l h)

-- ---- count

pub count_same : (n : ℕ) (p q : ℕ → Bool) → ((k : ℕ) → 1 ≤ k → k ≤ n → p k ≡ q k) → count_up_to n p ≡ count_up_to n q
unfolding count_up_to
count_same zero p q h = refl
count_same (suc n) p q h = rw (count_same n p q (λ k a b. h k a (omega arith)), h (suc n) (omega arith) (omega arith))

pub count_le : (n : ℕ) (p : ℕ → Bool) → count_up_to n p ≤ n
unfolding count_up_to
count_le zero p = omega arith
count_le (suc n) p = by-test (λ (k : ℕ). k ≤ suc n) (p (suc n)) (λ _. omega (arith, count_le n p)) (λ _. omega (arith, count_le n p))

pub count_none : (n : ℕ) (p : ℕ → Bool) → ((k : ℕ) → 1 ≤ k → k ≤ n → p k ≡ false) → count_up_to n p ≡ 0
unfolding count_up_to
count_none zero p h = refl
count_none (suc n) p h = rw (h (suc n) (omega arith) (omega arith)) (count_none n p (λ k a b. h k a (omega arith)))

-- what passes is counted
pub count-some : (n : ℕ) (p : ℕ → Bool) (k : ℕ) → 1 ≤ k → k ≤ n → p k ≡ true → 1 ≤ count_up_to n p
unfolding count_up_to
count-some zero p k a b e = absurd (omega arith)
count-some (suc n) p k a b e = go (ℕ_discrete k (suc n)) (count-some n p k a)
  where
    go : Dec (k ≡ suc n) → (k ≤ n → p k ≡ true → 1 ≤ count_up_to n p) → 1 ≤ cond (p (suc n)) (suc (count_up_to n p)) (count_up_to n p)
    go (yes q) ih = rw (rw q at e) (omega arith)
    go (no q) ih = by-test (λ (m : ℕ). 1 ≤ m) (p (suc n)) (λ _. omega arith) (λ _. ih (omega arith) e)

one_up : (t : Bool) (x y : ℕ) → x ≡ y + 1 → cond t (suc x) x ≡ cond t (suc y) y + 1
one_up true x y h = omega arith
one_up false x y h = h

-- one more passes
pub count-one-more : (n : ℕ) (p q : ℕ → Bool) (k : ℕ) → 1 ≤ k → k ≤ n → p k ≡ true → q k ≡ false → ((j : ℕ) → 1 ≤ j → j ≤ n → j ≢ k → p j ≡ q j)
    → count_up_to n p ≡ count_up_to n q + 1
unfolding count_up_to
count-one-more zero p q k a b e f h = absurd (omega arith)
count-one-more (suc n) p q k a b e f h = go (ℕ_discrete k (suc n)) (λ b. count-one-more n p q k a b e f (λ j c d. h j c (omega arith)))
  where
    go : Dec (k ≡ suc n) → (k ≤ n → count_up_to n p ≡ count_up_to n q + 1)
        → cond (p (suc n)) (suc (count_up_to n p)) (count_up_to n p) ≡ cond (q (suc n)) (suc (count_up_to n q)) (count_up_to n q) + 1
    go (yes z) ih = rw (rw z at e, rw z at f) (omega (arith, count_same n p q (λ j c d. h j c (omega arith) (omega arith))))
    go (no z) ih = rw (h (suc n) (omega arith) (omega arith) (λ y. z (sym y))) (one_up (q (suc n)) (count_up_to n p) (count_up_to n q) (ih (omega arith)))

-- ---- sums

sum_same : (n : ℕ) (f g : ℕ → ℕ) → ((a : ℕ) → 1 ≤ a → a ≤ n → f a ≡ g a) → sum_up_to n f ≡ sum_up_to n g
unfolding sum_up_to
sum_same zero f g h = refl
sum_same (suc n) f g h = omega (arith, h (suc n) (omega arith) (omega arith), sum_same n f g (λ a lo hi. h a lo (omega arith)))

-- no term is greater than the other sum's
pub sum_mono : (n : ℕ) (f g : ℕ → ℕ) → ((a : ℕ) → 1 ≤ a → a ≤ n → f a ≤ g a) → sum_up_to n f ≤ sum_up_to n g
unfolding sum_up_to
sum_mono zero f g h = zero-le
sum_mono (suc n) f g h = omega (arith, h (suc n) (omega arith) (omega arith), sum_mono n f g (λ a lo hi. h a lo (omega arith)))

-- one term changes
pub sum_changed : (n t : ℕ) (f g : ℕ → ℕ) → 1 ≤ t → t ≤ n → ((a : ℕ) → t ≢ a → g a ≡ f a) → sum_up_to n g + f t ≡ sum_up_to n f + g t
unfolding sum_up_to
sum_changed zero t f g lo hi h = absurd (omega arith)
sum_changed (suc n) t f g lo hi h = cases (same? t (suc n)) (λ hi'. sum_changed n t f g lo hi' h)
  where
    cases : Dec (t ≡ suc n) → (t ≤ n → sum_up_to n g + f t ≡ sum_up_to n f + g t) → g (suc n) + sum_up_to n g + f t ≡ f (suc n) + sum_up_to n f + g t
    cases (yes q) ih = omega (arith, ap f q, ap g q, sum_same n g f (λ a _ hi'. h a (λ z. absurd (omega arith))))
    cases (no q) ih = omega (arith, ih (omega arith), h (suc n) q)

pub sum-none : (f : ℕ → ℕ) → ((a : ℕ) → f a ≡ 0) → (n : ℕ) → sum_up_to n f ≡ 0
unfolding sum_up_to
sum-none f z zero = refl
sum-none f z (suc n) = omega (arith, z (suc n), sum-none f z n)

pub sum_add : (n : ℕ) (f g : ℕ → ℕ) → sum_up_to n (λ a. f a + g a) ≡ sum_up_to n f + sum_up_to n g
unfolding sum_up_to
sum_add zero f g = refl
sum_add (suc n) f g = omega (arith, sum_add n f g)

pub sum_swap : (n m : ℕ) (f : ℕ → ℕ → ℕ) → sum_up_to n (λ a. sum_up_to m (λ b. f a b)) ≡ sum_up_to m (λ b. sum_up_to n (λ a. f a b))
unfolding sum_up_to
sum_swap zero m f = sym (sum-none _ (λ _. refl) m)
sum_swap (suc n) m f = omega (arith, sum_swap n m f, sum_add m (f (suc n)) (λ b. sum_up_to n (λ a. f a b)))

-- no term is greater than the other sum's, and one is less by c
pub sum_less : (n k c : ℕ) (f g : ℕ → ℕ) → 1 ≤ k → k ≤ n → f k + c ≤ g k → ((a : ℕ) → 1 ≤ a → a ≤ n → f a ≤ g a) → sum_up_to n f + c ≤ sum_up_to n g
sum_less n k c f g lo hi at each =
    let more : ℕ → ℕ = λ a. cond (eqb a k) (f a + c) (f a) in
    let here : more k ≡ f k + c = rw (eqb_self k) refl in
    omega (
      arith,
      sum_changed n k f more lo hi (λ a ne. rw (ne_eqb a k (λ z. ne (sym z))) refl),
      sum_mono n more g (λ a l h. by-test (λ (b : ℕ). b ≤ g a) (eqb a k) (λ e. let q = eqb-true a k e in rw q at) (λ _. each a l h)),
    )

-- one term alone
pub sum-term : (n k : ℕ) (f : ℕ → ℕ) → 1 ≤ k → k ≤ n → f k ≤ sum_up_to n f
sum-term n k f lo hi = omega (arith, sum_less n k (f k) (λ _. 0) f lo hi (omega arith) (λ a _ _. omega arith))

-- a sum that is not 0 has a term that is not 0
pub sum-some : (n : ℕ) (f : ℕ → ℕ) → 1 ≤ sum_up_to n f → (a : ℕ) × (1 ≤ a) × (a ≤ n) × (1 ≤ f a)
unfolding sum_up_to
sum-some zero f h = absurd (omega arith)
sum-some (suc n) f h = cases (same? (f (suc n)) 0) (sum-some n f)
  where
    cases : Dec (f (suc n) ≡ 0) → (1 ≤ sum_up_to n f → (a : ℕ) × (1 ≤ a) × (a ≤ n) × (1 ≤ f a)) → (a : ℕ) × (1 ≤ a) × (a ≤ suc n) × (1 ≤ f a)
    cases (yes z) ih = let r = ih (omega arith) in (r.0, r.1, omega (arith, r.2), r.3)
    cases (no z) ih = (suc n, omega arith, omega arith, omega (arith, z))

-- at most one term is not 0
pub sum-single : (n c : ℕ) (f : ℕ → ℕ) → ((a : ℕ) → 1 ≤ a → a ≤ n → f a ≤ c)
    → ((a b : ℕ) → 1 ≤ a → a ≤ n → 1 ≤ b → b ≤ n → 1 ≤ f a → 1 ≤ f b → a ≡ b) → sum_up_to n f ≤ c
unfolding sum_up_to
sum-single zero c f le one = omega arith
sum-single (suc n) c f le one =
    let last = le (suc n) (omega arith) (omega arith) in
    let fewer : (a b : ℕ) → 1 ≤ a → a ≤ n → 1 ≤ b → b ≤ n → 1 ≤ f a → 1 ≤ f b → a ≡ b = λ a b l h l' h'. one a b l (omega arith) l' (omega arith) in
    elim (same? (f (suc n)) 0) [
      | yes z ↦ omega (arith, z, sum-single n c f (λ a l h. le a l (omega arith)) fewer)
      | no p ↦ omega (
        arith,
        sum-single n 0 f (λ a l h. elim (same? (f a) 0) [
          | yes z ↦ omega (arith, z)
          | no q ↦ absurd (omega (arith, one a (suc n) l (omega arith) (omega arith) (omega arith) (omega (arith, q)) (omega (arith, p))))
        ]) fewer,
      )
    ]

-- the numbers f 1 to f k, all different and all from 1 to n: what w makes of them adds up to at most what it makes of 1 to n
pub sum_different : (n k : ℕ) (w f : ℕ → ℕ) → ((i : ℕ) → 1 ≤ i → i ≤ k → (1 ≤ f i) × (f i ≤ n)) → ((i j : ℕ) → 1 ≤ i → i < j → j ≤ k → f i ≢ f j)
    → sum_up_to k (λ i. w (f i)) ≤ sum_up_to n w
unfolding sum_up_to
sum_different n zero w f b d = zero-le
sum_different n (suc k) w f b d =
    let a = f (suc k) in
    let r = b (suc k) (omega arith) (omega arith) in
    let other : ℕ → ℕ = λ m. cond (eqb m a) 0 (w m) in
    let gone : other a ≡ 0 = rw (eqb_self a) refl in
    let whole = sum_changed n a w other r.0 r.1 (λ m e. rw (ne_eqb m a (λ z. e (sym z))) refl) in
    let rest = sum_same k (λ i. w (f i)) (λ i. other (f i)) (λ i l m. rw (ne_eqb (f i) a (d i (suc k) l (omega arith) (omega arith))) refl) in
    omega (arith, sum_different n k other f (λ i l m. b i l (omega arith)) (λ i j l m h. d i j l m (omega arith)))

-- ---- pigeonhole principles

sum_ones : (n : ℕ) → sum_up_to n (λ _. 1) ≡ n
unfolding sum_up_to
sum_ones zero = refl
sum_ones (suc n) = omega (arith, sum_ones n)

-- there are at most n different numbers from 1 to n
pub pigeonhole : (n k : ℕ) (f : ℕ → ℕ) → ((i : ℕ) → i < k → (1 ≤ f i) × (f i ≤ n)) → ((i j : ℕ) → i < j → j < k → f i ≢ f j) → k ≤ n
pigeonhole n k f b d =
    omega (
      arith,
      sum_ones n,
      sum_ones k,
      sum_different n k (λ _. 1) (λ i. f (i - 1)) (λ i l m. b (i - 1) (omega arith)) (λ i j l m h. d (i - 1) (j - 1) (omega arith) (omega arith)),
    )

-- distinct numbers from 1 to n are at most n of them: as many as the numbers from 1 to n that stand in the list
length-count : (n : ℕ) (l : List ℕ) → distinct l ≡ true → all_of (between 1 n) l ≡ true → length l ≤ count_up_to n (λ k. member k l)
unfolding member distinct all_of
length-count n [] d h = zero-le
length-count n (a ∷ l) d h =
    let new = and_both (not (member a l)) (distinct l) d in
    let range = and_both (between 1 n a) (all_of (between 1 n) l) h in
    let ends = within 1 n a range.0 in
    let more = count-one-more n (λ k. eqb a k || member k l) (λ k. member k l) a ends.0 ends.1 (rw (eqb_self a) refl) (not-true (member a l) new.0) (λ j _ _ q. rw (ne_eqb a j (λ e. q (sym e))) refl) in
    omega (arith, length-count n l new.1 range.1)

-- a list has no fewer elements than numbers from 1 to n, and more where one stands there twice
count_with_same : (n a : ℕ) (p : ℕ → Bool) → p a ≡ true → count_up_to n (λ k. eqb a k || p k) ≡ count_up_to n p
count_with_same n a p e =
    count_same n _ p (λ k _ _. by_answer (eqb a k) (λ q. rw (q) (sym (ap p (sym (eqb-true a k q)) ∙ e))) (λ q. rw (q) refl))

count_with : (n a : ℕ) (p : ℕ → Bool) → count_up_to n (λ k. eqb a k || p k) ≤ suc (count_up_to n p)
count_with n a p =
    by_answer (p a) (λ e. omega (arith, count_with_same n a p e)) (λ e. by_answer (between 1 n a)
    (λ q. let r = within 1 n a q in omega (arith, count-one-more n (λ k. eqb a k || p k) p a r.0 r.1 (rw (eqb_self a) refl) e (λ j _ _ z. rw (ne_eqb a j (λ y. z (sym y))) refl)))
    (λ q. omega (arith, count_same n (λ k. eqb a k || p k) p (λ k l h. rw (ne_eqb a k (λ y. true≢false (sym (between_intro 1 n k l h) ∙ ap (between 1 n) (sym y) ∙ q))) refl))))

count-length : (n : ℕ) (l : List ℕ) → count_up_to n (λ k. member k l) ≤ length l
unfolding member
count-length n [] = omega (arith, count_none n (λ _. false) (λ _ _ _. refl))
count-length n (a ∷ l) = omega (arith, count_with n a (λ k. member k l), count-length n l)

count_twice : (n : ℕ) (l : List ℕ) → distinct l ≡ false → count_up_to n (λ k. member k l) < length l
unfolding member distinct
count_twice n [] e = absurd (true≢false e)
count_twice n (a ∷ l) e =
    by_answer (member a l) (λ q. omega (arith, count_with_same n a (λ k. member k l) q, count-length n l))
    (λ q. omega (arith, count_with n a (λ k. member k l), count_twice n l (rw (q) at e)))

count-all : (n : ℕ) (p : ℕ → Bool) → ((k : ℕ) → 1 ≤ k → k ≤ n → p k ≡ true) → count_up_to n p ≡ n
unfolding count_up_to
count-all zero p f = refl
count-all (suc n) p f = rw (f (suc n) (omega arith) (omega arith)) (ap suc (count-all n p (λ k l h. f k l (omega arith))))

-- so where n elements are all numbers from 1 to n, none stands there twice
pub all-distinct : (l : List ℕ) → ((k : ℕ) → 1 ≤ k → k ≤ length l → member k l ≡ true) → distinct l ≡ true
all-distinct l f =
    by_answer (distinct l) (λ e. e) (λ e. absurd (omega (arith, count_twice (length l) l e, count-all (length l) (λ k. member k l) f)))

-- so n of them are all
pub distinct-all : (l : List ℕ) → distinct l ≡ true → all_of (between 1 (length l)) l ≡ true → (k : ℕ) → 1 ≤ k → k ≤ length l → member k l ≡ true
distinct-all l d h k low high =
    by_answer (member k l) (λ e. e) (λ e.
    let n = length l in
    let more = count-one-more n (λ j. eqb k j || member j l) (λ j. member j l) k low high (rw (eqb_self k) refl) e (λ j _ _ q. rw (ne_eqb k j (λ z. q (sym z))) refl) in
    absurd (omega (arith, length-count n l d h, count_le n (λ j. eqb k j || member j l))))

pub distinct-length : (n : ℕ) (l : List ℕ) → distinct l ≡ true → all_of (between 1 n) l ≡ true → length l ≤ n
distinct-length n l d h = omega (arith, length-count n l d h, count_le n (λ k. member k l))
