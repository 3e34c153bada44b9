-- What is reached by so many waits, and when a session lies on a cycle: exactly when it is reached from itself by one wait or more.
use mathlib.Core.Path.{◌≡◌, refl, sym, ap, ◌∙◌}
use mathlib.Core.Bool.{Bool, true, false}
use mathlib.Core.Logic.{◌≢◌}
use Prim.Native.Nat.{ℕ, zero, suc, ◌+◌, ◌-◌, ◌≤◌, ◌<◌}
use native.Mathlib.Omega.{arith}
use native.Mathlib.Decide.{ℕ_discrete}
use lib.Dec.{eqb}
use borrow.Author.Tests.{eqb-true, eqb-false, eq-eqb, ne_eqb, not-true, not-false}
use Rattle.lists.specs.Lists.{lowest}
use Rattle.lists.proofs.Searches.{lowest-found, lowest_le, lowest-passes, pigeonhole}
use Rattle.waits.specs.Waits.{reached, cycle_length, on_cycle}

-- 0 stands for none and waits for none; whoever is waited for is one of the sessions 1 to S
pub record Graph (next : ℕ → ℕ) (S : ℕ) : Type 0 where
  pub none : next 0 ≡ 0
  pub inside : (t : ℕ) → next t ≤ S

-- ---- so many waits

module _ (next : ℕ → ℕ) where
  pub reached-sum : (m n k t : ℕ) → m + n ≡ k → reached next m (reached next n t) ≡ reached next k t
  unfolding reached
  reached-sum zero n k t e = let q : n ≡ k = omega arith in rw q
  reached-sum (suc m) n zero t e = absurd (omega arith)
  reached-sum (suc m) n (suc k) t e = ap next (reached-sum m n k t (omega arith))

  pub reached_add : (m n t : ℕ) → reached next (m + n) t ≡ reached next m (reached next n t)
  reached_add m n t = sym (reached-sum m n (m + n) t refl)

  -- the first wait apart
  pub reached-suc : (n t : ℕ) → reached next (suc n) t ≡ reached next n (next t)
  unfolding reached
  reached-suc zero t = refl
  reached-suc (suc n) t = ap next (reached-suc n t)

  -- the two parts in the other order
  pub reached_swap : (m n t : ℕ) → reached next m (reached next n t) ≡ reached next n (reached next m t)
  reached_swap m n t = reached-sum m n (m + n) t refl ∙ sym (reached-sum n m (m + n) t (omega arith))

  -- t is reached from itself by k waits, one or more: then what is reached from t is reached by 1 to k waits, and t is reached from it
  module _ (t k : ℕ) (once : 1 ≤ k) (back : reached next k t ≡ t) where
    pub within : (n : ℕ) → (j : ℕ) × (1 ≤ j) × (j ≤ k) × (reached next j t ≡ reached next n t)
    unfolding reached
    within zero = (k, once, omega arith, back)
    within (suc n) = go (within n)
      where
        go : (j : ℕ) × (1 ≤ j) × (j ≤ k) × (reached next j t ≡ reached next n t) → (j : ℕ) × (1 ≤ j) × (j ≤ k) × (reached next j t ≡ next (reached next n t))
        go (j, a, b, e) = more (ℕ_discrete j k)
          where
            more : Dec (j ≡ k) → (j : ℕ) × (1 ≤ j) × (j ≤ k) × (reached next j t ≡ next (reached next n t))
            more (yes q) = (1, omega arith, once, ap next (sym back ∙ ap (λ (i : ℕ). reached next i t) (sym q) ∙ e))
            more (no q) = (suc j, omega arith, omega arith, ap next e)

    pub returns : (n : ℕ) → (m : ℕ) × (1 ≤ m) × (reached next m (reached next n t) ≡ t)
    returns n =
        let r = within n in (
          k + (k - r.0),
          omega arith,
          ap (reached next (k + (k - r.0))) (sym r.3) ∙ reached-sum (k + (k - r.0)) r.0 (k + k) t (omega (arith, r.2)) ∙ reached_add k k t
              ∙ ap (reached next k) back ∙ back,
        )

-- the same waits on the way lead to the same session
pub reached-same : (next next' : ℕ → ℕ) (t : ℕ) → ((k : ℕ) → next' (reached next k t) ≡ next (reached next k t)) → (k : ℕ) → reached next' k t ≡ reached next k t
unfolding reached
reached-same next next' t h zero = refl
reached-same next next' t h (suc k) = ap next' (reached-same next next' t h k) ∙ h k

-- ---- on a cycle, from the definitions alone

module _ (next : ℕ → ℕ) (S t : ℕ) where
  pub on-cycle_positive : on_cycle next S t ≡ true → 1 ≤ cycle_length next S t
  unfolding on_cycle
  on-cycle_positive e = let z : cycle_length next S t ≢ 0 = eqb-false (cycle_length next S t) 0 (not-true _ e) in omega arith

  pub positive_on-cycle : 1 ≤ cycle_length next S t → on_cycle next S t ≡ true
  unfolding on_cycle
  positive_on-cycle h = rw (ne_eqb (cycle_length next S t) 0 (omega arith))

  pub off-cycle-length : on_cycle next S t ≡ false → cycle_length next S t ≡ 0
  unfolding on_cycle
  off-cycle-length e = eqb-true (cycle_length next S t) 0 (not-false _ e)

  pub cycle-length_le : cycle_length next S t ≤ S
  unfolding cycle_length
  cycle-length_le = lowest_le S _

  -- all round
  pub cycle-returns : on_cycle next S t ≡ true → reached next (cycle_length next S t) t ≡ t
  unfolding cycle_length
  cycle-returns e =
      let p : ℕ → Bool = λ n. eqb (reached next n t) t in
      eqb-true _ t (lowest-passes S p (let h = on-cycle_positive e in omega arith))

  -- reached from itself
  pub on-cycle-back : on_cycle next S t ≡ true → (k : ℕ) × (1 ≤ k) × (reached next k t ≡ t)
  on-cycle-back e = (cycle_length next S t, on-cycle_positive e, cycle-returns e)

-- ---- on a cycle, in a graph of S sessions

module _ {next : ℕ → ℕ} {S : ℕ} (g : Graph next S) where
  pub reached-none : (n : ℕ) → reached next n 0 ≡ 0
  unfolding reached
  reached-none zero = refl
  reached-none (suc n) = ap next (reached-none n) ∙ g.none

  pub reached-inside : (t : ℕ) → t ≤ S → (n : ℕ) → reached next n t ≤ S
  unfolding reached
  reached-inside t h zero = h
  reached-inside t h (suc n) = g.inside (reached next n t)

  -- whoever waits for none reaches none
  pub reached-past : (t : ℕ) → next t ≡ 0 → (k : ℕ) → 1 ≤ k → reached next k t ≡ 0
  reached-past t e zero h = absurd (omega arith)
  reached-past t e (suc k) h = reached-suc next k t ∙ ap (reached next k) e ∙ reached-none k

  module _ (t : ℕ) (low : 1 ≤ t) (k : ℕ) (once : 1 ≤ k) (back : reached next k t ≡ t) where
    -- 0 is not reached from t
    pub back_positive : (n : ℕ) → 1 ≤ reached next n t
    back_positive n = go (ℕ_discrete (reached next n t) 0)
      where
        go : Dec (reached next n t ≡ 0) → 1 ≤ reached next n t
        go (yes z) = let r = returns next t k once back n in absurd (omega (arith, sym r.2 ∙ ap (reached next r.0) z ∙ reached-none r.0))
        go (no z) = omega arith

    pub back_inside : t ≤ S
    unfolding reached
    back_inside = go k once back
      where
        go : (k : ℕ) → 1 ≤ k → reached next k t ≡ t → t ≤ S
        go zero a e = absurd (omega arith)
        go (suc k) a e = omega (arith, g.inside (reached next k t))

    test : ℕ → Bool
    test n = eqb (reached next n t) t

    -- the fewest waits by which t is reached from itself
    fewest : ℕ
    fewest = lowest k test

    fewest_least : (n : ℕ) → 1 ≤ n → n ≤ k → reached next n t ≡ t → (1 ≤ fewest) × (fewest ≤ n)
    unfolding fewest test
    fewest_least n a b e = lowest-found k test n a b (eq-eqb _ t e)

    fewest-back : reached next fewest t ≡ t
    unfolding fewest test
    fewest-back = eqb-true _ t (lowest-passes k test (let r = fewest_least k once (omega arith) back in omega arith))

    fewest_different : (i j : ℕ) → i < j → j < fewest → reached next i t ≢ reached next j t
    fewest_different i j h l e =
        let r = fewest_least k once (omega arith) back in
        let m = fewest - j in
        let q : reached next (m + i) t ≡ t = reached_add next m i t ∙ ap (reached next m) e ∙ reached-sum next m j fewest t (omega arith) ∙ fewest-back in
        let z = fewest_least (m + i) (omega arith) (omega arith) q in
        omega arith

    fewest_le : fewest ≤ S
    fewest_le = pigeonhole S fewest (λ i. reached next i t) (λ i h. (back_positive i, reached-inside t back_inside i)) fewest_different

    found : (1 ≤ cycle_length next S t) × (cycle_length next S t ≤ fewest)
    unfolding cycle_length
    found =
        let p : ℕ → Bool = λ n. eqb (reached next n t) t in
        let r = fewest_least k once (omega arith) back in
        lowest-found S p fewest r.0 fewest_le (eq-eqb _ t fewest-back)

    -- t lies on a cycle, and is not reached from itself by fewer waits than the length of the cycle
    pub on-cycle-found : on_cycle next S t ≡ true
    on-cycle-found = positive_on-cycle next S t found.0

    pub cycle-length_least : cycle_length next S t ≤ k
    cycle-length_least = let r = fewest_least k once (omega arith) back in omega (arith, found)
