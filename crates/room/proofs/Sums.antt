-- Laws of sums over lists of numbers.
use mathlib.Core.Path.{◌≡◌, ap, refl, sym}
use mathlib.Core.Bool.{cond}
use mathlib.Core.List.{[], ◌∷◌, List}
use Prim.Native.Nat.{◌+◌, ◌≤◌, ℕ}
use native.Mathlib.Omega.{arith}
use lib.Dec.{eqb}
use borrow.Author.Tests.{eqb-true, ne_eqb}
use Rattle.lists.specs.Lists.{member, sum_up_to}
use Rattle.lists.proofs.Searches.{sum_changed}
use Rattle.lists.proofs.Tests.{by-test, eqb_self}
use Rattle.deadlock.specs.Lists.{bit, occurs, without}
use Rattle.deadlock.specs.Counts.{sum_over}
use Rattle.deadlock.proofs.Laws.Lists.{occurs-member}

-- a sum over a list of different numbers from 1 to n
different_sum : (n : ℕ) (l : List ℕ) (f g : ℕ → ℕ) → ((a : ℕ) → occurs a l ≤ 1) → ((a : ℕ) → 1 ≤ occurs a l → (1 ≤ a) × (a ≤ n))
    → ((a : ℕ) → 1 ≤ occurs a l → f a ≤ g a) → sum_over f l ≤ sum_up_to n g
unfolding occurs sum_over
different_sum n [] f g once range le = omega arith
different_sum n (b ∷ l) f g once range le =
    let self = ap bit (eqb_self b) in
    let r = range b (omega arith) in
    let other : ℕ → ℕ = λ a. cond (eqb a b) 0 (g a) in
    let gone : other b ≡ 0 = rw (eqb_self b) refl in
    omega (
      arith,
      le b (omega arith),
      sum_changed n b g other r.0 r.1 (λ a ne. rw (ne_eqb a b (λ z. ne (sym z))) refl),
      different_sum n l f other (λ a. omega (arith, once a)) (λ a h. range a (omega arith))
          (λ a h. by-test (λ (c : ℕ). f a ≤ c) (eqb a b)
          (λ e. let q = eqb-true a b e in absurd (omega (arith, once b, ap (λ (c : ℕ). occurs c l) q))) (λ _. le a (omega arith))),
    )

-- as a sum over all numbers that stand in a longer list
pub list_sum : (n : ℕ) (l q : List ℕ) (f g : ℕ → ℕ) → ((a : ℕ) → occurs a l ≤ occurs a q) → ((a : ℕ) → occurs a q ≤ 1)
    → ((a : ℕ) → 1 ≤ occurs a q → (1 ≤ a) × (a ≤ n)) → ((a : ℕ) → 1 ≤ occurs a l → f a ≤ g a)
    → sum_over f l ≤ sum_up_to n (λ a. cond (member a q) (g a) 0)
list_sum n l q f g within once range le =
    different_sum n l f (λ a. cond (member a q) (g a) 0) (λ a. omega (arith, within a, once a)) (λ a h. range a (omega (arith, within a)))
    (λ a h. rw (occurs-member a q (omega (arith, within a))) (le a h))

-- ---- sums over lists
pub sum_over_add : (f g : ℕ → ℕ) (l : List ℕ) → sum_over f l + sum_over g l ≡ sum_over (λ a. f a + g a) l
unfolding sum_over
sum_over_add f g [] = refl
sum_over_add f g (a ∷ l) = omega (arith, sum_over_add f g l)

-- what is taken out had its part
pub sum_over-less : (f : ℕ → ℕ) (t : ℕ) (l : List ℕ) → 1 ≤ occurs t l → sum_over f (without t l) + f t ≡ sum_over f l
unfolding sum_over without occurs
sum_over-less f t [] h = absurd (omega arith)
sum_over-less f t (a ∷ l) h =
    by-test (λ (q : List ℕ). sum_over f q + f t ≡ f a + sum_over f l) (eqb a t) {x = l} {y = a ∷ without t l} (λ e. omega (arith, ap f (eqb-true a t e)))
    (λ e. omega (arith, sum_over-less f t l (omega (arith, ap bit e))))
