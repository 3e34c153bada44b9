-- Laws of sums and counts over 1 to n, and of the lengths of lists of numbers.
use mathlib.Core.Path.{◌∙◌, ◌≡◌, ap, refl, sym}
use mathlib.Core.Bool.{◌&&◌, Bool, and-false, and-true, false, not, true, true≢false}
use mathlib.Core.List.{[], ◌∷◌, List}
use Prim.Native.Nat.{◌*◌, ◌+◌, ◌≤◌, suc, zero, ℕ}
use native.Mathlib.Omega.{arith}
use lib.Dec.{eqb}
use lib.ListN.{get_or, length, length-append}
use borrow.Author.Tests.{ne_eqb}
use Rattle.lists.specs.Lists.{between, count_up_to, distinct, member, sum_up_to}
use Rattle.lists.proofs.Laws.{all_intro, get_d_member}
use Rattle.lists.proofs.Searches.{count-one-more, distinct-length}
use Rattle.lists.proofs.Tests.{and_intro, between_intro, by-test, eqb_self, fails}
use Rattle.deadlock.specs.Lists.{bit, occurs, one_to, without}
use Rattle.deadlock.proofs.Laws.Lists.{member-occurs}

-- ---- sums
-- each term is at most c
pub sum_le : (n c : ℕ) (f : ℕ → ℕ) → ((a : ℕ) → f a ≤ c) → sum_up_to n f ≤ n * c
unfolding sum_up_to
sum_le zero c f h = omega arith
sum_le (suc n) c f h = omega (arith, h (suc n), sum_le n c f h)

-- ---- counts
-- whatever passes the one test passes the other
count-more : (n : ℕ) (p q : ℕ → Bool) → ((j : ℕ) → p j ≡ true → q j ≡ true) → count_up_to n p ≤ count_up_to n q
unfolding count_up_to
count-more zero p q h = omega arith
count-more (suc n) p q h =
    by-test (λ (a : ℕ). a ≤ count_up_to (suc n) q) (p (suc n)) (λ e. rw (h (suc n) e) (omega (arith, count-more n p q h)))
    (λ _. by-test (λ (a : ℕ). count_up_to n p ≤ a) (q (suc n)) (λ _. omega (arith, count-more n p q h)) (λ _. count-more n p q h))

-- and k passes only that
pub count_less : (n : ℕ) (p q : ℕ → Bool) (k : ℕ) → 1 ≤ k → k ≤ n → p k ≡ false → q k ≡ true → ((j : ℕ) → p j ≡ true → q j ≡ true) → count_up_to n p + 1 ≤ count_up_to n q
count_less n p q k lo hi f g h =
    let r : ℕ → Bool = λ j. q j && not (eqb j k) in
    omega (
      arith,
      count-one-more n q r k lo hi g (rw (eqb_self k) (and-false (q k))) (λ j _ _ ne. rw (ne_eqb j k ne) (sym (and-true (q j)))),
      count-more n p r (λ j e. and_intro (h j e) (ap not (ne_eqb j k (λ z. true≢false (sym e ∙ ap p z ∙ f))))),
    )

-- ---- lengths
pub length_without : (a : ℕ) (l : List ℕ) → length (without a l) ≤ length l
unfolding without
length_without a [] = omega arith
length_without a (b ∷ l) = by-test (λ (k : List ℕ). length k ≤ suc (length l)) (eqb b a) (λ _. omega arith) (λ _. omega (arith, length_without a l))

pub length-one_to : (n : ℕ) → length (one_to n) ≡ n
unfolding one_to
length-one_to zero = refl
length-one_to (suc n) = omega (arith, length-append (one_to n) (suc n ∷ []), length-one_to n)

occurs-distinct : (l : List ℕ) → ((a : ℕ) → occurs a l ≤ 1) → distinct l ≡ true
unfolding occurs distinct
occurs-distinct [] h = refl
occurs-distinct (a ∷ l) h =
    and_intro (ap not (fails (member a l) (λ e. omega (arith, h a, ap bit (eqb_self a), member-occurs a l e)))) (occurs-distinct l (λ b. omega (arith, h b)))

-- different numbers from 1 to n: at most n of them
pub length_le : (n : ℕ) (l : List ℕ) → ((a : ℕ) → occurs a l ≤ 1) → ((a : ℕ) → 1 ≤ occurs a l → (1 ≤ a) × (a ≤ n)) → length l ≤ n
length_le n l one h =
    distinct-length n l (occurs-distinct l one)
    (all_intro (between 1 n) l 0 (λ k hi. let r = h (get_or l k 0) (member-occurs _ l (get_d_member l k hi)) in between_intro 1 n (get_or l k 0) r.0 r.1))
