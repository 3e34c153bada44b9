-- `all` over the numbers below n tests each of them, or each from 1 to n where the closure tests the next number.
use mathlib.Core.Path.{◌≡◌, refl, sym, ap, ◌∙◌}
use mathlib.Core.Bool.{Bool, true, false, ◌&&◌, and-true, and_assoc}
use mathlib.Core.List.{List}
use Prim.Native.Nat.{ℕ, zero, suc, ◌+◌}
use native.Mathlib.Nat.{add-zero, zero-add}
use native.Mathlib.Numerals.{add-one}
use native.Mathlib.Omega.{arith}
use denote.Param.Members.{Mut}
use Rattle.std.specs.declared.ops.Range.{Range}
use Rattle.std.specs.Prelude.{Option}
use Rattle.std.specs.Fn.{Called}
use Rattle.std.specs.Iterator.{YieldsThen}
use Rattle.std.specs.List.{FoldsTo, list_all, range_with_len}
use Rattle.std.specs.Option.{MatchOption}
use Rattle.std.proofs.iter.Yields.{nat_range_steps}
use Rattle.std.proofs.lemmas.Iterator.{YieldsList-from_range}
use Rattle.std.proofs.lemmas.Iterator.Search.{all_from_yields_List}
use Rattle.lists.specs.Lists.{every, every_below}

-- the last number of the range is tested last
all-last : (p : ℕ → Bool) (a n : ℕ) → list_all p (range_with_len a (suc n)) ≡ list_all p (range_with_len a n) && p (a + n)
all-last p a zero = rw (add-zero) (and-true (p a))
all-last p a (suc n) =
    let next : a + 1 + n ≡ a + suc n = omega arith in
    ap (λ b. p a && b) (all-last p (a + 1) n) ∙ sym (and_assoc (p a) (list_all p (range_with_len (a + 1) n)) (p (a + 1 + n)))
    ∙ ap (λ k. (p a && list_all p (range_with_len (a + 1) n)) && p k) next

all_below : (p : ℕ → Bool) (n : ℕ) → list_all p (range_with_len 0 n) ≡ every_below n p
unfolding every_below
all_below p zero = refl
all_below p (suc n) = all-last p 0 n ∙ rw (all_below p n, zero-add) refl

below_every : (p : ℕ → Bool) (n : ℕ) → every_below n (λ k. p (k + 1)) ≡ every n p
unfolding every_below every
below_every p zero = refl
below_every p (suc n) = rw (below_every p n, add-one) refl

module _ {F : Type 0} {g : Mut F (ℕ × Unit {0}) Bool} (p : ℕ → Bool) (f : F) (n : ℕ) (r : Bool) (s u : Range ℕ) (whole : s ≡ record { start = 0; end = n })
    (ran : (xs : List ℕ) × (o : Option ℕ) × (j : F) × YieldsThen nat_range_steps s xs o u × FoldsTo (λ q x k. Called g q (x, tt) true k) f xs j
    × MatchOption o (r ≡ true) (λ x. (r ≡ false) × ((h : F) × Called g j (x, tt) false h))) where
  -- what `all` answers where the closure answers p of each number
  pub all_below_n : ((x : ℕ) (b : Bool) (q : F) → Called g f (x, tt) b q → (q ≡ f) × (b ≡ p x)) → r ≡ every_below n p
  all_below_n h = all_from_yields_List p u f r ran (YieldsList-from_range 0 n n whole (omega arith)) h ∙ all_below p n

  -- and where it answers p of the next
  pub all_up_to : ((x : ℕ) (b : Bool) (q : F) → Called g f (x, tt) b q → (q ≡ f) × (b ≡ p (x + 1))) → r ≡ every n p
  all_up_to h =
      all_from_yields_List (λ k. p (k + 1)) u f r ran (YieldsList-from_range 0 n n whole (omega arith)) h ∙ all_below (λ k. p (k + 1)) n ∙ below_every p n
