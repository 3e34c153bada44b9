-- By any ranks seniority is a strict weak order, and by well-formed ones a strict total order, of all numbers. Well-formed ranks leave no number out.
use mathlib.Core.Path.{◌≡◌, refl, sym, ap, ◌∙◌, fun_ext}
use mathlib.Core.Bool.{Bool, true, false, true≢false}
use mathlib.Core.List.{List, [], ◌∷◌, ◌++◌}
use Prim.Native.Nat.{ℕ, suc, ◌-◌, ◌≤◌, ◌<◌}
use native.Mathlib.Omega.{arith}
use lib.Dec.{ltb}
use lib.ListN.{length, get_or, take}
use Rattle.lists.specs.Lists.{between, member, all_of, distinct}
use Rattle.lists.proofs.Tests.{and_both, and_intro, within, between_intro}
use Rattle.lists.proofs.Laws.{all_get_d, all_intro, get_d_tabulate, length-tabulate, tabulate-last, take-tabulate, distinct_apart, distinct_intro}
use Rattle.lists.proofs.Searches.{distinct-all}
use Rattle.lists.proofs.Orders.{StrictWeak, StrictTotal, measured, measured-total}
use Rattle.session.specs.Seniority.{rank, senior, well_formed, plain}
use Rattle.session.specs.Claims.{Ranks}

pub senior-weak : (ranks : List ℕ) → StrictWeak (senior ranks)
unfolding senior
senior-weak ranks = measured (rank ranks)

module _ (ranks : List ℕ) where
  abbrev n : ℕ
  n = length ranks

  pub rank-inside : (t : ℕ) → between 1 n t ≡ true → rank ranks t ≡ get_or ranks (t - 1) 0
  unfolding rank
  rank-inside t e = rw (e) refl

  pub rank_outside : (t : ℕ) → between 1 n t ≡ false → rank ranks t ≡ t
  unfolding rank
  rank_outside t e = rw (e) refl

  module _ (w : well_formed ranks ≡ true) where
    facts : (all_of (between 1 n) ranks ≡ true) × (distinct ranks ≡ true)
    unfolding well_formed
    facts = and_both (all_of (between 1 n) ranks) (distinct ranks) w

    -- the rank of a session lies in 1 to n
    rank-range : (t : ℕ) → between 1 n t ≡ true → between 1 n (rank ranks t) ≡ true
    rank-range t e =
        let r = within 1 n t e in
        ap (between 1 n) (rank-inside t e) ∙ all_get_d (between 1 n) ranks (t - 1) 0 facts.0 (omega arith)

    -- so no session has the rank of a number that is no session's
    mixed : (a b : ℕ) → between 1 n a ≡ true → between 1 n b ≡ false → rank ranks a ≡ rank ranks b → a ≡ b
    mixed a b e f q = absurd (true≢false (sym (rank-range a e) ∙ ap (between 1 n) (q ∙ rank_outside b f) ∙ f))

    same_rank : (a b : ℕ) (p q : Bool) → between 1 n a ≡ p → between 1 n b ≡ q → rank ranks a ≡ rank ranks b → a ≡ b
    same_rank a b true true e f r =
        let s = within 1 n a e in
        let t = within 1 n b f in
        let same = distinct_apart ranks facts.1 (a - 1) (b - 1) (omega arith) (omega arith) (sym (rank-inside a e) ∙ r ∙ rank-inside b f) in
        omega (arith, same)
    same_rank a b true false e f r = mixed a b e f r
    same_rank a b false true e f r = sym (mixed b a f e (sym r))
    same_rank a b false false e f r = sym (rank_outside a e) ∙ r ∙ rank_outside b f

    pub senior-order : StrictTotal (senior ranks)
    unfolding senior
    senior-order = measured-total (rank ranks) (λ a b. same_rank a b (between 1 n a) (between 1 n b) refl refl)

    -- none is missing
    every-rank : (r : ℕ) → 1 ≤ r → r ≤ n → member r ranks ≡ true
    every-rank = distinct-all ranks facts.1 facts.0

-- rank k for session k: well-formed, and the order of the numbers themselves
module _ (S : ℕ) where
  pub plain-length : length (plain S) ≡ S
  unfolding plain
  plain-length = length-tabulate S suc

  pub plain_more : plain (suc S) ≡ plain S ++ (suc S ∷ [])
  unfolding plain
  plain_more = tabulate-last S suc

  -- the ranks of more sessions begin with those of fewer
  pub plain-take : (n : ℕ) → S ≤ n → take S (plain n) ≡ plain S
  unfolding plain
  plain-take n h = take-tabulate S n suc h

  plain_at : (k : ℕ) → k < S → get_or (plain S) k 0 ≡ suc k
  unfolding plain
  plain_at k h = get_d_tabulate S suc k 0 h

  pub plain-formed : well_formed (plain S) ≡ true
  unfolding well_formed
  plain-formed =
      let len = plain-length in
      and_intro
      (all_intro (between 1 (length (plain S))) (plain S) 0 (λ k h. rw (plain_at k (omega arith)) (between_intro 1 (length (plain S)) (suc k) (omega arith) (omega arith))))
      (distinct_intro (plain S) (λ i j h g e. absurd (omega (arith, plain_at i (omega arith), plain_at j (omega arith), e))))

  plain-rank : (t : ℕ) (b : Bool) → between 1 (length (plain S)) t ≡ b → rank (plain S) t ≡ t
  plain-rank t true e =
      let r = within 1 (length (plain S)) t e in
      rank-inside (plain S) t e ∙ plain_at (t - 1) (omega (arith, plain-length)) ∙ omega arith
  plain-rank t false e = rank_outside (plain S) t e

  plain-by-number : senior (plain S) ≡ ltb
  unfolding senior
  plain-by-number =
      fun_ext (λ a. fun_ext (λ b.
      ap (λ (r : ℕ). ltb r (rank (plain S) b)) (plain-rank a (between 1 (length (plain S)) a) refl) ∙ ap (ltb a) (plain-rank b (between 1 (length (plain S)) b) refl)))

pub theorem : Ranks
theorem = record { every-rank = every-rank; by_number = plain-by-number }
