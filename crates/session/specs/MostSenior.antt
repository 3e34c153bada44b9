-- The most senior of a list of sessions, by any seniority.
use Rattle.std.specs.Prelude.{ℕ, Bool, not, List}
use Rattle.lists.specs.Lists.{all_of, find_index}

module _ (senior : ℕ → ℕ → Bool) where
  -- no session of the list is senior to r. In a list that is not empty exactly one member passes, where seniority is a strict total order
  -- (proofs/MostSenior.antt)
  unfoldable pub is_most_senior : List ℕ → ℕ → Bool
  is_most_senior l r = all_of (λ s. not (senior s r)) l

  -- the place of that member
  unfoldable pub most_senior : List ℕ → ℕ
  most_senior l = find_index (is_most_senior l) l
