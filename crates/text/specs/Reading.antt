-- The numbers that stand in a text, read back.
use Rattle.std.specs.Prelude.{ℕ, ◌+◌, ◌-◌, ◌*◌, Bool, cond, List, [], ◌∷◌}
use Rattle.lists.specs.Lists.{between}
use Rattle.text.specs.Text.{digit}

abbrev pub is_digit : ℕ → Bool
is_digit c = between (digit 0) (digit 9) c

-- the number whose digits are n's and then c
abbrev pub with_digit : ℕ → ℕ → ℕ
with_digit n c = 10 * n + (c - digit 0)

unfoldable mutual
  -- the numbers that stand in a text, in their order: each is a run of digits
  pub numbers : List ℕ → List ℕ
  numbers [] = []
  numbers (c ∷ l) = cond (is_digit c) (number_from (with_digit 0 c) l) (numbers l)

  -- the same where digits that make n stand before the text
  pub number_from : ℕ → List ℕ → List ℕ
  number_from n [] = n ∷ []
  number_from n (c ∷ l) = cond (is_digit c) (number_from (with_digit n c) l) (n ∷ numbers l)
