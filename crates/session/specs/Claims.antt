-- What is claimed of ranks. RULES is docs/RULES.md.
use Rattle.std.specs.Prelude.{ℕ, ◌≤◌, ◌≡◌, true, List, ltb, length}
use Rattle.lists.specs.Lists.{member}
use Rattle.session.specs.Seniority.{senior, well_formed, plain}

pub record Ranks : Type 0 where
  -- well-formed ranks leave no number out: RULES 2.8
  pub every-rank : (ranks : List ℕ) → well_formed ranks ≡ true → (r : ℕ) → 1 ≤ r → r ≤ length ranks → member r ranks ≡ true
  -- with rank k for session k seniority is the order of the numbers: RULES 9.12
  pub by_number : (S : ℕ) → senior (plain S) ≡ ltb
