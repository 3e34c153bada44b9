-- The chain of waits alternates, session to its item and item to its holder: two halves that call each other with the steps left falling.
use Rattle.std.specs.Prelude.{ℕ, zero, suc, cond, eqb, Option, None, Some}
use Rattle.item.specs.Record.{Lock}
use Rattle.waits.specs.Waits.{waits_at}

-- a number of waits as the code answers it: none in place of 0
abbrev pub unless_zero : ℕ → Option ℕ
unless_zero zero = None
unless_zero (suc n) = Some (suc n)

-- one wait more, where there is a way
abbrev pub one_more : ℕ → ℕ
one_more zero = 0
one_more (suc n) = suc (suc n)

unfoldable mutual
  -- how many waits lead from session s to `me`, or 0 where none do within the steps left
  pub walk_from_session : ℕ → ℕ → (ℕ → Lock) → ℕ → ℕ → ℕ
  walk_from_session zero M locks me s = 0
  walk_from_session (suc n) M locks me s = cond (eqb (waits_at M locks s) 0) 0 (walk_from_item n M locks me (waits_at M locks s))

  -- the same from the wait at item x on, that wait counted
  pub walk_from_item : ℕ → ℕ → (ℕ → Lock) → ℕ → ℕ → ℕ
  walk_from_item zero M locks me x = 0
  walk_from_item (suc n) M locks me x = cond (eqb (locks x).holder me) 1 (one_more (walk_from_session n M locks me (locks x).holder))
