-- A cycle of waits (01: ring), member by member. RULES is docs/RULES.md.
use Rattle.std.specs.Prelude.{ℕ, Bool, List, get_or}
use Rattle.lists.specs.Lists.{tabulate}
use Rattle.session.specs.MostSenior.{most_senior}
use Rattle.waits.specs.declared.Wait.{Wait}
use Rattle.waits.specs.Waits.{reached, cycle_length}

-- S sessions, each of which waits for the next
module _ (next : ℕ → ℕ) (S : ℕ) where
  -- the sessions of the cycle on which t lies, from t on; none where it lies on no cycle
  unfoldable pub around : ℕ → List ℕ
  around t = tabulate (cycle_length next S t) (λ k. reached next k t)

  -- the most senior of them
  unfoldable pub leader : (ℕ → ℕ → Bool) → ℕ → ℕ
  leader senior t = get_or (around t) (most_senior senior (around t)) 0

-- each waits at an item
module _ (at next : ℕ → ℕ) where
  -- session t, the item at which it waits, and the session for which it waits
  abbrev pub wait : ℕ → Wait
  wait t = record { session = t; item = at t; holder = next t }

  -- n waits, one after another, from session t on
  abbrev pub waits_from : ℕ → ℕ → List Wait
  waits_from n t = tabulate n (λ k. wait (reached next k t))

  -- the cycle on which t lies, from its most senior member and once round: RULES 7.7
  unfoldable pub cycle : ℕ → (ℕ → ℕ → Bool) → ℕ → List Wait
  cycle S senior t = waits_from (cycle_length next S t) (leader next S senior t)
