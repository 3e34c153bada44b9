-- What the code that goes round a cycle asks and keeps.
use Rattle.std.specs.Prelude.{ℕ, ◌+◌, ◌*◌, ◌≤◌, List}
use Rattle.waits.specs.declared.Wait.{Wait}
use Rattle.waits.specs.Cycle
use Rattle.waits.specs.OnTable.{waits_at, waits_for, cycle_length}

-- 42 bytes, and three numbers below 256: no line is longer
abbrev pub longest_line : ℕ
longest_line = 42 + 3 * 3

-- a session of a table on a cycle
pub record OnCycle (table : List ℕ) (t : ℕ) : Type 0 where
  pub low : 1 ≤ t
  pub some : 1 ≤ cycle_length table t

-- n waits, one after another, from session t on
abbrev pub waits_from : List ℕ → ℕ → ℕ → List Wait
waits_from table n t = Cycle.waits_from (waits_at table) (waits_for table) n t
