-- Waits and cycles of a table.
use Rattle.std.specs.Prelude.{ℕ, Bool, cond, List, Option, None, Some, eqb}
use Rattle.item.specs.Record.{Lock, unpacked}
use Rattle.table.specs.Layout as Table
use Rattle.waits.specs.declared.Wait.{Wait}
use Rattle.waits.specs.Waits
use Rattle.waits.specs.Cycle

-- what the record of item x says
unfoldable pub locks : List ℕ → ℕ → Lock
locks table x = unpacked (Table.item table x)

-- the item at which session t waits, or 0
abbrev pub waits_at : List ℕ → ℕ → ℕ
waits_at table t = Waits.waits_at (Table.items_of table) (locks table) t

-- the session for which session t waits, or 0
abbrev pub waits_for : List ℕ → ℕ → ℕ
waits_for table t = Waits.waits_for (Table.items_of table) (locks table) t

-- the length of the cycle on which session t lies, or 0
abbrev pub cycle_length : List ℕ → ℕ → ℕ
cycle_length table t = Waits.cycle_length (waits_for table) (Table.sessions_of table) t

-- the number of standing cycles
abbrev pub cycles : List ℕ → ℕ
cycles table = Waits.cycles (waits_for table) (Table.sessions_of table) (Table.senior table)

-- session t, the item at which it waits, and the session for which it waits
abbrev pub wait : List ℕ → ℕ → Wait
wait table t = Cycle.wait (waits_at table) (waits_for table) t

-- the wait of session t, if it waits
abbrev pub next_wait : List ℕ → ℕ → Option Wait
next_wait table t = cond (eqb (waits_at table t) 0) None (Some (wait table t))

-- the most senior member of the cycle on which t lies
abbrev pub leader : List ℕ → ℕ → ℕ
leader table t = Cycle.leader (waits_for table) (Table.sessions_of table) (Table.senior table) t

-- the cycle on which t lies, from there and once round; by a seniority, and by that of the table
abbrev pub cycle_by : (ℕ → ℕ → Bool) → List ℕ → ℕ → List Wait
cycle_by senior table t = Cycle.cycle (waits_at table) (waits_for table) (Table.sessions_of table) senior t

abbrev pub cycle : List ℕ → ℕ → List Wait
cycle table t = cycle_by (Table.senior table) table t
