-- The input of the statement program: the number of days n, then the sessions taken part on day 1 to n, then the sessions rolled back on day 1 to n. Each value has 2 bytes. RULES is docs/RULES.md.
use Rattle.std.specs.Prelude.{ℕ, ◌+◌, ◌*◌, Bool, ◌&&◌, List, eqb, leb, length}
use Rattle.lists.specs.Lists.{between, every}
use Rattle.buffer.specs.Bytes.{slice, from_bytes}
use Rattle.yearly.specs.declared.Record.{Record}

-- value i, from 0
abbrev pub value_at : List ℕ → ℕ → ℕ
value_at input i = from_bytes (slice input (2 * i) 2)

abbrev pub days_in : List ℕ → ℕ
days_in input = value_at input 0

-- sessions taken part on a day, from 1
abbrev pub taken_part : List ℕ → ℕ → ℕ
taken_part input day = value_at input day

-- sessions rolled back on that day
abbrev pub rolled_back : List ℕ → ℕ → ℕ
rolled_back input day = value_at input (days_in input + day)

abbrev pub record_at : List ℕ → ℕ → Record
record_at input day = record { sessions = taken_part input day; rollbacks = rolled_back input day }

abbrev pub max_days : ℕ
max_days = 366

-- the length of an input of n days
abbrev pub size : ℕ → ℕ
size n = 2 * (1 + 2 * n)

-- the number of days is within bounds, and the length is that of so many days: RULES 12.1
unfoldable pub sized : List ℕ → Bool
sized input = between 1 max_days (days_in input) && eqb (length input) (size (days_in input))

-- on a day no more are rolled back than took part
abbrev pub consistent_day : List ℕ → ℕ → Bool
consistent_day input day = leb (rolled_back input day) (taken_part input day)

unfoldable pub consistent : List ℕ → Bool
consistent input = every (days_in input) (consistent_day input)
