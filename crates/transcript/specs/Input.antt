-- The input of the replay program: S and M (1 byte each), n (2 bytes), n verbs, then n pairs (session, item).
use Rattle.std.specs.Prelude.{ℕ, ◌+◌, ◌*◌, Bool, ◌&&◌, List, eqb, leb, length, get_or}
use Rattle.buffer.specs.Bytes.{slice, from_bytes}
use Rattle.lists.specs.Lists.{between, tabulate}
use Rattle.message.specs.Limits.{max_sessions, max_items}
use Rattle.lockmgr.specs.Run as Run

abbrev pub sessions_in : List ℕ → ℕ
sessions_in input = get_or input 0 0

abbrev pub items_in : List ℕ → ℕ
items_in input = get_or input 1 0

abbrev pub count_in : List ℕ → ℕ
count_in input = from_bytes (slice input 2 2)

-- n is 0 to 4,096
abbrev pub max_steps : ℕ
max_steps = 4096

abbrev pub header : ℕ
header = 4

abbrev pub size : ℕ → ℕ
size n = header + 3 * n

-- S, M and n are within bounds, and the length is that of n
unfoldable pub well_formed : List ℕ → Bool
well_formed input =
    between 1 max_sessions (sessions_in input) && between 1 max_items (items_in input) && leb (count_in input) max_steps
    && eqb (length input) (size (count_in input))

-- where the verb of step k stands, and its pair, k from 0
abbrev pub verb_place : ℕ → ℕ
verb_place k = header + k

abbrev pub pair_place : ℕ → ℕ → ℕ
pair_place n k = header + n + 2 * k

unfoldable pub step_at : List ℕ → ℕ → Run.Step
step_at input k =
    record {
      verb = get_or input (verb_place k) 0;
      session = get_or input (pair_place (count_in input) k) 0;
      item = get_or input (pair_place (count_in input) k + 1) 0;
    }

unfoldable pub steps_in : List ℕ → List Run.Step
steps_in input = tabulate (count_in input) (step_at input)
