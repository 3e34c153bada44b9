-- The statement program as a function from the bytes of its input to the bytes of its output. RULES is docs/RULES.md.
use Rattle.std.specs.Prelude.{ℕ, ◌+◌, ◌*◌, not, cond, ◌&&◌, List, [], ◌∷◌, ◌++◌, eqb}
use Rattle.lists.specs.Lists.{sum_up_to, append_up_to}
use Rattle.refusal.specs.Refusal
use Rattle.refusal.specs.Refusal.{Cause, cause, first}
use Rattle.text.specs.Text.{line}
use Rattle.yearly.specs.declared.Record.{Record}
use Rattle.yearly.specs.Input.{days_in, taken_part, rolled_back, record_at, max_days, sized, consistent}
use Rattle.yearly.specs.Rate.{rate}

-- the sums of the records of all days
unfoldable pub sums : List ℕ → Record
sums input =
    record { sessions = sum_up_to (days_in input) (taken_part input); rollbacks = sum_up_to (days_in input) (rolled_back input) }

-- RULES 8.12 and 8.13
abbrev pub causes : List ℕ → List Cause
causes input =
    cause (not (sized input && consistent input)) Refusal.bad_list
    ∷ cause (eqb (sums input).sessions 0) Refusal.nobody
    ∷ []

abbrev pub refusal : List ℕ → ℕ
refusal input = first (causes input)

-- day from 1, taken part, rolled back: RULES 12.3
unfoldable pub day_line : ℕ → Record → List ℕ
day_line day r = line day (r.sessions ∷ r.rollbacks ∷ [])

-- both sums and the rate: RULES 12.4
unfoldable pub last_line : Record → List ℕ
last_line r = line r.sessions (r.rollbacks ∷ rate r.rollbacks r.sessions ∷ [])

-- the lines of the days 1 to n
abbrev pub day_lines : List ℕ → ℕ → List ℕ
day_lines input n = append_up_to n (λ day. day_line day (record_at input day))

-- the whole output
unfoldable pub statement : List ℕ → List ℕ
statement input =
    cond (eqb (refusal input) 0) (day_lines input (days_in input) ++ last_line (sums input)) (line (refusal input) [])

-- a day of three digits, two numbers of five digits and a space, and the line feed: no line of a day is longer
abbrev pub longest_line : ℕ
longest_line = 3 + 2 * 6 + 1

-- two sums of eight digits, a rate of four, two spaces and the line feed
abbrev pub longest_last : ℕ
longest_last = 8 + 9 + 5 + 1

-- no output is longer
abbrev pub longest : ℕ
longest = longest_line * max_days + longest_last
