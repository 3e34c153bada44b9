-- What is proved of statements beside their bytes, for every input. RULES is docs/RULES.md.
use Rattle.std.specs.Prelude.{ℕ, ◌+◌, ◌-◌, ◌*◌, ◌%◌, ◌≤◌, ◌≡◌, List, [], ◌∷◌, ◌++◌}
use Rattle.lists.specs.Lists.{sum_up_to, append_up_to}
use Rattle.text.specs.Reading.{numbers}
use Rattle.program.specs.Program.{DecidedBy}
use Rattle.yearly.specs.Input.{days_in, taken_part, rolled_back, max_days, size}
use Rattle.yearly.specs.Rate.{rate}
use Rattle.yearly.specs.Printed.{refusal, statement}

-- the numbers of the records of the days 1 to n: day, sessions taken part, sessions rolled back
abbrev pub day_numbers : List ℕ → ℕ → List ℕ
day_numbers input n = append_up_to n (λ day. day ∷ taken_part input day ∷ rolled_back input day ∷ [])

-- where a list is not refused, the numbers that stand in what is printed are those of the records, then the sums of the records, then the rate: RULES 12.7
abbrev pub SumsPrinted : Type 0
SumsPrinted =
    (input : List ℕ) → refusal input ≡ 0
    → let n = days_in input in
    let sessions = sum_up_to n (taken_part input) in
    let rollbacks = sum_up_to n (rolled_back input) in
    numbers (statement input) ≡ day_numbers input n ++ (sessions ∷ rollbacks ∷ rate rollbacks sessions ∷ [])

-- how far the whole number k is from the fraction a / b, times b
abbrev pub distance : ℕ → ℕ → ℕ → ℕ
distance a b k = (k * b - a) + (a - k * b)

-- k is the fraction a / b rounded half to even
pub record HalfEven (a b k : ℕ) : Type 0 where
  -- no whole number is nearer
  pub nearest : (n : ℕ) → distance a b k ≤ distance a b n
  -- and where another is as near, k is even
  pub even : (n : ℕ) → distance a b n ≡ distance a b k → (n ≡ k → ⊥) → k % 2 ≡ 0

-- where a list is not refused, the last number that stands in what is printed is the exact rate, rounded so: RULES 12.7
abbrev pub RatePrinted : Type 0
RatePrinted =
    (input : List ℕ) → refusal input ≡ 0
    → let n = days_in input in
    let sessions = sum_up_to n (taken_part input) in
    let rollbacks = sum_up_to n (rolled_back input) in
    (k : ℕ) × (numbers (statement input) ≡ day_numbers input n ++ (sessions ∷ rollbacks ∷ k ∷ [])) × HalfEven (1000 * rollbacks) sessions k

-- only one number is rounded so: RULES 12.5
abbrev pub OneRounded : Type 0
OneRounded = (a b k l : ℕ) → 1 ≤ b → HalfEven a b k → HalfEven a b l → k ≡ l

-- one byte more than the longest input
abbrev pub read_size : ℕ
read_size = size max_days + 1

-- so much is enough to read: RULES 12.8
abbrev pub Enough : Type 0
Enough = DecidedBy read_size statement
