-- The rate of a statement. RULES is docs/RULES.md.
use Rattle.std.specs.Prelude.{ℕ, ◌+◌, ◌*◌, ◌/◌, ◌%◌, cond, ltb}

-- the fraction a / b rounded half to even, to the nearest whole and at a tie to the even one: RULES 12.5
unfoldable pub round_half_even : ℕ → ℕ → ℕ
round_half_even a b =
    let quotient = a / b in
    let remainder = a % b in
    cond (ltb (2 * remainder) b) quotient (cond (ltb b (2 * remainder)) (quotient + 1) (quotient + quotient % 2))

-- sessions rolled back per thousand taken part: RULES 12.5
abbrev pub rate : ℕ → ℕ → ℕ
rate rollbacks sessions = round_half_even (1000 * rollbacks) sessions
