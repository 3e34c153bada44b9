-- The causes for which a call or a list of days is refused (01: turned back), by number. RULES is docs/RULES.md.
use Rattle.std.specs.Prelude.{ℕ, Bool, cond, List, [], ◌∷◌}

-- RULES 8.1
abbrev pub bad_verb : ℕ
bad_verb = 1

-- RULES 8.2
abbrev pub bad_size : ℕ
bad_size = 2

-- RULES 8.3
abbrev pub bad_table : ℕ
bad_table = 3

-- RULES 8.4
abbrev pub bad_mail : ℕ
bad_mail = 4

-- RULES 8.5
abbrev pub bad_number : ℕ
bad_number = 5

-- RULES 8.6
abbrev pub wrong_stage : ℕ
wrong_stage = 6

-- RULES 8.7
abbrev pub wrong_item : ℕ
wrong_item = 7

-- RULES 8.8
abbrev pub no_message : ℕ
no_message = 8

-- RULES 8.9
abbrev pub mail_full : ℕ
mail_full = 9

-- RULES 8.10
abbrev pub no_cycle : ℕ
no_cycle = 10

-- RULES 8.11
abbrev pub short_buffer : ℕ
short_buffer = 11

-- RULES 8.12
abbrev pub bad_list : ℕ
bad_list = 12

-- RULES 8.13
abbrev pub nobody : ℕ
nobody = 13

-- RULES 8.14
abbrev pub bad_ranks : ℕ
bad_ranks = 14

-- RULES 8.15
abbrev pub in_use : ℕ
in_use = 15

-- a cause that holds or not
pub record Cause : Type 0 where
  pub holds : Bool
  pub refusal : ℕ

abbrev pub cause : Bool → ℕ → Cause
cause b n = record { holds = b; refusal = n }

-- the number of the first cause that holds, or 0: RULES 8.0
unfoldable pub first : List Cause → ℕ
first [] = 0
first (c ∷ l) = cond c.holds c.refusal (first l)
