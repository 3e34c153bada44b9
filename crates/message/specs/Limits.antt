-- The greatest numbers of sessions and items. Both are numbered from 1.
use Rattle.std.specs.Prelude.{ℕ, ◌≤◌}

abbrev pub max_sessions : ℕ
max_sessions = 64

abbrev pub max_items : ℕ
max_items = 64

-- the numbers of sessions and items
abbrev pub IsSession : ℕ → Type 0
IsSession t = (1 ≤ t) × (t ≤ max_sessions)

abbrev pub IsItem : ℕ → Type 0
IsItem x = (1 ≤ x) × (x ≤ max_items)
