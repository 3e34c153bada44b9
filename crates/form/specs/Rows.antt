-- Rows: the juniors of a session, the queue of an item.
use Rattle.std.specs.Prelude.{ℕ, List, ◌++◌, replicate}
use Rattle.message.specs.Limits.{max_sessions}

-- what the code compares the bytes of a row with, so that some are at most s and the others zero: a row of s, then a row of zeros
abbrev pub limits_of : ℕ → List ℕ
limits_of s = replicate max_sessions s ++ replicate max_sessions 0
