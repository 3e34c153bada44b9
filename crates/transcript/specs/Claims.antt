-- What is proved of the replay program beside its output.
use Rattle.std.specs.Prelude.{ℕ, ◌+◌}
use Rattle.program.specs.Program.{DecidedBy}
use Rattle.transcript.specs.Input.{max_steps, size}
use Rattle.transcript.specs.Transcript.{transcript}

-- one byte more than the longest input
abbrev pub read_size : ℕ
read_size = size max_steps + 1

-- so much is enough to read
abbrev pub Enough : Type 0
Enough = DecidedBy read_size transcript
