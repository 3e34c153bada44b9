-- The messages of a step: how many there may be, one from its parts, and the array that holds a list of them.
use Rattle.std.specs.Prelude.{ℕ, ◌+◌, ◌*◌, ◌-◌, List, ◌++◌, length, replicate}
use Rattle.message.specs.declared.Message.{Message}
use Rattle.message.specs.Limits.{max_sessions}

-- the most messages that one step could send: one, and two for each waiting session, with one place to spare
abbrev pub room : ℕ
room = 2 + 2 * max_sessions

abbrev pub message : ℕ → ℕ → ℕ → ℕ → Message
message peer kind a b = record { peer = peer; kind = kind; a = a; b = b }

-- a message of a kind that carries no sessions
abbrev pub plain : ℕ → ℕ → Message
plain peer kind = message peer kind 0 0

-- the messages, then blanks
unfoldable pub cells : List Message → List Message
cells l = l ++ replicate (room - length l) (plain 0 0)
