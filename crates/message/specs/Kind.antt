-- The kinds of message. Requests to withdraws run from a session to an item; probes and cleans run both ways; grants to withdrawns run from an item to a session.
use Rattle.std.specs.Prelude.{ℕ, Bool, ◌||◌, eqb}

abbrev pub request : ℕ
request = 1

abbrev pub release : ℕ
release = 2

-- (initiator, junior)
abbrev pub probe : ℕ
probe = 3

-- (victim, initiator)
abbrev pub clean : ℕ
clean = 4

abbrev pub rebroadcast : ℕ
rebroadcast = 5

abbrev pub withdraw : ℕ
withdraw = 6

abbrev pub grant : ℕ
grant = 7

abbrev pub resend : ℕ
resend = 8

-- (victim, initiator)
abbrev pub abort : ℕ
abort = 9

abbrev pub withdrawn : ℕ
withdrawn = 10

-- the kinds that carry two sessions
abbrev pub carries : ℕ → Bool
carries k = eqb k probe || eqb k clean || eqb k abort
