-- The six stages of a session.
use Rattle.std.specs.Prelude.{ℕ, Bool, ◌||◌, eqb}

abbrev pub growing : ℕ
growing = 1

abbrev pub waiting : ℕ
waiting = 2

abbrev pub shrinking : ℕ
shrinking = 3

-- a victim whose clean is on its way
abbrev pub cleaning : ℕ
cleaning = 4

-- a victim that withdraws from the queue in which it waits
abbrev pub withdrawing : ℕ
withdrawing = 5

abbrev pub rolled_back : ℕ
rolled_back = 6

-- the stages in which a session awaits an item
abbrev pub awaits : ℕ → Bool
awaits stage = eqb stage waiting || eqb stage cleaning || eqb stage withdrawing

-- the stages in which a session takes probes
abbrev pub takes_probes : ℕ → Bool
takes_probes stage = eqb stage growing || eqb stage waiting
