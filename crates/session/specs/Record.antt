-- A session record: its bytes in the table, and when it is well-formed ("in form"). RULES is docs/RULES.md.
use Rattle.std.specs.Prelude.{ℕ, ◌+◌, ◌^◌, Bool, cond, ◌&&◌, List, ◌∷◌, ◌++◌, eqb, ltb, leb, get_or, take, drop, replicate}
use Rattle.buffer.specs.Bytes.{slice, from_bytes, to_bytes, splice}
use Rattle.lists.specs.Lists.{between, all_of}
use Rattle.message.specs.Limits.{max_sessions}
use Rattle.session.specs.declared.Session.{Session}
use Rattle.session.specs.Stage

-- stage (1 byte), awaited item or 0 (1), held items as a mask (8), for each initiator the junior of its stored probe or 0 (1 each)
abbrev pub awaited_place : ℕ
awaited_place = 1

abbrev pub held_place : ℕ
held_place = 2

abbrev pub juniors_place : ℕ
juniors_place = 10

abbrev pub size : ℕ
size = juniors_place + max_sessions

-- the record whose bytes stand at `at`
abbrev pub session_at : List ℕ → ℕ → Session
session_at t at =
    record {
      stage = get_or t at 0;
      awaited = get_or t (at + awaited_place) 0;
      held = from_bytes (slice t (at + held_place) 8);
      juniors = slice t (at + juniors_place) max_sessions;
    }

abbrev pub session_bytes : Session → List ℕ
session_bytes s = s.stage ∷ s.awaited ∷ (to_bytes 8 s.held ++ s.juniors)

-- t with the record written at `at`
abbrev pub put_session : List ℕ → ℕ → Session → List ℕ
put_session t at s = splice t at (session_bytes s)

-- no stored probe
abbrev pub none : List ℕ
none = replicate max_sessions 0

-- the record with one field changed
abbrev pub with_stage : ℕ → Session → Session
with_stage n s = record { stage = n; awaited = s.awaited; held = s.held; juniors = s.juniors }

abbrev pub with_awaited : ℕ → Session → Session
with_awaited x s = record { stage = s.stage; awaited = x; held = s.held; juniors = s.juniors }

abbrev pub with_held : ℕ → Session → Session
with_held h s = record { stage = s.stage; awaited = s.awaited; held = h; juniors = s.juniors }

abbrev pub with_juniors : List ℕ → Session → Session
with_juniors js s = record { stage = s.stage; awaited = s.awaited; held = s.held; juniors = js }

-- every session of a lock manager that was just started
abbrev pub fresh : Session
fresh = record { stage = Stage.growing; awaited = 0; held = 0; juniors = none }

-- a session record is well-formed: RULES 2.5
unfoldable pub well_formed : ℕ → ℕ → Session → Bool
well_formed S M s =
    between Stage.growing Stage.rolled_back s.stage
    && cond (Stage.awaits s.stage) (between 1 M s.awaited) (eqb s.awaited 0)
    && ltb s.held (2 ^ M)
    && all_of (λ j. leb j S) (take S s.juniors)
    && all_of (λ j. eqb j 0) (drop S s.juniors)
