-- The replay program as a function from the bytes of its input to the bytes of its output.
use Rattle.std.specs.Prelude.{ℕ, suc, ◌+◌, ◌*◌, cond, List, [], ◌∷◌, ◌++◌, replicate}
use Rattle.session.specs.Seniority.{plain}
use Rattle.mailbox.specs.Layout as Mail
use Rattle.table.specs.Layout as Table
use Rattle.step.specs.declared.Answer.{Answer}
use Rattle.lockmgr.specs.Calls.{Started, config, start}
use Rattle.lockmgr.specs.Run as Run
use Rattle.lockmgr.specs.Run.{Ran, run}
use Rattle.text.specs.Text.{ascii, line_feed, rest, line}
use Rattle.transcript.specs.Input.{sessions_in, items_in, max_steps, well_formed, steps_in}

-- `bad` alone
abbrev pub bad : List ℕ
bad = ascii "bad" ++ (line_feed ∷ [])

-- C
abbrev pub capacity : ℕ
capacity = Mail.max_capacity

-- a lock manager that starts, with rank k for session k, in buffers of the sizes that S, M and C ask for
unfoldable pub replay_start : ℕ → ℕ → Started
replay_start S M = start (config S M capacity (plain S)) (replicate (Table.size S M) 0) (replicate (Mail.size capacity) 0)

-- the steps of an input, done in their order
unfoldable pub replayed : List ℕ → Ran
replayed input =
    let o = replay_start (sessions_in input) (items_in input) in run o.table o.mail Run.zeros (steps_in input)

-- per step: index from 1, verb, session, item, refusal, sent, closed, victim, initiator
unfoldable pub step_line : ℕ → Run.Step → Answer → List ℕ
step_line index c a =
    line index (c.verb ∷ c.session ∷ c.item ∷ a.refusal ∷ a.sent ∷ a.closed ∷ a.victim ∷ a.initiator ∷ [])

-- the lines of steps and their answers, the first of which has this index
unfoldable pub step_lines : ℕ → List Run.Step → List Answer → List ℕ
step_lines index [] answers = []
step_lines index (c ∷ l) [] = []
step_lines index (c ∷ l) (a ∷ answers) = step_line index c a ++ step_lines (suc index) l answers

-- last line: `end`, entries left in the mail, cycles closed, declarations made, sessions reaching stage 6
unfoldable pub end_line : ℕ → Run.Tally → List ℕ
end_line left y = ascii "end" ++ rest (left ∷ y.closed ∷ y.declared ∷ y.rolled_back ∷ [])

unfoldable pub printed : ℕ → List Run.Step → Ran → List ℕ
printed index l r = step_lines index l r.answers ++ end_line (Mail.count_of r.mail) r.tally

-- the whole output
unfoldable pub transcript : List ℕ → List ℕ
transcript input = cond (well_formed input) (printed 1 (steps_in input) (replayed input)) bad

-- an index of four digits, eight numbers of three digits and a space, and the line feed: no line is longer
abbrev pub longest_line : ℕ
longest_line = 4 + 8 * 4 + 1

-- a line for each step, and the last one
abbrev pub longest : ℕ
longest = longest_line * (max_steps + 1)
