-- The printed list of 01: from the start with S = M = 2 and the replay's C, the 22 calls give the printed answers and the printed last line.
use Rattle.std.specs.Prelude.{◌≡◌, List, [], ◌∷◌, ℕ, length}
use Rattle.session.specs.Seniority.{plain}
use Rattle.mailbox.specs.Layout as Mail
use Rattle.table.specs.Layout as Table
use Rattle.step.specs.declared.Answer.{Answer}
use Rattle.lockmgr.specs.Calls as Calls
use Rattle.lockmgr.specs.Calls.{Started}
use Rattle.lockmgr.specs.Run as Run
use Rattle.lockmgr.specs.Run.{Step, Ran, Tally}

abbrev pub call : ℕ → ℕ → ℕ → Step
call v t x = record { verb = v; session = t; item = x }

abbrev pub calls : List Step
calls =
    call 1 1 1 ∷ call 1 2 2 ∷ call 3 1 1 ∷ call 3 2 2 ∷ call 4 1 1 ∷ call 4 2 2 ∷ call 1 1 2 ∷ call 3 1 2 ∷ call 1 2 1 ∷ call 3 2 1 ∷ call 4 2 2
    ∷ call 3 2 1 ∷ call 4 2 1 ∷ call 3 2 1 ∷ call 4 1 1 ∷ call 3 1 2 ∷ call 4 2 2 ∷ call 4 2 2 ∷ call 3 2 1 ∷ call 4 2 1 ∷ call 3 2 2 ∷ call 4 1 2 ∷ []

-- the five numbers that a line prints behind the call
abbrev pub answer : ℕ → ℕ → ℕ → ℕ → ℕ → Answer
answer r s c v i = record { refusal = r; sent = s; closed = c; victim = v; initiator = i }

abbrev pub printed : List Answer
printed =
    answer 0 1 0 0 0 ∷ answer 0 1 0 0 0 ∷ answer 0 1 0 0 0 ∷ answer 0 1 0 0 0 ∷ answer 0 0 0 0 0 ∷ answer 0 0 0 0 0 ∷ answer 0 1 0 0 0
    ∷ answer 0 1 0 0 0 ∷ answer 0 1 0 0 0 ∷ answer 0 0 1 0 0 ∷ answer 0 1 0 0 0 ∷ answer 0 1 0 2 1 ∷ answer 0 1 0 0 0 ∷ answer 0 1 0 0 0
    ∷ answer 0 1 0 0 0 ∷ answer 0 2 0 0 0 ∷ answer 0 1 0 0 0 ∷ answer 0 0 0 0 0 ∷ answer 0 1 0 0 0 ∷ answer 0 1 0 0 0 ∷ answer 0 1 0 0 0
    ∷ answer 0 0 0 0 0 ∷ []

-- what the replay shows of a run: the answers, the entries left in the mailbox and the tally
pub record Shown : Type 0 where
  pub answers : List Answer
  pub left : ℕ
  pub tally : Tally

abbrev pub shown : Ran → Shown
shown r = record { answers = r.answers; left = Mail.count_of r.mail; tally = r.tally }

-- the three numbers of the last line
abbrev pub last_line : Tally
last_line = record { closed = 1; declared = 1; rolled_back = 1 }

-- the capacity of the replay
abbrev pub capacity : ℕ
capacity = 4096

abbrev pub begun : List ℕ → List ℕ → Started
begun table mail = Calls.start (Calls.config 2 2 capacity (plain 2)) table mail

-- the example: start accepts, every answer is as printed, and so is the last line
abbrev pub Example : Type 0
Example =
    (table mail : List ℕ) → length table ≡ Table.size 2 2 → length mail ≡ Mail.size capacity
    → ((begun table mail).refusal ≡ 0)
    × (shown (Run.run (begun table mail).table (begun table mail).mail Run.zeros calls) ≡ record { answers = printed; left = 0; tally = last_line })
