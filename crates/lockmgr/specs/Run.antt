-- A list of single steps, each given the table and mail as the one before left them, and what is counted over them.
use Rattle.std.specs.Prelude.{ℕ, ◌+◌, Bool, cond, not, ◌&&◌, List, [], ◌∷◌, map, eqb}
use Rattle.session.specs.Stage
use Rattle.table.specs.Layout as Table
use Rattle.step.specs.declared.Answer.{Answer}
use Rattle.step.specs.Step.{Stepped}
use Rattle.lockmgr.specs.Calls as Calls

-- a step: any verb, session and item
pub record Step : Type 0 where
  pub verb : ℕ
  pub session : ℕ
  pub item : ℕ

-- the two lent buffers
pub record Buffers : Type 0 where
  pub table : List ℕ
  pub mail : List ℕ

abbrev pub buffers : List ℕ → List ℕ → Buffers
buffers table mail = record { table = table; mail = mail }

-- one step, done: its verb, session and item, the buffers before it, and what it answered and left
pub record Done : Type 0 where
  pub verb : ℕ
  pub session : ℕ
  pub item : ℕ
  pub before : Buffers
  pub result : Stepped

abbrev pub done_on : Buffers → Step → Done
done_on b c =
    record { verb = c.verb; session = c.session; item = c.item; before = b; result = Calls.step c.verb c.session c.item b.table b.mail }

-- the buffers that a step leaves
abbrev pub left_by : Done → Buffers
left_by d = buffers d.result.table d.result.mail

-- the steps of a list, done in their order, and what they leave
unfoldable pub done : Buffers → List Step → List Done
done b [] = []
done b (c ∷ l) = let d = done_on b c in d ∷ done (left_by d) l

unfoldable pub left : Buffers → List Step → Buffers
left b [] = b
left b (c ∷ l) = left (left_by (done_on b c)) l

-- ---- what is counted
-- a step that answers a victim and an initiator other than 0
abbrev pub declares : Answer → Bool
declares a = not (eqb a.victim 0) && not (eqb a.initiator 0)

-- session t is at stage 6 after and not before
abbrev pub rolls_back : ℕ → List ℕ → List ℕ → Bool
rolls_back t before after =
    not (eqb (Table.session before t).stage Stage.rolled_back) && eqb (Table.session after t).stage Stage.rolled_back

abbrev pub one : Bool → ℕ
one b = cond b 1 0

-- cycles closed, declarations made and sessions brought from another stage to stage 6
pub record Tally : Type 0 where
  pub closed : ℕ
  pub declared : ℕ
  pub rolled_back : ℕ

abbrev pub zeros : Tally
zeros = record { closed = 0; declared = 0; rolled_back = 0 }

-- a step of session t, from the table before it
abbrev pub counted : ℕ → List ℕ → Stepped → Tally → Tally
counted t before r y =
    record {
      closed = y.closed + r.answer.closed;
      declared = y.declared + one (declares r.answer);
      rolled_back = y.rolled_back + one (rolls_back t before r.table);
    }

unfoldable pub tallied : Tally → List Done → Tally
tallied y [] = y
tallied y (d ∷ l) = tallied (counted d.session d.before.table d.result y) l

-- ---- a list of steps with its answers and counts
-- the answers of a list of steps, in order, and what the list leaves
pub record Ran : Type 0 where
  pub answers : List Answer
  pub table : List ℕ
  pub mail : List ℕ
  pub tally : Tally

unfoldable pub run : List ℕ → List ℕ → Tally → List Step → Ran
run table mail y l =
    let b = buffers table mail in
    let d = done b l in
    let end = left b l in
    record { answers = map (λ d. d.result.answer) d; table = end.table; mail = end.mail; tally = tallied y d }
