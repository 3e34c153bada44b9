-- What the code of a step does, as the lock manager's definitions have it.
use Rattle.std.specs.Prelude.{ℕ, ◌≡◌, Bool, ◌&&◌, List, eqb}
use Rattle.lists.specs.Lists.{between}
use Rattle.session.specs.Stage
use Rattle.table.specs.Layout as Table
use Rattle.step.specs.declared.Answer.{Answer}
use Rattle.step.specs.Step.{stepped}
use Rattle.lockmgr.specs.Calls.{step}
use Rattle.lockmgr.specs.Run as Run
use Rattle.tally.specs.declared.Tally.{Tally}
use Rattle.tally.specs.declared.Step.{Step}

abbrev pub step_of : Step → Run.Step
step_of c = record { verb = c.verb; session = c.session; item = c.item }

abbrev pub tally_of : Tally → Run.Tally
tally_of t = record { closed = t.closed; declared = t.declared; rolled_back = t.rolled_back }

-- there is a session t, and it is at stage 6
abbrev pub is_rolled_back : List ℕ → ℕ → Bool
is_rolled_back table t = between 1 (Table.sessions_of table) t && eqb (Table.session table t).stage Stage.rolled_back

-- what a step answers, and the tally and both buffers after
pub record Tallied (c : Run.Step) (table mail : List ℕ) (t : Tally) (a : Answer) (u : Tally) (table' mail' : List ℕ) : Type 0 where
  pub did : stepped a table' mail' ≡ step c.verb c.session c.item table mail
  pub tally : tally_of u ≡ Run.counted c.session table (step c.verb c.session c.item table mail) (tally_of t)
