-- `take_step` meets its contract: the stages read before and after say whether the session was rolled back.
use mathlib.Core.Path.{◌≡◌}
use Rattle.std.proofs.Common.{rules}
use Rattle.step.specs.Step.{stepped}
use Rattle.lockmgr.specs.Calls.{step}
use Rattle.tally.proofs.Steps.{formed-after, adds_step}
use Rattle.tally.proofs.take_step.Goals.{After-lockmgr_step-answer}
use Rattle.tally.proofs.take_step.Goals as goal

did : (c : After-lockmgr_step-answer) → let a = c.args in let s = c.lockmgr_step-answer in
    stepped s.result s.new.table s.new.mail ≡ step a.c.verb a.c.session a.c.item a.table.now a.mail.now
did c = rw (c.from.ensures, c.from-2.ensures, c.from-3.ensures) at c.lockmgr_step-answer.ensures

pub is_rolled_back-after-requires : goal.is_rolled_back-after-requires
is_rolled_back-after-requires c =
    let a = c.args in
    (formed-after a.c a.table.now a.mail.now c.requires.0 (did (goal.at.is_rolled_back-after-requires c).After-lockmgr_step-answer)).records.sized

pub returns : goal.returns
returns c =
    let a = c.args in
    rw c.add.ensures (adds_step a.c a.table.now a.mail.now c.requires.0 (did (goal.at.returns c).After-lockmgr_step-answer) (search rules) a.t.now)
