-- Where none is spent, nothing goes.
use mathlib.Core.Path.{sym}
use Rattle.drain.proofs.Gaps.{none-spent}
use Rattle.drain.proofs.close_gap.Goals as goal

pub returns-then-gap : goal.returns-then-gap
returns-then-gap c = sym (none-spent c.args.gap c.args.mail.now c.if-gap.true c.requires.kept)
