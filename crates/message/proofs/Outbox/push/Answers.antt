-- The places behind the message stay blank.
use Rattle.std.proofs.Common.{arith, length}
use mathlib.Core.Path.{ap}
use Rattle.message.proofs.Laws.{pushed}
use Rattle.message.proofs.Outbox.push.Goals as goal

pub invariant_of-self : goal.invariant_of-self
invariant_of-self c =
    pushed c.self.inside.n c.self.inside.at c.args.m (omega (arith, c.requires, ap length c.self.view_is, c.self.invariant.1)) c.self.invariant
