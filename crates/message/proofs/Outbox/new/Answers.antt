-- All places are blank, by computation.
use Rattle.std.proofs.Common.{refl, arith}
use Rattle.message.specs.Outbox.{cells}
use Rattle.message.proofs.Outbox.new.Goals as goal

pub invariant_of-result : goal.invariant_of-result
unfolding cells
invariant_of-result c = (omega arith, refl, refl)
