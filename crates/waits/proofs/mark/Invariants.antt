-- `mark` meets its contract. The invariant: the places are those among the items before x, with x for the sessions passed that had none.
use mathlib.Core.Path.{◌≡◌}
use Rattle.waits.proofs.Laws.{places_marked}
use Rattle.waits.proofs.mark.Given as goal

abbrev pub invariant-loop-s : goal.invariant-loop-s
invariant-loop-s l = l.at ≡ places_marked l.x l.t l.s-items l.s-index
