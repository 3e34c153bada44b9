-- `leader` meets its contract. The invariant: `first` is the most senior of the sessions passed, and at first the first.
use mathlib.Core.Path.{◌≡◌}
use Prim.Native.Nat.{◌≤◌}
use lib.ListN.{length}
use Rattle.table.specs.Layout as Table
use Rattle.cycletext.proofs.Round.{Best}
use Rattle.cycletext.proofs.leader.Given as goal

abbrev pub invariant-loop-w : goal.invariant-loop-w
invariant-loop-w l =
    (l.ranks ≡ Table.ranks l.fn.round.graph.now.table.now)
    × (length l.yielded ≡ 0 → l.first ≡ l.fn.round.session)
    × (1 ≤ length l.yielded → Best l.fn.round.graph.now.table.now l.fn.round.session (length l.yielded) l.first)
