-- `Item::resends` meets its contract. The invariant: behind the list given stand the resends to those of the queue that were passed.
use mathlib.Core.Path.{◌≡◌}
use mathlib.Core.List.{◌++◌}
use Prim.Native.Nat.{◌+◌, ◌≤◌}
use lib.ListN.{length, take}
use Rattle.item.specs.Rules.{resends}
use Rattle.item.proofs.Item.resends.Given as goal

abbrev pub invariant-loop-peer : goal.invariant-loop-peer
invariant-loop-peer l =
    (length l.out ≤ 65 + l.peer-index) × (l.out ≡ l.initial.out ++ resends (take l.peer-index l.peer-items))
