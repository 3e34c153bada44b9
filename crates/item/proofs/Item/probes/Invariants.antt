-- `Item::probes` meets its contract. The invariant: behind the list given stand the probes for those of the queue that were passed.
use mathlib.Core.Path.{◌≡◌}
use mathlib.Core.List.{◌++◌}
use Prim.Native.Nat.{◌+◌, ◌≤◌}
use lib.ListN.{length, take}
use Rattle.session.specs.Seniority.{senior}
use Rattle.item.specs.Rules.{probes}
use Rattle.item.proofs.Item.probes.Given as goal

abbrev pub invariant-loop-r : goal.invariant-loop-r
invariant-loop-r l =
    (length l.out ≤ 1 + l.r-index) × (l.out ≡ l.initial.out ++ probes (senior l.ranks) l.holder (take l.r-index l.r-items))
