-- `first` meets its contract. The invariant: the entries passed are not on the route.
use mathlib.Core.Path.{◌≡◌}
use mathlib.Core.Bool.{true}
use Prim.Native.Nat.{◌+◌, ◌*◌, ◌≤◌}
use Rattle.entry.specs.Entry.{width}
use Rattle.entry.specs.Cells.{misses}
use Rattle.lists.specs.Lists.{every_below}
use Rattle.entry.proofs.first.Given as goal

abbrev pub invariant-loop-i : goal.invariant-loop-i
invariant-loop-i l = (l.i ≤ l.n) × (every_below l.i (λ k. misses l.m l.route.direction l.route.session l.route.item (l.at + width * k)) ≡ true)
