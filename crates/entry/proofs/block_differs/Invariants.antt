-- `block_differs` meets its contract. The invariant: the test holds at the cells passed.
use mathlib.Core.Path.{◌≡◌}
use Prim.Native.Nat.{◌≤◌}
use Rattle.entry.specs.Cells.{block_cells, differ_cell}
use Rattle.lists.specs.Lists.{every_below}
use Rattle.entry.proofs.block_differs.Given as goal

abbrev pub invariant-loop-i : goal.invariant-loop-i
invariant-loop-i l = (l.i ≤ block_cells) × (l.ok ≡ every_below l.i (differ_cell l.m l.skips l.depth l.route.direction l.route.session l.route.item l.at))
