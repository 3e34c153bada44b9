-- `block` meets its contract. The invariant: the test holds at the cells passed.
use mathlib.Core.Path.{◌≡◌}
use Prim.Native.Nat.{◌≤◌}
use Rattle.entry.specs.Cells.{block_cells, cell_at}
use Rattle.lists.specs.Lists.{every_below}
use Rattle.entry.proofs.block.Given as goal

abbrev pub invariant-loop-i : goal.invariant-loop-i
invariant-loop-i l = (l.i ≤ block_cells) × (l.ok ≡ every_below l.i (cell_at l.m l.bounds.tops l.bounds.highs l.bounds.skips l.at l.to))
