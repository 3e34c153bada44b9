-- `thrice` meets its contract. The invariant: the numbers stand i times, then zeros.
use mathlib.Core.Path.{◌≡◌}
use Prim.Native.Nat.{◌≤◌}
use Rattle.buffer.specs.Bytes.{padded}
use Rattle.entry.specs.Cells.{block_entries, block_cells, thrice}
use Rattle.entry.proofs.thrice.Given as goal

abbrev pub invariant-loop-i : goal.invariant-loop-i
invariant-loop-i l = (l.i ≤ block_entries) × (l.r ≡ padded block_cells (thrice l.i l.a l.b l.c))
