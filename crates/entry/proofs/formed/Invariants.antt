-- `formed` meets its contract. The invariant: the entries passed are well-formed.
use mathlib.Core.Path.{◌≡◌}
use mathlib.Core.Bool.{true}
use Prim.Native.Nat.{◌*◌}
use Rattle.lists.specs.Lists.{every_below}
use Rattle.entry.specs.Cells.{block_entries}
use Rattle.entry.proofs.Cells.{form_at}
use Rattle.entry.proofs.formed.Given as goal

abbrev pub invariant-loop-k : goal.invariant-loop-k
invariant-loop-k l = every_below (block_entries * l.k) (form_at l.m l.s l.x l.at l.to) ≡ true
