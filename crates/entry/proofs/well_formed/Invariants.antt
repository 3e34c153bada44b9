-- `well_formed` meets its contract. The invariant: the entries passed are well-formed.
use mathlib.Core.Path.{◌≡◌}
use mathlib.Core.Bool.{true}
use Prim.Native.Nat.{◌≤◌}
use Rattle.lists.specs.Lists.{every_below}
use Rattle.entry.proofs.Cells.{form_at}
use Rattle.entry.proofs.well_formed.Given as goal

abbrev pub invariant-loop-i : goal.invariant-loop-i
invariant-loop-i l = (l.i ≤ l.n) × (every_below l.i (form_at l.m l.s l.x l.at l.to) ≡ true)
