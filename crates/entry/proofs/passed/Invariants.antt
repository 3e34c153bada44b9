-- `passed` meets its contract. The invariant: the entries passed are not on the route.
use mathlib.Core.Path.{◌≡◌}
use mathlib.Core.Bool.{true}
use Prim.Native.Nat.{◌+◌, ◌*◌}
use Rattle.entry.specs.Entry.{width}
use Rattle.entry.specs.Cells.{block_entries, misses}
use Rattle.lists.specs.Lists.{every_below}
use Rattle.entry.proofs.passed.Given as goal

abbrev pub invariant-loop-k : goal.invariant-loop-k
invariant-loop-k l = every_below (l.from + block_entries * l.k) (λ k. misses l.m l.route.direction l.route.session l.route.item (l.at + width * k)) ≡ true
