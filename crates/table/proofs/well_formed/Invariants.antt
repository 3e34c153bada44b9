-- `well_formed` meets its contract. The loops' invariants: each record passed is well-formed.
use mathlib.Core.Path.{◌≡◌}
use mathlib.Core.Bool.{true}
use Rattle.lists.specs.Lists.{every}
use Rattle.table.proofs.Laws.{session_ok, item_ok}
use Rattle.table.proofs.well_formed.Given as goal

abbrev pub invariant-loop-k : goal.invariant-loop-k
invariant-loop-k l = every l.k (session_ok l.t) ≡ true

abbrev pub invariant-loop-x : goal.invariant-loop-x
invariant-loop-x l = every l.x (item_ok l.t) ≡ true
