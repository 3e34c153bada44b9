-- `clear` meets its contract. The loop's invariant: so many sessions are written, and all else is zero.
use mathlib.Core.Path.{◌≡◌}
use Rattle.table.specs.Layout.{config}
use Rattle.table.proofs.StartLaws.{begun}
use Rattle.table.proofs.clear.Given as goal

abbrev pub invariant-loop-k : goal.invariant-loop-k
invariant-loop-k l = l.t ≡ begun (config l.sessions l.items l.ranks) l.k
