-- `ranks` meets its contract. The loop's invariant: the ranks passed are in bounds, and the mask has them.
use mathlib.Core.Path.{◌≡◌}
use mathlib.Core.Bool.{true}
use Prim.Native.Nat.{ℕ, ◌^◌, ◌<◌}
use lib.ListN.{get_or, take}
use Rattle.lists.specs.Lists.{between}
use Rattle.form.proofs.FormLaws.{Seen}
use Rattle.form.proofs.ranks.Given as goal

abbrev pub invariant-loop-rank : goal.invariant-loop-rank
invariant-loop-rank v = ((k : ℕ) → k < v.rank-index → between 1 v.n (get_or v.l k 0) ≡ true) × Seen 0 (take v.rank-index v.l) v.used × (v.used < 2 ^ 64)
