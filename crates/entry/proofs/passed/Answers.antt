-- `passed` meets its contract. The invariant: the entries passed are not on the route.
use mathlib.Core.Path.{◌≡◌, sym, ◌∙◌}
use Prim.Native.Nat.{◌+◌, ◌*◌}
use Rattle.entry.specs.Cells.{block_entries}
use Rattle.entry.proofs.Cells.{miss_on}
use native.Mathlib.Omega.{arith}
use Rattle.entry.proofs.passed.Goals as goal

pub loop-k-preserved : goal.loop-k-preserved
loop-k-preserved c =
    let a = c.args in
    let k = c.loop-k.k in
    let next : a.from + block_entries * (k + 1) ≡ a.from + block_entries * k + block_entries = omega arith in
    rw (next) (miss_on a.m.now a.depth a.route.direction a.route.session a.route.item a.at (a.from + block_entries * k) c.requires.1 (sym c.block_differs.ensures ∙ c.if-not-block_differs.false) c.loop-k.invariant)
