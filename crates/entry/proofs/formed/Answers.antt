-- `formed` meets its contract. The invariant: the entries passed are well-formed.
use mathlib.Core.Path.{◌≡◌, refl, ◌∙◌}
use Prim.Native.Nat.{◌+◌, ◌*◌}
use Rattle.lists.specs.Lists.{every_below}
use Rattle.entry.specs.Entry.{width}
use Rattle.entry.specs.Cells.{block_entries, block_cells}
use Rattle.entry.proofs.Cells.{block_on}
use native.Mathlib.Omega.{arith}
use Rattle.entry.proofs.formed.Goals as goal

pub returns-then-n-le-BLOCK_ENTRIES : goal.returns-then-n-le-BLOCK_ENTRIES
unfolding every_below
returns-then-n-le-BLOCK_ENTRIES c = (omega arith, refl)

pub loop-k-init : goal.loop-k-init
unfolding every_below
loop-k-init c = refl

pub loop-k-preserved : goal.loop-k-preserved
loop-k-preserved c =
    let a = c.args in
    let k = c.loop-k.k in
    let here : block_cells * k ≡ width * (block_entries * k) = omega arith in
    let next : block_entries * (k + 1) ≡ block_entries * k + block_entries = omega arith in
    rw (next) (block_on a.m.now a.s a.x a.at a.to (block_entries * k) c.thrice.ensures c.thrice-2.ensures c.thrice-3.ensures (rw (here) at c.block.ensures) c.loop-k.invariant ∙ c.if-not-block.false)
