-- `thrice` meets its contract. The invariant: the numbers stand i times, then zeros.
use mathlib.Core.Path.{◌≡◌, refl, ◌∙◌}
use Rattle.buffer.proofs.Laws.{padded-full}
use Rattle.entry.specs.Cells.{block_entries, block_cells, thrice}
use Rattle.entry.proofs.Cells.{length-thrice, thrice-put}
use native.Mathlib.Omega.{arith}
use Rattle.entry.proofs.thrice.Goals as goal

pub loop-i-init : goal.loop-i-init
unfolding thrice
loop-i-init c = (omega arith, refl)

pub loop-i-preserved : goal.loop-i-preserved
loop-i-preserved c =
    let a = c.args in
    let l = c.loop-i in
    (omega arith, rw l.invariant.1 (thrice-put a.a a.b a.c l.i (omega arith)))

pub returns : goal.returns
returns c =
    let a = c.args in
    let all : c.loop-i.i ≡ block_entries = omega arith in
    (rw (all) at c.loop-i.invariant.1) ∙ padded-full block_cells (thrice block_entries a.a a.b a.c) (length-thrice a.a a.b a.c block_entries)
