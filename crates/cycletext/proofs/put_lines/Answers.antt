-- `put_lines` meets its contract. The invariant: the lines of the waits passed are written, and those of the waits left still fit.
use mathlib.Core.Path.{refl, sym, ap, ◌∙◌}
use Prim.Native.Nat.{◌+◌, ◌-◌, ◌≤◌}
use native.Mathlib.Nat.{zero-add}
use native.Mathlib.Omega.{arith}
use lib.ListN.{length}
use Rattle.buffer.specs.Bytes.{splice}
use Rattle.buffer.proofs.Laws.{length-slice, length-splice, part-splice}
use Rattle.text.proofs.Laws.{splice-none, splice_then}
use Rattle.cycletext.specs.Text.{line, lines}
use Rattle.cycletext.proofs.Laws.{lines_more, length_more, length_less}
use Rattle.cycletext.proofs.put_lines.Goals as goal

pub loop-w-init : goal.loop-w-init
unfolding lines
loop-w-init c = rw (c.into_iter-w-iterator.ensures.into_iter_gives) (refl, sym (splice-none c.args.out.now 0), refl, omega arith)

pub slice_bounds-put_line-count : goal.slice_bounds-put_line-count
slice_bounds-put_line-count c = omega (arith, c.loop-w.invariant, c.requires, length_less c.in-Some.ensures.steps)

pub slice_bounds-put_line-start : goal.slice_bounds-put_line-start
slice_bounds-put_line-start c = omega (arith, c.loop-w.invariant, c.requires, length_less c.in-Some.ensures.steps)

pub put_line-free-requires : goal.put_line-free-requires
put_line-free-requires c =
    let l = c.loop-w in
    let less = length_less c.in-Some.ensures.steps in
    omega (arith, l.invariant, c.requires, less, length-slice l.out l.free (length l.out - l.free) (omega (arith, l.invariant, c.requires, less)))

pub overflow_add-free : goal.overflow_add-free
overflow_add-free c = omega (arith, c.loop-w.invariant, c.requires, length_less c.in-Some.ensures.steps, c.put_line-free.ensures.1)

pub loop-w-preserved : goal.loop-w-preserved
loop-w-preserved c =
    let l = c.loop-w in
    let o = c.args.out.now in
    let w = c.in-Some.w in
    let p = c.put_line-free in
    let less = length_less c.in-Some.ensures.steps in
    let room : l.free + length (line w) ≤ length l.out = omega (arith, l.invariant, c.requires, less) in
    let put = part-splice l.out l.free (line w) p.ensures.0 in
    let fits : 0 + length (lines l.yielded) ≤ length o = omega (arith, l.invariant, room) in (
      ap length put ∙ length-splice l.out l.free (line w) (omega (arith, room)) ∙ l.invariant.0,
      splice_then o 0 (lines l.yielded) (line w) fits l.invariant.1 (rw (zero-add) l.invariant.2) put ∙ ap (splice o 0) (sym (lines_more l.yielded w)),
      omega (arith, length_more l.yielded w, l.invariant, p.ensures.1),
      omega (arith, less, l.invariant, p.ensures.1),
    )
