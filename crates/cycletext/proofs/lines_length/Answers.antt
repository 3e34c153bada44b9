-- `lines_length` meets its contract. The invariant: the lines counted and those of the waits left are all.
use mathlib.Core.Path.{ap}
use native.Mathlib.Omega.{arith}
use lib.ListN.{length}
use Rattle.cycletext.proofs.Laws.{length_less, no_lines}
use Rattle.cycletext.proofs.Round.{from-length}
use Rattle.cycletext.proofs.lines_length.Goals as goal

pub loop-w-init : goal.loop-w-init
loop-w-init c =
    let r = c.args.round in
    rw (c.into_iter-w-iterator.ensures.into_iter_gives) (omega arith, omega (arith, from-length r.graph.now.table.now r.left r.session))

pub loop-w-preserved : goal.loop-w-preserved
loop-w-preserved c =
    let less = length_less c.in-Some.ensures.steps in
    let passed = ap length c.in-Some.ensures.steps in
    (omega (arith, c.loop-w.invariant, c.line_length-length.ensures, less), omega (arith, c.loop-w.invariant, c.line_length-length.ensures, passed))

pub returns : goal.returns
returns c = omega (arith, c.loop-w.invariant, no_lines c.in-None.ensures.steps.0)
