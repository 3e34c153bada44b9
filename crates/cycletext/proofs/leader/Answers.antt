-- `leader` meets its contract. The invariant: `first` is the most senior of the sessions passed, and at first the first.
use mathlib.Core.Path.{sym, ◌∙◌}
use mathlib.Core.Bool.{true, false}
use native.Mathlib.Omega.{arith}
use Rattle.cycletext.proofs.Round.{passed, turn_more, best_leader}
use Rattle.cycletext.proofs.leader.Goals as goal

pub loop-w-preserved-then-senior : goal.loop-w-preserved-then-senior
loop-w-preserved-then-senior c =
    let l = c.loop-w in
    let e = rw l.invariant.0 at c.senior.ensures in
    let more = turn_more c.into_iter-w-iterator.ensures.into_iter_gives l.yielded _ l.yielded_by c.requires c.next.new.self c.in-Some.is c.next.ensures.steps (l.invariant.1, l.invariant.2) true (sym e ∙ c.if-senior.true) in
    (l.invariant.0, more.0, more.1)

pub loop-w-preserved : goal.loop-w-preserved
loop-w-preserved c =
    let l = c.loop-w in
    let e = rw l.invariant.0 at c.senior.ensures in
    let more = turn_more c.into_iter-w-iterator.ensures.into_iter_gives l.yielded _ l.yielded_by c.requires c.next.new.self c.in-Some.is c.next.ensures.steps (l.invariant.1, l.invariant.2) false (sym e ∙ c.if-senior.false) in
    (l.invariant.0, more.0, more.1)

pub returns : goal.returns
returns c =
    let r = c.args.round in
    let l = c.loop-w in
    let n = passed c.into_iter-w-iterator.ensures.into_iter_gives l.yielded _ l.yielded_by c.next.new.self c.in-None.is c.next.ensures.steps in
    best_leader r.graph.now.read.formed r.on c.requires (rw (n) at (l.invariant.2 (omega (arith, n, c.requires, r.on.some))))
