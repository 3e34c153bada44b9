-- `Session::to_held` meets its contract. The invariant: the messages so far, with those to come.
use mathlib.Core.Path.{sym, ◌∙◌}
use mathlib.Core.List.{append_assoc, append-nil}
use native.Mathlib.Omega.{arith}
use Rattle.session.proofs.Laws.{held-take, held_skip, held_none, to_held-front}
use Rattle.session.proofs.Session.to_held.Goals as goal

pub push-requires : goal.push-requires
push-requires c = omega (arith, to_held-front _ _ _ c.loop-y.out _ c.loop-y.invariant)

pub loop-y-preserved-then-y-but : goal.loop-y-preserved-then-y-but
loop-y-preserved-then-y-but c =
    let a = c.args in
    rw (c.push.ensures, c.new.ensures, append_assoc, ← held-take a.kind a.but _ c.in-Some.y c.next.new.self.0 c.in-Some.ensures.steps c.if-y-but.true) c.loop-y.invariant

pub loop-y-preserved : goal.loop-y-preserved
loop-y-preserved c =
    let a = c.args in
    rw (← held_skip a.kind a.but _ c.in-Some.y c.next.new.self.0 c.in-Some.ensures.steps c.if-y-but.false) c.loop-y.invariant

pub returns : goal.returns
returns c =
    let a = c.args in
    sym (append-nil c.loop-y.out) ∙ rw (held_none a.kind a.but _ c.in-None.ensures.steps.0) at c.loop-y.invariant
