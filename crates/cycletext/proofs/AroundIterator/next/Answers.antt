-- `next` meets its contract: a session on a cycle waits, and the one waited for lies on the same cycle.
use Prim.Native.Nat.{◌-◌}
use native.Mathlib.Omega.{arith}
use Rattle.waits.proofs.Laws.{wait-is}
use Rattle.cycletext.proofs.Round.{from-none, from-length, from-first, readable, goes-on, stays-on}
use Rattle.cycletext.proofs.AroundIterator.next.Goals as goal

pub returns-then-self-eq0-clause-steps : goal.returns-then-self-eq0-clause-steps
returns-then-self-eq0-clause-steps c =
    let r = c.args.self.now in
    let none = from-none r.graph.now.table.now r.session c.if-self-eq0.true in (none, none)

pub next-requires : goal.next-requires
next-requires c = let r = c.args.self.now in readable r.graph.now.read.formed r.on

pub returns-in_err-w-clause-steps : goal.returns-in_err-w-clause-steps
returns-in_err-w-clause-steps c = let r = c.args.self.now in absurd (goes-on r.graph.now.read.formed r.on c.in_err-w.ensures)

pub invariant_of-self : goal.invariant_of-self
invariant_of-self c =
    let r = c.args.self.now in
    let w = wait-is r.graph.now.table.now r.session c.in_ok-w.ensures in
    record { on = stays-on r.graph.now.read.formed r.on w.1 }

pub returns-clause-steps : goal.returns-clause-steps
returns-clause-steps c =
    let r = c.args.self.now in
    let w = wait-is r.graph.now.table.now r.session c.in_ok-w.ensures in
    from-first r.graph.now.table.now r.left c.if-self-eq0.false w.1

pub returns-clause-goes : goal.returns-clause-goes
returns-clause-goes c =
    let r = c.args.self.now in
    let t = r.graph.now.table.now in
    let before = from-length t r.left r.session in
    let after = from-length t (r.left - 1) c.in_ok-w.w.holder in
    grind (arith, before, after)
