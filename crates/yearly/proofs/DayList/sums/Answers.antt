-- `sums` meets its contract. The invariant: the sums of the days passed.
use mathlib.Core.Path.{◌≡◌, refl, ap}
use Prim.Native.Nat.{suc}
use native.Mathlib.Omega.{arith}
use Rattle.lists.specs.Lists.{sum_up_to}
use Rattle.yearly.specs.declared.Record.{Record}
use Rattle.yearly.specs.Input.{days_in}
use Rattle.yearly.specs.Printed.{sums}
use Rattle.yearly.proofs.DayList.sums.Goals as goal

pub loop-day-init : goal.loop-day-init
unfolding sum_up_to
loop-day-init c = (0, refl, omega arith, refl, refl, omega arith, omega arith)

pub loop-day-preserved : goal.loop-day-preserved
unfolding sum_up_to
loop-day-preserved c =
    let r = c.day-r.ensures in
    let l = c.loop-day in
    let e = rw l.invariant.1 at r.0 in (
      suc l.invariant.0,
      omega (arith, l.invariant.1),
      omega (arith, l.invariant.1),
      omega (arith, l.invariant.3, ap (λ (q : Record). q.sessions) e),
      omega (arith, l.invariant.4, ap (λ (q : Record). q.rollbacks) e),
      omega (arith, l.invariant.5, r.1),
      omega (arith, l.invariant.6, r.2),
    )

pub returns : goal.returns
unfolding sums
returns c =
    let l = c.loop-day in
    let all : l.invariant.0 ≡ days_in c.args.self.now.input.now = omega (arith, l.invariant.1, l.invariant.2, c.loop-day-test.false, c.args.self.now.sized.count) in
    (rw (rw all at l.invariant.3, rw all at l.invariant.4) refl, omega (arith, l.invariant.2, l.invariant.5, c.args.self.now.sized.few))
