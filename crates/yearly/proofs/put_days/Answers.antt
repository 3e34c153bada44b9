-- `put_days` meets its contract. The invariant: the lines of the days passed are written.
use mathlib.Core.Path.{◌≡◌, refl, sym, ap, ◌∙◌}
use Prim.Native.Nat.{suc}
use native.Mathlib.Omega.{arith}
use lib.ListN.{length, length-append}
use Rattle.lists.specs.Lists.{append_up_to}
use Rattle.buffer.specs.Bytes.{splice}
use Rattle.text.proofs.Laws.{splice-none, splice_then}
use Rattle.yearly.specs.Input.{record_at}
use Rattle.yearly.specs.Printed.{day_line, day_lines}
use Rattle.yearly.proofs.Laws.{day_short}
use Rattle.yearly.proofs.put_days.Goals as goal

pub loop-day-init : goal.loop-day-init
unfolding append_up_to
loop-day-init c = (0, refl, omega arith, refl, sym (splice-none c.args.out.now 0), refl, omega arith)

pub put_line-at-requires : goal.put_line-at-requires
unfolding day_line
put_line-at-requires c =
    let a = c.args in
    let l = c.loop-day in
    let r = c.day-r in
    let short = day_short l.day r.result (omega (arith, a.days.now.sized.few)) r.ensures.1 r.ensures.2 in
    omega (arith, short, l.invariant.1, l.invariant.2, l.invariant.3, l.invariant.6, a.days.now.sized.few, c.requires)

pub loop-day-preserved : goal.loop-day-preserved
unfolding append_up_to day_line
loop-day-preserved c =
    let a = c.args in
    let l = c.loop-day in
    let r = c.day-r in
    let k = l.invariant.0 in
    let w = c.put_line-at in
    let now = day_line (suc k) (record_at a.days.now.input.now (suc k)) in
    let before = day_lines a.days.now.input.now k in
    let day : day_line l.day r.result ≡ now = rw (r.ensures.0, l.invariant.1) refl in
    let short = day_short l.day r.result (omega (arith, a.days.now.sized.few)) r.ensures.1 r.ensures.2 in
    let len = length-append before now in (
      suc k,
      omega (arith, l.invariant.1),
      omega (arith, l.invariant.1),
      w.auto.out ∙ l.invariant.3,
      splice_then a.out.now 0 before now (omega (arith, l.invariant.2, l.invariant.5, l.invariant.6, a.days.now.sized.few, c.requires, ap length day)) l.invariant.4 (omega (arith, l.invariant.5)) (w.ensures.0 ∙ ap (splice l.out l.at) day),
      omega (arith, w.ensures.1, l.invariant.5, ap length day),
      omega (arith, w.ensures.1, l.invariant.6),
    )
