-- `play` meets its contract. The invariant: what is written and what is still to be printed make the transcript.
use mathlib.Core.Path.{refl, ◌∙◌}
use native.Mathlib.Omega.{arith}
use Rattle.transcript.proofs.Playing.{known, left-few, none_done, next, finished}
use Rattle.transcript.proofs.play.Goals as goal

pub begin-requires : goal.begin-requires
begin-requires c = let s = c.args.script.now in (known s.input.now s.whole).max-sessions

pub loop-k-init : goal.loop-k-init
loop-k-init c =
    let a = c.args in
    let s = a.script.now in
    (refl, refl, none_done s.input.now s.whole a.out.now a.table.now a.mail.now c.requires.0 c.requires.1 c.begin.ensures)

pub put_step-at-requires : goal.put_step-at-requires
put_step-at-requires c =
    let s = c.args.script.now in
    let few = known s.input.now s.whole in
    let p = c.loop-k.invariant.2 in
    (omega (arith, s.counted, few.max-steps), omega (arith, c.requires.2, s.counted, few.max-steps))

pub loop-k-preserved : goal.loop-k-preserved
loop-k-preserved c =
    let s = c.args.script.now in
    let l = c.loop-k in
    let p = l.invariant.2 in
    let d = c.take_step-answer in
    let w = c.put_step-at in
    let few = known s.input.now s.whole in (
      d.auto.table ∙ l.invariant.0,
      d.auto.mail ∙ l.invariant.1,
      next p (omega (arith, s.counted)) c.step-c.result c.step-c.ensures d.ensures.did d.ensures.tally (omega (arith, c.requires.2, few.max-steps, p.reached)) w.ensures.0 w.ensures.1 w.ensures.2 w.auto.out,
    )

pub put_end-requires : goal.put_end-requires
put_end-requires c =
    let s = c.args.script.now in
    let p = c.loop-k.invariant.2 in
    let few = known s.input.now s.whole in
    (omega (arith, c.count.ensures, (left-few p.formed).1), omega (arith, few.max-steps), omega (arith, few.max-steps), omega (arith, few.max-steps), omega (arith, c.requires.2, few.max-steps))

pub returns : goal.returns
returns c =
    let s = c.args.script.now in
    let p = c.loop-k.invariant.2 in
    let w = c.put_end in
    let left = c.count.ensures in
    let few = known s.input.now s.whole in
    let all = finished p (omega (arith, s.counted)) (omega (arith, c.requires.2, few.max-steps)) (rw (left) at w.ensures.0) (rw (left) at w.ensures.1) in
    (all.0, all.1, omega (arith, w.ensures.2, few.max-steps))
