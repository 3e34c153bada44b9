-- `queue` meets its contract. The loop's invariant: the sessions passed pass the test, and the mask has their bits and that of the holder.
use mathlib.Core.Path.{refl, sym, ◌∙◌}
use Prim.Native.Nat.{◌≤◌}
use native.Mathlib.Numerals.{add-one}
use native.Mathlib.Omega.{arith}
use lib.ListN.{get_or, take}
use lib.Seq.{take-suc}
use Rattle.lists.specs.Lists.{all_of, distinct, member}
use Rattle.form.proofs.FormLaws.{none_seen, line-zero, line_seen, line_new, seen_more, line-stop}
use Rattle.form.proofs.queue.Goals.{then-v-eq0-via-then-v-eq0, then-v-eq0-via-else-v-eq0+then-contains}
use Rattle.form.proofs.queue.Goals as goal

pub loop-v-init : goal.loop-v-init
unfolding all_of distinct member
loop-v-init c = (refl, rw c.single-seen.ensures (none_seen c.args.h))

pub returns-then-v-eq0 : goal.returns-then-v-eq0
returns-then-v-eq0 c =
    let h = c.args.h in
    let l = c.args.l.now in
    let i = c.loop-v.v-index in
    sym (line-stop l h i c.loop-v-test.true (elim c.then-v-eq0.branch [
      | then-v-eq0-via-then-v-eq0 w ↦ line-zero h (take i l) (get_or l i 0) w.if-v-eq0.true
      | then-v-eq0-via-else-v-eq0+then-contains w ↦
          line_seen h (take i l) (get_or l i 0) c.loop-v.seen c.loop-v.invariant.1 (omega (arith, w.if-v-eq0.false)) (sym w.contains.ensures ∙ w.if-contains.true)
    ]))

pub loop-v-preserved : goal.loop-v-preserved
loop-v-preserved c =
    let h = c.args.h in
    let l = c.args.l.now in
    let i = c.loop-v.v-index in
    let low : 1 ≤ get_or l i 0 = omega (arith, c.if-v-eq0.false) in (
      rw (add-one, take-suc l i 0 c.loop-v-test.true) (line_new h (take i l) (get_or l i 0) c.loop-v.seen c.loop-v.invariant.1 low (sym c.contains.ensures ∙ c.if-contains.false) c.loop-v.invariant.0),
      rw (add-one, take-suc l i 0 c.loop-v-test.true, c.insert-seen.ensures) (seen_more h (take i l) (get_or l i 0) c.loop-v.seen c.loop-v.invariant.1 low),
    )
