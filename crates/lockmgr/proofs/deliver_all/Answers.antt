-- Turn after turn the rest of the drain is ahead, until it has ended.
use mathlib.Core.Path.{refl, sym, subst}
use native.Mathlib.Omega.{arith}
use Rattle.std.proofs.Common.{rules}
use Rattle.table.specs.Layout as Table
use Rattle.mailbox.specs.Layout.{Kept}
use Rattle.mailbox.proofs.Laws.{formed-kept}
use Rattle.step.specs.Step.{Formed}
use Rattle.drain.specs.Parts.{closed_up}
use Rattle.drain.proofs.Gaps.{none-spent}
use Rattle.lockmgr.specs.Run.{buffers}
use Rattle.lockmgr.specs.Parts.{Turned}
use Rattle.lockmgr.proofs.Judging.{buffers-zero}
use Rattle.lockmgr.proofs.Draining.{turn-formed, ahead-all, turn-taken, drained, ending-positive}
use Rattle.lockmgr.proofs.deliver_all.Goals as goal

pub loop-after-init : goal.loop-after-init
loop-after-init c =
    let f : Formed c.args.table.now c.args.mail.now = buffers-zero c.args.table.now c.args.mail.now c.requires in
    let kept : Kept c.args.mail.now =
    formed-kept (Table.sessions_of c.args.table.now) (Table.items_of c.args.table.now) c.args.mail.now f.mail-sized f.mail-formed (search rules) in
    let none = none-spent (record { from = 0; to = 0 }) c.args.mail.now refl kept in
    (refl, record { kept = kept; order = omega arith; inside = omega arith }, rw none f, rw none (ahead-all c.args.limit (buffers c.args.table.now c.args.mail.now)))

pub take_turn-requires : goal.take_turn-requires
take_turn-requires c = let l = c.loop-after.invariant in (l.0, l.1, l.2)

pub loop-after-smaller : goal.loop-after-smaller
loop-after-smaller c =
    let l = c.loop-after in
    let after = turn-taken c.args.limit l.made (buffers c.args.table.now c.args.mail.now) (buffers l.table (closed_up l.gap l.mail)) l.invariant.3 _ c.in-Ok.ensures.2 in
    omega (arith, after.2)

pub loop-after-preserved : goal.loop-after-preserved
loop-after-preserved c =
    let l = c.loop-after in
    let b = buffers l.table (closed_up l.gap l.mail) in
    let t = c.in-Ok.ensures in
    let after = turn-taken c.args.limit l.made (buffers c.args.table.now c.args.mail.now) b l.invariant.3 _ t.2 in
    (t.0, t.1, subst (λ (t : Turned). Formed t.left.table t.left.mail) (sym t.2) (turn-formed c.args.limit l.made b l.invariant.2), after.0 refl)

pub close_gap-requires : goal.close_gap-requires
close_gap-requires c = c.in-Err.ensures.1

pub returns : goal.returns
returns c =
    let l = c.loop-after in
    let t = c.in-Err.ensures in
    let after = turn-taken c.args.limit l.made (buffers c.args.table.now c.args.mail.now) (buffers l.table (closed_up l.gap l.mail)) l.invariant.3 _ t.2 in
    rw (c.accepted.ensures, c.close_gap.ensures)
    (drained c.args.limit c.args.table.now c.args.mail.now c.requires l.made _ (buffers c.take_turn.new.table (closed_up l.gap c.take_turn.new.mail)) (after.1 (ending-positive c.in-Err.ending)))
