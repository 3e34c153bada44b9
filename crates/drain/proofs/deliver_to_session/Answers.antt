-- The delivery to a session: judged for room, then only told, or written.
use mathlib.Core.Path.{◌≡◌, refl}
use native.Mathlib.Omega.{arith}
use Rattle.refusal.proofs.Outcome.{passed-on}
use Rattle.session.specs.Rules as Session
use Rattle.item.specs.declared.Event.TheVariants.{Nothing}
use Rattle.mailbox.specs.Entry.{from_session}
use Rattle.mailbox.specs.Layout.{entry_at}
use Rattle.table.specs.Layout as Table
use Rattle.step.specs.Step.{session_receives}
use Rattle.drain.proofs.Oldest.{has-session, due_for-session, told_stopped, told-made}
use Rattle.drain.proofs.deliver_to_session.Goals as goal

pub session_receives-r-requires : goal.session_receives-r-requires
session_receives-r-requires c = rw c.requires.1 (due_for-session c.args.gap c.args.table.now c.args.mail.now c.requires.0)

pub returns-in_err-after : goal.returns-in_err-after
returns-in_err-after c =
    let Did : Session.After = session_receives (Table.senior c.args.table.now) (entry_at c.args.mail.now c.args.gap.to).session (Table.session c.args.table.now (entry_at c.args.mail.now c.args.gap.to).session) (entry_at c.args.mail.now c.args.gap.to) in
    let received : c.session_receives-r.result ≡ Session.step_of (Did) = rw (← c.requires.1) c.session_receives-r.ensures.0 in
    let w = Did in
    rw (passed-on _ _ c.from_residual.ensures.1, c.requires.1) (told_stopped c.args.gap c.args.table.now c.args.mail.now c.requires.0 (Table.with_session c.args.table.now (entry_at c.args.mail.now c.args.gap.to).session w.session) (from_session (entry_at c.args.mail.now c.args.gap.to).session) w.sends Nothing c.args.allowed _ _ (rw (c.as_slice.ensures, received, c.requires.1) at c.in_err-after.ensures) refl)

pub returns-in_default : goal.returns-in_default
returns-in_default c =
    let Did : Session.After = session_receives (Table.senior c.args.table.now) (entry_at c.args.mail.now c.args.gap.to).session (Table.session c.args.table.now (entry_at c.args.mail.now c.args.gap.to).session) (entry_at c.args.mail.now c.args.gap.to) in
    let received : c.session_receives-r.result ≡ Session.step_of (Did) = rw (← c.requires.1) c.session_receives-r.ensures.0 in
    let w = Did in
    let a = rw (c.in_default.is, c.as_slice.ensures, received, c.requires.1) at c.in_ok-after.ensures in
    rw c.requires.1 (told_stopped c.args.gap c.args.table.now c.args.mail.now c.requires.0 (Table.with_session c.args.table.now (entry_at c.args.mail.now c.args.gap.to).session w.session) (from_session (entry_at c.args.mail.now c.args.gap.to).session) w.sends Nothing c.args.allowed _ _ a refl)

pub send-requires : goal.send-requires
send-requires c = let d = c.requires.0 in (record { kept = d.spent.kept; order = omega (arith, d.spent.order); inside = omega (arith, d.some) }, rw c.as_slice.ensures c.session_receives-r.ensures.1)

pub put_session-requires : goal.put_session-requires
put_session-requires c = rw c.requires.1 (has-session c.args.gap c.args.table.now c.args.mail.now c.requires.0)

pub returns : goal.returns
returns c =
    let Did : Session.After = session_receives (Table.senior c.args.table.now) (entry_at c.args.mail.now c.args.gap.to).session (Table.session c.args.table.now (entry_at c.args.mail.now c.args.gap.to).session) (entry_at c.args.mail.now c.args.gap.to) in
    let received : c.session_receives-r.result ≡ Session.step_of (Did) = rw (← c.requires.1) c.session_receives-r.ensures.0 in
    let w = Did in
    let does = received in
    rw (c.put_session.ensures, does, c.requires.1)
    (told-made c.args.gap c.args.table.now c.args.mail.now c.requires.0 (Table.with_session c.args.table.now (entry_at c.args.mail.now c.args.gap.to).session w.session) (from_session (entry_at c.args.mail.now c.args.gap.to).session) w.sends Nothing c.args.allowed _ _ (rw (c.in-Some.is, c.as_slice.ensures, does, c.requires.1) at c.in_ok-after.ensures) refl)
