-- `session_receives` meets its contract: the record and the message are read, and the record receives it.
use mathlib.Core.Path.{◌≡◌, refl, ap, ◌∙◌}
use native.Mathlib.Omega.{arith}
use lib.ListN.{length}
use Rattle.session.specs.declared.SessionStep.{SessionStep}
use Rattle.session.specs.Rules as Session
use Rattle.mailbox.specs.Layout.{entry_at}
use Rattle.table.specs.Layout.{session, senior}
use Rattle.table.proofs.Laws.{juniors-length}
use Rattle.step.specs.Step.{session_receives}
use Rattle.step.proofs.Acting.{session-sends-few}
use Rattle.step.proofs.session_receives.Goals as goal

pub ranks-requires : goal.ranks-requires
ranks-requires c = c.requires.session.sized

pub receive-requires : goal.receive-requires
receive-requires c = rw c.message_to_session.ensures c.requires.deliverable

pub returns : goal.returns
returns c =
    let h = c.requires.session in
    let e = entry_at c.args.mail.now c.args.k in
    let does : c.receive.result ≡ Session.step_of (session_receives (senior c.args.table.now) c.args.t (session c.args.table.now c.args.t) e) = c.receive.ensures ∙ rw (c.session.ensures, c.ranks.ensures, c.message_to_session.ensures) refl in
    let few = session-sends-few (senior c.args.table.now) c.args.t (session c.args.table.now c.args.t) (juniors-length c.args.table.now h.sized c.args.t h.low h.high) e in
    (does, omega (arith, ap (λ (r : SessionStep). length r.outbox) does, few))
