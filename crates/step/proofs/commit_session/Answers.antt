-- The tail of a step of a session.
use mathlib.Core.Path.{refl, ap}
use Rattle.session.specs.declared.SessionStep.{SessionStep}
use Rattle.refusal.proofs.Outcome.{passed-on}
use Rattle.step.proofs.commit_session.Goals as goal

pub send-requires : goal.send-requires
send-requires c = rw c.as_slice.ensures (c.requires.1, c.requires.2, c.requires.3)

pub returns : goal.returns
returns c w e =
    let p = rw (c.as_slice.ensures, ap (λ (r : SessionStep). r.outbox) e) at c.in_ok-sent.ensures in
    rw (c.accepted.ensures, c.put_session.ensures, p.0, p.1, p.2, e) refl

pub returns-in_err-sent : goal.returns-in_err-sent
returns-in_err-sent c w e =
    let p = rw (c.as_slice.ensures, ap (λ (r : SessionStep). r.outbox) e) at c.in_err-sent.ensures in
    rw (passed-on _ _ c.from_residual.ensures.1, p.1, p.2, p.0) refl
