-- The tail of a step of an item.
use mathlib.Core.Path.{◌≡◌, refl, ap}
use lib.ListN.{length}
use Rattle.table.proofs.Laws.{sized-with_item, sessions_of-with_item}
use Rattle.item.specs.declared.ItemStep.{ItemStep}
use Rattle.refusal.proofs.Outcome.{passed-on}
use native.Mathlib.Omega.{arith}
use Rattle.step.proofs.commit_item.Goals as goal

pub send-requires : goal.send-requires
send-requires c = rw c.as_slice.ensures (c.requires.3, c.requires.4, c.requires.5)

pub answer_of-requires : goal.answer_of-requires
answer_of-requires c =
    let queue-whole : length c.args.r.item.queue ≡ 64 = omega arith in
    let t = c.args.table.now in
    let p = c.requires in
    let i = c.args.r.item in
    let put = c.put_item.ensures in
    (record { sized = rw (put) (sized-with_item t p.1.sized c.args.x p.1.low p.1.high i (queue-whole)); formed = rw (put) p.2 }, p.0.low, rw (put, sessions_of-with_item t p.1.sized c.args.x p.1.low p.1.high i (queue-whole)) p.0.high)

pub returns : goal.returns
returns c w e =
    let p = rw (c.as_slice.ensures, ap (λ (r : ItemStep). r.outbox) e) at c.in_ok-sent.ensures in
    rw (c.answer_of.ensures, c.put_item.ensures, p.0, p.1, p.2, e) refl

pub returns-in_err-sent : goal.returns-in_err-sent
returns-in_err-sent c w e =
    let p = rw (c.as_slice.ensures, ap (λ (r : ItemStep). r.outbox) e) at c.in_err-sent.ensures in
    rw (passed-on _ _ c.from_residual.ensures.1, p.1, p.2, p.0) refl
