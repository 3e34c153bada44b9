-- `Item::on_release` meets its contract: the next holder is taken out of the queue at its place.
use mathlib.Core.Path.{◌≡◌, ◌∙◌}
use Prim.Native.Nat.{◌<◌}
use native.Mathlib.Omega.{arith}
use borrow.Author.Tests.{eq-eqb, ne_eqb}
use lib.ListN.{get_or, length}
use lib.Seq.{get_or-take}
use Rattle.lists.specs.Lists.{remove_at}
use Rattle.lists.proofs.Laws.{remove_at-length}
use Rattle.session.specs.Seniority.{senior}
use Rattle.item.specs.NextHolder.{next_holder}
use Rattle.item.specs.Record.{unpacked}
use Rattle.item.specs.Rules.{handed_over, on_release}
use Rattle.session.proofs.Seniority.{senior-weak}
use Rattle.session.proofs.MostSenior.{most-senior-passes}
use Rattle.item.proofs.NextHolder.{no_probes}
use Rattle.item.proofs.Laws.{queue-length, holds-queue, holds-other, holds-packed, vacated-none, vacated-more}
use Rattle.item.proofs.Item.on_release.Goals as goal

pub returns-then-self-t : goal.returns-then-self-t
unfolding on_release
returns-then-self-t c = rw (ne_eqb _ _ c.if-self-t.true) c.dropped.ensures

pub returns-then-self-eq0 : goal.returns-then-self-eq0
unfolding on_release
returns-then-self-eq0 c =
    let i = c.args.self in
    rw (eq-eqb _ _ c.if-self-t.false, vacated-none (senior c.args.ranks.now) (next_holder (senior c.args.ranks.now)) (unpacked i).queue (queue-length i c.requires ∙ c.if-self-eq0.true)) c.vacant.ensures

pub handed_over-requires : goal.handed_over-requires
handed_over-requires c =
    let i = c.args.self in
    let q = (unpacked i).queue in
    let next = c.next_holder-k in
    let rest = c.without-rest in
    let n = queue-length i c.requires in
    let k = get_or i.queue next.result 0 in
    holds-packed _ k (remove_at next.result q) (holds-other rest.result i.holder (remove_at next.result q) rest.ensures k) (omega (arith, c.requires.fits, next.ensures.1, remove_at-length next.result q (omega arith)))

pub returns : goal.returns
unfolding on_release handed_over next_holder
returns c =
    let i = c.args.self in
    let q = (unpacked i).queue in
    let next = c.next_holder-k in
    let rest = c.without-rest in
    let n = queue-length i c.requires in
    let some : 0 < length q = omega (arith, next.ensures.1) in
    let first : get_or q next.result 0 ≡ get_or i.queue next.result 0 = get_or-take i.waiting i.queue next.result 0 next.ensures.1 in
    let left = holds-queue rest.result i.holder (remove_at next.result q) rest.ensures in
    let r = c.args.ranks.now in
    let by = next_holder (senior r) in
    let none = no_probes (senior r) q (get_or q (by q) 0) (by q) (most-senior-passes (senior-weak r) q some) in
    rw (eq-eqb _ _ c.if-self-t.false, vacated-more (senior r) by q some, none, ← next.ensures.0, first, ← left) c.handed_over.ensures
