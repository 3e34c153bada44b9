-- `Item::on_clean` meets its contract: the clean, then the probes, then the resends to the others.
use mathlib.Core.Path.{◌≡◌, refl}
use native.Mathlib.Omega.{arith}
use borrow.Author.Tests.{ne_eqb}
use lib.Dec.{eqb}
use Rattle.lists.specs.Lists.{find_index}
use Rattle.session.specs.Seniority.{senior}
use Rattle.item.specs.Record.{unpacked}
use Rattle.item.specs.Rules.{without, on_clean}
use Rattle.lists.proofs.Laws.{remove_at_le}
use Rattle.item.proofs.Laws.{step_eq, queue-length, holds-queue, holds-waiting, probes-length, taken_out}
use Rattle.item.proofs.Item.on_clean.Goals as goal

pub resends-requires : goal.resends-requires
unfolding without
resends-requires c =
    let a = c.args in
    let i = a.self in
    let q = (unpacked i).queue in
    let n = queue-length i c.requires in
    let others = taken_out i c.requires a.t c.place.result c.without-others.result c.place.ensures c.without-others.ensures in (
      omega (arith, holds-waiting c.without-others.result i.holder (without a.t q) others, remove_at_le (find_index (λ r. eqb r a.t) q) q),
      rw (c.probes.ensures, c.single-outbox.ensures) (omega (arith, probes-length (senior a.ranks.now) i.holder q)),
    )

pub returns : goal.returns
unfolding on_clean
returns c =
    let a = c.args in
    let i = a.self in
    let q = (unpacked i).queue in
    let others : (unpacked c.without-others.result).queue ≡ without a.t q =
    holds-queue c.without-others.result i.holder (without a.t q) (taken_out i c.requires a.t c.place.result c.without-others.result c.place.ensures c.without-others.ensures) in
    rw (c.quiet.ensures, ne_eqb _ _ c.if-holder-eq0.false)
    (step_eq _ _ _ (unpacked i) _ c.requires.zeros (rw (c.resends.ensures, c.probes.ensures, c.single-outbox.ensures, others) refl))
