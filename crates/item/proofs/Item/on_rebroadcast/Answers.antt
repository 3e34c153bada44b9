-- `Item::on_rebroadcast` meets its contract: the probes, then the resends.
use native.Mathlib.Omega.{arith}
use Rattle.session.specs.Seniority.{senior}
use Rattle.item.specs.Record.{unpacked}
use Rattle.item.proofs.Laws.{queue-length, probes-length}
use Rattle.item.proofs.Item.on_rebroadcast.Goals as goal

pub resends-requires : goal.resends-requires
resends-requires c =
    let i = c.args.self in
    (c.requires.fits, rw (c.probes.ensures, c.new-outbox.ensures) (omega (arith, queue-length i c.requires, probes-length (senior c.args.ranks.now) i.holder (unpacked i).queue)))
