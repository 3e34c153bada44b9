-- `item_receives` meets its contract: the record and the message are read, and the record receives it.
use mathlib.Core.Path.{◌≡◌, refl, ap, ◌∙◌}
use native.Mathlib.Omega.{arith}
use lib.ListN.{length}
use Rattle.item.specs.declared.ItemStep.{ItemStep}
use Rattle.item.specs.Rules as Item
use Rattle.mailbox.specs.Layout.{entry_at}
use Rattle.table.specs.Layout.{senior}
use Rattle.waits.specs.OnTable.{locks}
use Rattle.step.specs.Step.{item_receives}
use Rattle.step.proofs.Acting.{item-sends-few}
use Rattle.step.proofs.item_receives.Goals as goal

pub ranks-requires : goal.ranks-requires
ranks-requires c = c.requires.item.sized

pub receive-requires : goal.receive-requires
receive-requires c = rw c.item.ensures c.requires.packed

pub returns : goal.returns
unfolding locks
returns c =
    let e = entry_at c.args.mail.now c.args.k in
    let does : c.receive.result ≡ Item.step_of (item_receives (senior c.args.table.now) (locks c.args.table.now c.args.x) e) = c.receive.ensures ∙ rw (c.item.ensures, c.ranks.ensures, c.message_to_item.ensures) refl in
    (does, omega (arith, ap (λ (r : ItemStep). length r.outbox) does, item-sends-few (senior c.args.table.now) c.args.x c.args.table.now e c.requires.packed))
