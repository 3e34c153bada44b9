-- The route says who receives the entry.
use mathlib.Core.Path.{refl}
use borrow.Author.Tests.{eq-eqb, ne_eqb}
use Rattle.mailbox.specs.Entry.{to_item}
use Rattle.mailbox.specs.Layout.{entry_at}
use Rattle.drain.proofs.Oldest.{due_acts}
use Rattle.drain.proofs.deliver.Goals as goal

pub deliver_to_item-requires : goal.deliver_to_item-requires
deliver_to_item-requires c = (c.requires, rw (c.route_of-route.ensures) refl)

pub returns-then-route-eq-TO_ITEM : goal.returns-then-route-eq-TO_ITEM
returns-then-route-eq-TO_ITEM c =
    rw (due_acts c.args.gap c.args.table.now c.args.mail.now c.requires, eq-eqb (entry_at c.args.mail.now c.args.gap.to).direction to_item (rw (c.route_of-route.ensures) at c.if-route-eq-TO_ITEM.true))
    (rw (c.route_of-route.ensures) at c.deliver_to_item.ensures)

pub deliver_to_session-requires : goal.deliver_to_session-requires
deliver_to_session-requires c = (c.requires, rw (c.route_of-route.ensures) refl)

pub returns : goal.returns
returns c =
    rw (due_acts c.args.gap c.args.table.now c.args.mail.now c.requires, ne_eqb (entry_at c.args.mail.now c.args.gap.to).direction to_item (rw (c.route_of-route.ensures) at c.if-route-eq-TO_ITEM.false))
    (rw (c.route_of-route.ensures) at c.deliver_to_session.ensures)
