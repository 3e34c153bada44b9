-- The delivery to an item: judged for room, then only told, or written.
use mathlib.Core.Path.{◌≡◌, refl}
use native.Mathlib.Omega.{arith}
use Rattle.refusal.proofs.Outcome.{passed-on}
use Rattle.item.specs.Record.{packed}
use Rattle.item.specs.Rules as Item
use Rattle.mailbox.specs.Entry.{from_item}
use Rattle.mailbox.specs.Layout.{entry_at}
use Rattle.table.specs.Layout as Table
use Rattle.waits.specs.OnTable.{locks}
use Rattle.step.specs.Step.{item_receives}
use Rattle.drain.proofs.Oldest.{has-item, due_for-item, told_stopped, told-made}
use Rattle.drain.proofs.deliver_to_item.Goals as goal

pub item_receives-r-requires : goal.item_receives-r-requires
item_receives-r-requires c = rw c.requires.1 (due_for-item c.args.gap c.args.table.now c.args.mail.now c.requires.0)

pub returns-in_err-after : goal.returns-in_err-after
returns-in_err-after c =
    let Did : Item.After = item_receives (Table.senior c.args.table.now) (locks c.args.table.now (entry_at c.args.mail.now c.args.gap.to).item) (entry_at c.args.mail.now c.args.gap.to) in
    let received : c.item_receives-r.result ≡ Item.step_of (Did) = rw (← c.requires.1) c.item_receives-r.ensures.0 in
    let w = Did in
    rw (passed-on _ _ c.from_residual.ensures.1, c.requires.1) (told_stopped c.args.gap c.args.table.now c.args.mail.now c.requires.0 (Table.with_item c.args.table.now (entry_at c.args.mail.now c.args.gap.to).item (packed w.lock)) (from_item (entry_at c.args.mail.now c.args.gap.to).item) w.sends w.event c.args.allowed _ _ (rw (c.as_slice.ensures, received, c.requires.1) at c.in_err-after.ensures) refl)

pub returns-in_default : goal.returns-in_default
returns-in_default c =
    let Did : Item.After = item_receives (Table.senior c.args.table.now) (locks c.args.table.now (entry_at c.args.mail.now c.args.gap.to).item) (entry_at c.args.mail.now c.args.gap.to) in
    let received : c.item_receives-r.result ≡ Item.step_of (Did) = rw (← c.requires.1) c.item_receives-r.ensures.0 in
    let w = Did in
    let a = rw (c.in_default.is, c.as_slice.ensures, received, c.requires.1) at c.in_ok-after.ensures in
    rw c.requires.1 (told_stopped c.args.gap c.args.table.now c.args.mail.now c.requires.0 (Table.with_item c.args.table.now (entry_at c.args.mail.now c.args.gap.to).item (packed w.lock)) (from_item (entry_at c.args.mail.now c.args.gap.to).item) w.sends w.event c.args.allowed _ _ a refl)

pub send-requires : goal.send-requires
send-requires c = let d = c.requires.0 in (record { kept = d.spent.kept; order = omega (arith, d.spent.order); inside = omega (arith, d.some) }, rw c.as_slice.ensures c.item_receives-r.ensures.1)

pub put_item-requires : goal.put_item-requires
put_item-requires c = rw c.requires.1 (has-item c.args.gap c.args.table.now c.args.mail.now c.requires.0)

pub returns : goal.returns
returns c =
    let Did : Item.After = item_receives (Table.senior c.args.table.now) (locks c.args.table.now (entry_at c.args.mail.now c.args.gap.to).item) (entry_at c.args.mail.now c.args.gap.to) in
    let received : c.item_receives-r.result ≡ Item.step_of (Did) = rw (← c.requires.1) c.item_receives-r.ensures.0 in
    let w = Did in
    let does = received in
    rw (c.put_item.ensures, does, c.requires.1)
    (told-made c.args.gap c.args.table.now c.args.mail.now c.requires.0 (Table.with_item c.args.table.now (entry_at c.args.mail.now c.args.gap.to).item (packed w.lock)) (from_item (entry_at c.args.mail.now c.args.gap.to).item) w.sends w.event c.args.allowed _ _ (rw (c.in-Some.is, c.as_slice.ensures, does, c.requires.1) at c.in_ok-after.ensures) refl)
