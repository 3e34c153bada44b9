-- `Item::on_withdraw` meets its contract: the session leaves its place in the queue.
use mathlib.Core.Path.{◌∙◌}
use mathlib.Core.List.{[], ◌∷◌}
use Rattle.message.specs.Kind
use Rattle.message.specs.Outbox.{plain}
use Rattle.item.specs.Record.{unpacked, lock}
use Rattle.item.specs.Rules.{without, on_withdraw}
use Rattle.item.proofs.Laws.{step_eq, taken_out}
use Rattle.item.proofs.Item.on_withdraw.Goals as goal

pub returns : goal.returns
unfolding on_withdraw
returns c =
    let i = c.args.self in
    c.quiet.ensures
    ∙ step_eq _ _ _ (lock i.holder (without c.args.t (unpacked i).queue)) (plain c.args.t Kind.withdrawn ∷ [])
    (taken_out i c.requires c.args.t c.place.result c.without-item.result c.place.ensures c.without-item.ensures)
    c.single-outbox.ensures
