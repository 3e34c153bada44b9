-- `Item::store` meets its contract: its stores are the record's bytes written over the table.
use mathlib.Core.Path.{◌∙◌}
use native.Mathlib.Omega.{arith}
use Rattle.item.proofs.Laws.{store_eq}
use Rattle.item.proofs.Item.store.Goals as goal

pub returns : goal.returns
returns c =
    let a = c.args in
    c.put_row.ensures
    ∙ store_eq a.t.now a.at a.self (omega arith) (omega arith)
