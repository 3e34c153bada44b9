-- `no_item_names` meets its contract: each item is tested.
use mathlib.Core.Bool.{not}
use Rattle.std.proofs.Common.{rules, tests}
use Rattle.std.proofs.iter.Serving.{serving}
use Rattle.table.specs.Layout as Table
use Rattle.table.proofs.Laws.{header-fits, packed-item}
use Rattle.reopen.specs.Reopening.{item_names, no_item_names}
use Rattle.lists.proofs.Ranges.{all_up_to}
use Rattle.reopen.proofs.no_item_names.Goals as goal

pub items-requires : goal.items-requires
items-requires c = header-fits c.args.table.now c.requires.1.sized

pub all-requires-clause-callable : goal.all-requires-clause-callable
all-requires-clause-callable c = grind (serving, packed-item)

pub returns : goal.returns
unfolding no_item_names
returns c =
    let a = c.args in
    all_up_to (λ x. not (item_names a.t (Table.item a.table.now x))) _ (Table.items_of a.table.now) c.all.result _ _ (search rules) c.all.ensures.ran (λ x b q k. search (rules, tests))
