-- `no_probe_names` meets its contract: each record is tested.
use mathlib.Core.Bool.{not}
use Rattle.std.proofs.Common.{rules, tests}
use Rattle.table.specs.Layout as Table
use Rattle.table.proofs.Laws.{header-fits}
use Rattle.reopen.specs.Reopening.{stored_names, no_probe_names}
use Rattle.lists.proofs.Ranges.{all_up_to}
use Rattle.reopen.proofs.no_probe_names.Goals as goal

pub sessions-requires : goal.sessions-requires
sessions-requires c = header-fits c.args.table.now c.requires.1.sized

pub returns : goal.returns
unfolding no_probe_names
returns c =
    let a = c.args in
    all_up_to (λ k. not (stored_names a.t (Table.session a.table.now k))) _ (Table.sessions_of a.table.now) c.all.result _ _ (search rules) c.all.ensures.ran (λ x b q k. search (rules, tests))
