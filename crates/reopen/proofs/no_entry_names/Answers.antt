-- `no_entry_names` meets its contract: each entry is tested.
use mathlib.Core.Path.{sym, ◌∙◌}
use mathlib.Core.Bool.{not}
use Prim.Native.Nat.{ℕ}
use native.Mathlib.Omega.{arith}
use Rattle.std.proofs.Common.{rules, tests}
use Rattle.lists.proofs.Laws.{all-tabulate}
use Rattle.mailbox.specs.Layout.{count_of, entry_at, entries_of}
use Rattle.mailbox.proofs.Laws.{kept-length}
use Rattle.reopen.specs.Reopening.{entry_names, no_entry_names}
use Rattle.lists.proofs.Ranges.{all_below_n}
use Rattle.reopen.proofs.no_entry_names.Goals as goal

pub count-n-requires : goal.count-n-requires
count-n-requires c = let m = c.args.mail.now in omega (arith, kept-length m c.requires.kept, c.requires.kept.low)

pub returns : goal.returns
unfolding no_entry_names entries_of
returns c =
    let m = c.args.mail.now in
    let unnamed = λ (k : ℕ). not (entry_names c.args.t (entry_at m k)) in
    all_below_n unnamed _ (count_of m) c.all.result _ _ (search rules) c.all.ensures.ran (λ x b q k. search (rules, tests))
    ∙ sym (all-tabulate (λ e. not (entry_names c.args.t e)) (count_of m) (entry_at m))
