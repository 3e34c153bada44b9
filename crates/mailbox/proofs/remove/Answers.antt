-- One entry goes out.
use mathlib.Core.Path.{sym, ap, ◌∙◌}
use native.Mathlib.Omega.{arith}
use Rattle.lists.proofs.Laws.{remove_at-without}
use Rattle.mailbox.specs.Layout.{capacity_of, entries_of, mail_bytes}
use Rattle.mailbox.proofs.Laws.{length-entries}
use Rattle.mailbox.proofs.remove.Goals as goal

pub returns : goal.returns
returns c =
    let m = c.args.m.now in
    c.cut.ensures
    ∙ ap (mail_bytes (capacity_of m)) (sym (remove_at-without c.args.k (entries_of m) (omega (arith, length-entries m, c.requires.inside))))
