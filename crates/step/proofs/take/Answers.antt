-- Where none goes out, the bytes are those of the entries.
use mathlib.Core.Path.{sym, ap, ◌∙◌}
use native.Mathlib.Omega.{arith}
use lib.ListN.{length}
use Rattle.lists.proofs.Laws.{remove_at-past}
use Rattle.mailbox.specs.Layout.{capacity_of, entries_of, mail_bytes}
use Rattle.step.proofs.take.Goals as goal

pub remove-requires : goal.remove-requires
remove-requires c = record { kept = c.requires.0; inside = rw c.in-Some.is at c.requires.1 }

pub returns-in-Some : goal.returns-in-Some
returns-in-Some c = rw c.in-Some.is c.remove.ensures

pub returns-in_default : goal.returns-in_default
returns-in_default c =
    let m = c.args.mail.now in
    rw c.in_default.is
    (c.requires.0.bytes ∙ ap (mail_bytes (capacity_of m)) (sym (remove_at-past (length (entries_of m)) (entries_of m) (omega arith))))
