-- `post` meets its contract. The invariant: the first i messages are added.
use mathlib.Core.Path.{◌≡◌}
use mathlib.Core.List.{◌++◌, map}
use lib.ListN.{take}
use Rattle.mailbox.specs.Layout.{entries_of, mail_bytes}
use Rattle.entry.specs.Entry.{sent}
use Rattle.mailbox.proofs.post.Given as goal

abbrev pub invariant-loop-i : goal.invariant-loop-i
invariant-loop-i l =
    l.m ≡ mail_bytes l.c (entries_of l.initial.m ++ map (sent l.direction l.party) (take l.i l.out))
