-- There is room, or nothing is written.
use mathlib.Core.Path.{refl}
use native.Mathlib.Omega.{arith}
use Prim.Native.Nat.{◌+◌}
use lib.ListN.{length}
use borrow.Author.Tests.{lt-ltb, le-ltb}
use Rattle.step.specs.Parts.{place_of, without}
use Rattle.lists.proofs.Laws.{remove_at_le}
use Rattle.mailbox.specs.Layout.{capacity_of, entries_of}
use Rattle.mailbox.proofs.Laws as MailLaws
use Rattle.step.proofs.make_room.Goals as goal

pub capacity-requires : goal.capacity-requires
capacity-requires c =
    omega (arith, MailLaws.kept-length c.args.mail.now c.requires.0)

pub overflow_add-left : goal.overflow_add-left
overflow_add-left c =
    let m = c.args.mail.now in
    omega (arith, c.left.ensures, remove_at_le (place_of c.args.entry (entries_of m)) (entries_of m), MailLaws.length-entries m, c.requires.0.fits, c.requires.0.high, c.requires.1)

pub returns-then-capacity-left : goal.returns-then-capacity-left
returns-then-capacity-left c =
    let m = c.args.mail.now in
    rw (lt-ltb (capacity_of m) (length (without c.args.entry (entries_of m)) + c.args.n) (omega (arith, c.if-capacity-left.true, c.capacity.ensures, c.left.ensures))) refl

pub returns : goal.returns
returns c =
    let m = c.args.mail.now in
    rw (le-ltb (capacity_of m) (length (without c.args.entry (entries_of m)) + c.args.n) (omega (arith, c.if-capacity-left.false, c.capacity.ensures, c.left.ensures)), c.take.ensures) refl
