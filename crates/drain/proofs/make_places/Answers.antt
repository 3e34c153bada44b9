-- There are places enough, or the gap is closed.
use mathlib.Core.Path.{refl, ◌∙◌}
use native.Mathlib.Omega.{arith}
use Prim.Native.Nat.{◌+◌}
use lib.ListN.{length}
use borrow.Author.Tests.{leb-true}
use Rattle.mailbox.specs.Layout.{capacity_of}
use Rattle.mailbox.proofs.Laws.{kept-length}
use Rattle.lists.proofs.Laws.{without-none}
use Rattle.drain.specs.Parts.{in_use}
use Rattle.drain.proofs.Gaps.{left, length-left}
use Rattle.drain.proofs.make_places.Goals as goal

pub count-requires : goal.count-requires
count-requires c =
    omega (arith, kept-length c.args.mail.now c.requires.0.kept)

pub overflow_add-count : goal.overflow_add-count
overflow_add-count c =
    omega (arith, c.count.ensures, c.requires.0.kept.fits, c.requires.0.kept.high, c.requires.1)

pub capacity-requires : goal.capacity-requires
capacity-requires c =
    omega (arith, kept-length c.args.mail.now c.requires.0.kept)

pub returns-then-count-n : goal.returns-then-count-n
returns-then-count-n c =
    record { spent = c.requires.0; front = refl; capacity = refl; entries = refl; free = omega (arith, c.if-count-n.true, c.count.ensures, c.capacity.ensures) }

pub returns : goal.returns
returns c =
    let m = c.args.mail.now in
    let g = c.args.gap in
    let l = left g m c.requires.0 in
    rw c.cut.ensures
    (record {
      spent = record { kept = l.kept; order = omega arith; inside = omega (arith, l.count, c.requires.0.order, c.requires.0.inside) };
      front = refl;
      capacity = l.capacity;
      entries = without-none g.from _ ∙ l.entries;
      free = omega (arith, l.count, l.capacity, leb-true (length (in_use g m) + c.args.n) (capacity_of m) c.requires.2, length-left g m c.requires.0);
    })
