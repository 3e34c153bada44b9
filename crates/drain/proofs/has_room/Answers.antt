-- Without the gap there are so many less.
use mathlib.Core.Path.{refl}
use native.Mathlib.Omega.{arith}
use Rattle.mailbox.proofs.Laws.{kept-length}
use Rattle.drain.proofs.Gaps.{length-left}
use Rattle.drain.proofs.has_room.Goals as goal

pub count-requires : goal.count-requires
count-requires c = omega (arith, kept-length c.args.mail.now c.requires.0.kept)

pub capacity-requires : goal.capacity-requires
capacity-requires c = omega (arith, kept-length c.args.mail.now c.requires.0.kept)

pub returns : goal.returns
returns c = rw (c.count.ensures, c.capacity.ensures, length-left c.args.gap c.args.mail.now c.requires.0) refl
