-- The messages of a step: room is made for them, then they are added.
use mathlib.Core.Path.{refl}
use native.Mathlib.Omega.{arith}
use Rattle.mailbox.specs.Entry.{sent}
use Rattle.mailbox.specs.Layout.{entries_of}
use Rattle.step.specs.Parts.{place_of}
use Rattle.refusal.proofs.Outcome.{number-positive, passed-on}
use Rattle.step.proofs.Acting.{has_room, no_room, room-filled}
use Rattle.step.proofs.send.Goals as goal

pub post-requires : goal.post-requires
post-requires c =
    has_room c.args.mail.now (place_of c.args.entry (entries_of c.args.mail.now)) _ c.in_ok-make_room.ensures c.requires.0 refl c.args.out.now refl

pub returns : goal.returns
returns c =
    let p = room-filled c.args.mail.now (place_of c.args.entry (entries_of c.args.mail.now)) _ c.in_ok-make_room.ensures c.requires.0 refl (sent c.args.direction c.args.party) c.args.out.now refl c.post.ensures in
    (p.0, omega arith, p.1)

pub returns-in_err-make_room : goal.returns-in_err-make_room
returns-in_err-make_room c =
    let p = no_room c.args.mail.now (place_of c.args.entry (entries_of c.args.mail.now)) _ c.in_err-make_room.ensures (number-positive c.in_err-make_room.field-0.0) (sent c.args.direction c.args.party) c.args.out.now refl in
    rw (passed-on _ _ c.from_residual.ensures.1) p
