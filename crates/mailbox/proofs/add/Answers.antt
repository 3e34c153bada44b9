-- `add` meets its contract, by the law of an entry added.
use mathlib.Core.Path.{◌∙◌}
use Rattle.entry.specs.Entry.{Entry}
use Rattle.mailbox.proofs.Moves.{add_mail}
use native.Mathlib.Omega.{arith}
use Rattle.mailbox.proofs.add.Goals as goal

pub returns : goal.returns
returns c =
    λ l e f.
    let a = c.args in
    let added : Entry = record { direction = a.route.direction; session = a.route.session; item = a.route.item; kind = a.msg.now.kind; a = a.msg.now.a; b = a.msg.now.b } in
    c.put16.ensures
    ∙ add_mail a.c a.n l added e (omega arith) f (rw c.route_place.ensures at c.put.ensures) (rw c.body_place.ensures at c.put-2.ensures)
