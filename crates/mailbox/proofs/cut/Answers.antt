-- `cut` meets its contract, by the law of entries taken out.
use mathlib.Core.Path.{◌≡◌, refl, sym, ◌∙◌}
use Prim.Native.Nat.{◌-◌, ◌*◌}
use Rattle.entry.specs.Entry.{width}
use Rattle.mailbox.specs.Layout.{entries_of, mail_bytes}
use Rattle.mailbox.proofs.Laws.{length-entries}
use Rattle.mailbox.proofs.Moves.{cut-mail}
use native.Mathlib.Omega.{arith}
use Rattle.mailbox.proofs.cut.Goals as goal

pub returns : goal.returns
returns c =
    let n = c.count-n in
    let C = c.capacity-c in
    let m = c.args.m.now in
    let same : m ≡ mail_bytes C.result (entries_of m) = rw C.ensures c.requires.0.bytes in
    c.put16.ensures
    ∙ cut-mail C.result n.result c.args.a c.args.b (width * (n.result - c.args.a)) (entries_of m) (length-entries m ∙ sym n.ensures) (omega arith) c.requires.1 (omega arith) refl same (rw c.route_place.ensures at c.cut.ensures) (rw c.body_place.ensures at c.cut-2.ensures)
    ∙ rw C.ensures refl
