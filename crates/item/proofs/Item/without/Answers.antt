-- `Item::without` meets its contract: what stands behind the place is moved one place to the front.
use mathlib.Core.Path.{◌≡◌, ap, ◌∙◌}
use mathlib.Core.List.{List}
use Prim.Native.Nat.{ℕ, ◌+◌, ◌-◌, ◌<◌}
use native.Mathlib.Omega.{arith}
use lib.ListN.{set}
use Rattle.buffer.specs.Bytes.{padded}
use Rattle.lists.specs.Lists.{remove_at}
use Rattle.lists.proofs.Laws.{remove_at-length}
use Rattle.item.specs.Record.{unpacked}
use Rattle.item.proofs.Laws.{packed_eq, queue-length, queue-padded, shifted, shift_all, shift_last}
use Rattle.item.proofs.Item.without.Goals as goal

pub returns : goal.returns
returns c =
    let i = c.args.self in
    let f = c.requires.packed in
    let k = c.in-Some.k in
    let l = (unpacked i).queue in
    let n = queue-length i f in
    let inside : k < i.waiting = rw c.in-Some.is at c.requires.inside in
    let last : ℕ = i.waiting - 1 in
    let moved : i.waiting - (k + 1) ≡ last - k = omega arith in
    let stored : set c.copy_within.new.self last 0 ≡ padded 64 (remove_at k l) =
    rw (c.copy_within.ensures.after, c.from-n.ensures, moved, shift_all k last (omega arith) i.queue (omega arith))
    (ap (λ (q : List ℕ). set (shifted k q last) last 0) (queue-padded i f) ∙ shift_last k last (omega arith) 64 l (omega arith) (omega arith)) in
    rw (c.in-Some.is, c.from-n.ensures) (packed_eq i.holder last _ (remove_at k l) (omega (arith, remove_at-length k l (omega arith))) stored)
