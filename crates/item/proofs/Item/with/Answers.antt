-- `Item::with` meets its contract: one element more of a padded list.
use Prim.Native.Nat.{◌+◌}
use native.Mathlib.Omega.{arith}
use mathlib.Core.List.{[], ◌∷◌, ◌++◌}
use lib.ListN.{length-append}
use Rattle.item.specs.Record.{unpacked}
use Rattle.item.proofs.Laws.{packed_eq, queue-length, queue-put}
use Rattle.item.proofs.Item.with.Goals as goal

pub returns : goal.returns
returns c =
    let i = c.args.self in
    let f = c.requires.packed in
    let l = (unpacked i).queue in
    rw c.from.ensures
    (packed_eq i.holder (i.waiting + 1) _ (l ++ (c.args.t ∷ [])) (omega (arith, length-append l (c.args.t ∷ []), queue-length i f)) (queue-put i f c.args.t c.requires.room))
