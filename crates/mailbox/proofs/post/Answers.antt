-- `post` meets its contract. The invariant: the first i messages are added.
use mathlib.Core.Path.{◌≡◌, sym, ap, ◌∙◌}
use mathlib.Core.List.{List, ◌++◌, map}
use Prim.Native.Nat.{ℕ, ◌+◌}
use lib.ListN.{length, take}
use Rattle.entry.specs.Entry.{Entry}
use Rattle.mailbox.specs.Layout.{entries_of, mail_bytes}
use Rattle.entry.specs.Entry.{sent}
use Rattle.mailbox.proofs.Laws.{length-entries}
use Rattle.mailbox.proofs.Moves.{one_more, length_more}
use native.Mathlib.Omega.{arith}
use Rattle.mailbox.proofs.post.Goals as goal

pub loop-i-preserved : goal.loop-i-preserved
loop-i-preserved c =
    let a = c.args in
    let m = a.m.now in
    let k = a.out.now in
    let l = c.loop-i in
    let here : List Entry = entries_of m ++ map (sent a.direction a.party) (take l.i k) in
    let len : length here ≡ c.count-count.result + l.i = length_more a.direction a.party l.i k (entries_of m) (omega arith) ∙ ap (λ (j : ℕ). j + l.i) (length-entries m ∙ sym c.count-count.ensures) in
    c.add.ensures here len l.invariant
    ∙ ap (mail_bytes c.capacity-c.result) (rw (c.route_between-route.ensures) (one_more a.direction a.party l.i k (entries_of m) _ c.loop-i-test.true))
