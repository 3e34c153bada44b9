-- `Item::resends` meets its contract. The invariant: behind the list given stand the resends to those of the queue that were passed.
use mathlib.Core.Path.{sym, ap}
use mathlib.Core.List.{List, [], ◌∷◌, ◌++◌, append-nil, append_assoc}
use Prim.Native.Nat.{◌≤◌}
use native.Mathlib.Omega.{arith}
use lib.ListN.{length, get_or, length-append}
use Rattle.message.specs.declared.Message.{Message}
use Rattle.message.specs.Outbox.{plain}
use Rattle.message.specs.Kind
use Rattle.item.specs.Rules.{resends}
use Rattle.item.proofs.Laws.{queue_short, resends-more}
use Rattle.item.proofs.Item.resends.Goals as goal

pub push-requires : goal.push-requires
push-requires c =
    let few : length c.sessions-peer-items.result.now ≤ 64 = rw c.sessions-peer-items.ensures (queue_short c.args.self (omega arith)) in
    omega arith

pub loop-peer-init : goal.loop-peer-init
unfolding resends
loop-peer-init c = (omega arith, sym (append-nil _))

pub loop-peer-preserved : goal.loop-peer-preserved
loop-peer-preserved c =
    let q = c.sessions-peer-items.result.now in
    let b = c.loop-peer in
    let m = plain (get_or q b.peer-index 0) Kind.resend in
    rw (c.push.ensures, c.new.ensures) (
      omega (arith, length-append b.out (m ∷ [])),
      rw (resends-more q b.peer-index (omega arith), ← append_assoc) (ap (λ (l : List Message). l ++ (m ∷ [])) b.invariant.1),
    )
