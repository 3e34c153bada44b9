-- `Item::probes` meets its contract. The invariant: behind the list given stand the probes for those of the queue that were passed.
use mathlib.Core.Path.{sym, ap, ◌∙◌}
use mathlib.Core.List.{List, [], ◌∷◌, ◌++◌, append-nil, append_assoc}
use Prim.Native.Nat.{◌≤◌}
use native.Mathlib.Omega.{arith}
use lib.ListN.{length, get_or, length-append}
use Rattle.message.specs.declared.Message.{Message}
use Rattle.message.specs.Outbox.{message}
use Rattle.message.specs.Kind
use Rattle.session.specs.Seniority.{senior}
use Rattle.lists.specs.Lists.{filter}
use Rattle.item.specs.Rules.{probes}
use Rattle.item.proofs.Laws.{queue_short, probes-more, probes-same}
use Rattle.item.proofs.Item.probes.Goals as goal
use Rattle.item.proofs.Item.probes.Goals.{then-senior, else-senior}

pub push-requires : goal.push-requires
push-requires c =
    let few : length c.sessions-r-items.result.now ≤ 64 = rw c.sessions-r-items.ensures (queue_short c.args.self (omega arith)) in
    omega arith

pub loop-r-init : goal.loop-r-init
unfolding probes filter
loop-r-init c = (omega arith, sym (append-nil _))

pub loop-r-preserved : goal.loop-r-preserved
loop-r-preserved c =
    let q = c.sessions-r-items.result.now in
    let h = c.args.self.holder in
    let before = senior c.args.ranks.now in
    let b = c.loop-r in
    let m = message h Kind.probe (get_or q b.r-index 0) h in
    elim c.if-senior.branch [
      | then-senior w ↦
          rw (w.out-is, w.push.ensures, w.new.ensures) (
            omega (arith, length-append b.out (m ∷ [])),
            rw (probes-more q b.r-index (omega arith) before h (sym c.senior.ensures ∙ w.if-senior.true), ← append_assoc) (ap (λ (l : List Message). l ++ (m ∷ [])) b.invariant.1),
          )
      | else-senior w ↦
          rw (w.out-is) (omega arith, rw (probes-same q b.r-index (omega arith) before h (sym c.senior.ensures ∙ w.if-senior.false)) b.invariant.1)
    ]
