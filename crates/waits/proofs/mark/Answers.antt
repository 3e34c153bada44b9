-- `mark` meets its contract. The invariant: the places are those among the items before x, with x for the sessions passed that had none.
use mathlib.Core.Path.{◌≡◌, refl, sym, ap, ◌∙◌}
use Prim.Native.Nat.{ℕ, suc, ◌-◌}
use native.Mathlib.Omega.{arith}
use lib.ListN.{take}
use lib.Seq.{take_all}
use Rattle.table.specs.Layout.{item}
use Rattle.waits.specs.Waits.{waits_at}
use Rattle.waits.specs.OnTable.{locks}
use Rattle.waits.proofs.Laws.{queue-fits, queued_session, holder-read, places-free, places-first, places-last, mark_write, mark_keep}
use Rattle.waits.proofs.mark.Goals as goal
use Rattle.waits.proofs.mark.Goals.{then-at-k-eq0, else-at-k-eq0}

pub returns-then-h-eq0 : goal.returns-then-h-eq0
returns-then-h-eq0 c =
    let a = c.args in
    c.requires.2 ∙ places-free a.t.now c.requires.1 (sym (holder-read a.t.now a.x c.holder-h.ensures) ∙ c.if-h-eq0.true)

-- an empty queue marks nobody
pub returns-then-waiting-eq0 : goal.returns-then-waiting-eq0
returns-then-waiting-eq0 c =
    let a = c.args in
    let p = c.requires in
    let i = item a.t.now a.x in
    let held = holder-read a.t.now a.x c.holder-h.ensures in
    let none : 0 ≡ i.waiting = sym (sym c.waiting.ensures ∙ c.if-waiting-eq0.true) in
    p.2 ∙ places-first a.t.now p.1 i.queue
    ∙ places-last a.t.now p.1 (λ z. c.if-h-eq0.false (held ∙ z)) refl i.queue 0 (ap (λ (n : ℕ). take n i.queue) none)

pub shared_ref_as_front-s-items : goal.shared_ref_as_front-s-items
shared_ref_as_front-s-items c = queue-fits c.args.t.now c.requires.0 c.requires.1 c.item-i.ensures c.from.ensures

pub loop-s-init : goal.loop-s-init
loop-s-init c = c.requires.2 ∙ places-first c.args.t.now c.requires.1 (take c.from.result c.item-i.result.queue)

pub loop-s-preserved : goal.loop-s-preserved
loop-s-preserved c =
    let a = c.args in
    let s = queued_session a.t.now c.requires.0 c.requires.1 c.item-i.ensures c.from.ensures c.loop-s-test.true c.from-k.ensures in
    let q = take c.from.result c.item-i.result.queue in
    let j = c.loop-s.s-index in
    let before : ℕ → ℕ = λ k. waits_at (a.x - 1) (locks a.t.now) (suc k) in
    elim c.if-at-k-eq0.branch [
      | then-at-k-eq0 w ↦ w.at-is ∙ mark_write a.x q before j c.loop-s-test.true c.from-k.ensures s c.loop-s.invariant w.if-at-k-eq0.true
      | else-at-k-eq0 w ↦ w.at-is ∙ mark_keep a.x q before j c.loop-s-test.true c.from-k.ensures s c.loop-s.invariant w.if-at-k-eq0.false
    ]

pub returns : goal.returns
returns c =
    let a = c.args in
    let held = holder-read a.t.now a.x c.holder-h.ensures in
    let i = c.item-i.result in
    let q = take c.from.result i.queue in
    let all : take c.loop-s.s-index q ≡ take i.waiting i.queue = take_all c.loop-s.s-index q (omega arith) ∙ ap (λ (n : ℕ). take n i.queue) c.from.ensures in
    c.loop-s.invariant ∙ places-last a.t.now c.requires.1 (λ z. c.if-h-eq0.false (held ∙ z)) c.item-i.ensures q c.loop-s.s-index all
