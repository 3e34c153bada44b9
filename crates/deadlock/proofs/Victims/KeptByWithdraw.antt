-- A withdraw at an item: one cycle goes, and the cycles of the other victims stay.
use mathlib.Core.Path.{◌∙◌, ◌≡◌, ap, subst, sym}
use mathlib.Core.Bool.{true, true≢false}
use mathlib.Core.List.{[], ◌∷◌}
use mathlib.Core.Logic.{◌≢◌, ◌⊎◌, inl, inr}
use Prim.Native.Nat.{◌+◌, ◌≤◌, ℕ}
use native.Mathlib.Omega.{arith}
use Rattle.lists.proofs.Tests.{same?}
use Rattle.deadlock.specs.Lists.{occurs, without}
use Rattle.deadlock.specs.Machine.{down, Laws, Rules, up, withdraw, withdrawn}
use Rattle.message.specs.Kind
use Rattle.deadlock.specs.Counts.{cleans_sent, count_kind, every-cons, every-nil}
use Rattle.deadlock.specs.Links.{awaits}
use Rattle.deadlock.specs.Walks.{FirstApart, rest, Walk}
use Rattle.deadlock.specs.World.{CleanUnderWay, CycleMate, CycleOf, Edge, is_victim, is_cleaning, is_waiting, Known, Mail, Queued, stage_of, VictimIn, Victims, World}
use Rattle.deadlock.proofs.Laws.Lists.{occurs-without-same, updated-same}
use Rattle.deadlock.proofs.Laws.Stages.{awaits-item, awaits-one, seen-facts, stage-facts}
use Rattle.deadlock.proofs.Laws.Counts.{cleansOf-sentTo}
use Rattle.deadlock.proofs.Laws.Walks.{cycle-back, cycle-next}
use Rattle.deadlock.proofs.Victims.OneOnCycle.{one-edge, one-victim}
use Rattle.deadlock.proofs.Probes.PathsStay.{ItemTakes, withdrawnItem, worldAfterItem}
use Rattle.deadlock.proofs.Probes.KeptByWithdraw.{edge-back, holder-same, queue-keep, queue_le, withdraws-stage}
use Rattle.deadlock.proofs.Victims.CyclesStay.{CycleStays, item-victims}
use Rattle.deadlock.proofs.Victims.KeptAtItem.{noAborts-ofAbort}

module _ {R : Rules} (L : Laws R) {w : World} (known : Known R w) {t x : ℕ} (lo : 1 ≤ x) (hi : x ≤ R.M)
    {mail : Mail} (ar : ItemTakes w t x (up withdraw) ((t, down withdrawn) ∷ []) mail) where
  abbrev pub after : World
  after = worldAfterItem w x (withdrawnItem w t x) mail

  pub withdraws-victim : VictimIn w t
  withdraws-victim = (withdraws-stage known lo hi ar).0

  withdraws-awaits : 1 ≤ awaits (stage_of w t) x
  unfolding count_kind
  withdraws-awaits = let k = known.links.linked t x lo hi in let s = seen-facts (stage_of w t) x in omega (arith, ap (count_kind Kind.withdraw) ar.head)

  pub withdraw-edge-back : (a b : ℕ) → Edge R after a b → Edge R w a b
  withdraw-edge-back = edge-back known lo hi ar

  pub withdraw-leaves : (z : ℕ) → 1 ≤ z → z ≤ R.M → Queued after t z → ⊥
  withdraw-leaves z lo' hi' s =
      let f = known.links.linked t z lo' hi' in
      let g = known.links.linked t x lo hi in
      let old : Queued w t z = omega (arith, s, queue_le known lo hi ar t z (same? x z)) in
      let q : z ≡ x = awaits-one (awaits-item (stage_of w t) z (omega arith)) (awaits-item (stage_of w t) x withdraws-awaits) in
      let s2 : Queued after t x = subst (λ (u : ℕ). Queued after t u) q s in
      let s3 : 1 ≤ occurs t (without t (w.item x).queue) = rw updated-same at s2 in
      omega (arith, occurs-without-same t (w.item x).queue, seen-facts (stage_of w t) x)

  pub withdraw-stays : (v : ℕ) → FirstApart (Edge R w) v v → (Walk (Edge R w) v t → ⊥) → CycleStays known (withdrawnItem w t x) lo hi ar v
  withdraw-stays v g off = record {
    cycle = g;
    edge_stays = λ u b y e.
        let ne : u ≢ t = λ q. off (subst (λ (z : ℕ). Walk (Edge R w) v z) q y) in
        (omega (arith, e.stands, queue-keep known lo hi ar u e.item ne (same? x e.item)), holder-same known lo hi ar e.item (same? x e.item) ∙ e.held);
    edge-back = λ u b _. withdraw-edge-back u b;
  }

  -- the victim on whose cycle t lies is t
  victim-of-cycle : (v h : ℕ) → VictimIn w v → (e : Edge R w v h) → Walk (Edge R w) v t → v ≡ t
  victim-of-cycle v h i e y = let g = cycle-next (one-edge known.links) (known.victims.victim-on-cycle v h i e).cycle y in one-victim known v t t i withdraws-victim e g.out y rest

  withdraw-stays-victim : (v h : ℕ) → VictimIn w v → Edge R after v h → CycleStays known (withdrawnItem w t x) lo hi ar v
  withdraw-stays-victim v h i e = withdraw-stays v (known.victims.victim-on-cycle v h i (withdraw-edge-back v h e)).cycle
      (λ y. withdraw-leaves e.item e.low e.high (subst (λ (z : ℕ). Queued after z e.item) (victim-of-cycle v h i (withdraw-edge-back v h e) y) e.stands))

  pub withdraw-stays-clean : (v : ℕ) → CleanUnderWay w v → CycleStays known (withdrawnItem w t x) lo hi ar v
  withdraw-stays-clean v s =
      let e = known.victims.victim-waits v s in
      let i : VictimIn w v = omega (arith, s, stage-facts (stage_of w v)) in
      withdraw-stays v (known.victims.victim-on-cycle v e.0 i e.1).cycle (λ y. omega (arith, s, ap (λ (z : ℕ). is_cleaning (stage_of w z)) (victim-of-cycle v e.0 i e.1 y), (withdraws-stage known lo hi ar).1))

  withdraw-stays-abort : (a : ℕ) → 1 ≤ is_waiting (stage_of w a) → CycleOf R w a (λ u. R.senior u a ≡ true) → CycleStays known (withdrawnItem w t x) lo hi ar a
  withdraw-stays-abort a s r = withdraw-stays a r.cycle off
    where
      not-victim : t ≢ a
      not-victim q = omega (arith, s, stage-facts (stage_of w a), withdraws-victim, ap (λ (z : ℕ). is_victim (stage_of w z)) q)

      off : Walk (Edge R w) a t → ⊥
      off y = cases (r.others t y)
        where
          e : FirstApart (Edge R w) t a
          e = cycle-next (one-edge known.links) r.cycle y

          cases : (t ≡ a) ⊎ (R.senior t a ≡ true) → ⊥
          cases (inl q) = not-victim q
          cases (inr sn) = cases_next ((known.victims.victim-on-cycle t e.next withdraws-victim e.out).others a (cycle-back (one-edge known.links) r.cycle y))
            where
              cases_next : (a ≡ t) ⊎ CycleMate R w t a → ⊥
              cases_next (inl q) = not-victim (sym q)
              cases_next (inr q) = true≢false (sym (L.transitive t a t sn q.1) ∙ L.irreflexive t)

  pub withdraw-victims : ((v : ℕ) → mail.total v + 0 ≡ w.total v + cleans_sent v ((t, down withdrawn) ∷ [])) → Victims R after
  unfolding cleans_sent
  withdraw-victims tots = item-victims known (withdrawnItem w t x) lo hi ar withdraw-stays-victim withdraw-stays-clean withdraw-stays-abort tots (λ v. omega arith)
      (λ v a p. absurd (omega (arith, p, cleansOf-sentTo v a ((t, down withdrawn) ∷ [])))) (λ a. noAborts-ofAbort R after a (every-cons tt every-nil))
      (λ v z s p. omega (arith, p, queue_le known lo hi ar v z (same? x z)))
