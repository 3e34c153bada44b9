-- With no message left there is no cycle: from its most senior member a probe would be stored all the way round.
use mathlib.Core.Path.{◌≡◌, ap, refl, subst, sym}
use mathlib.Core.Bool.{Bool, cond, false, true}
use mathlib.Core.List.{[], ◌∷◌, List}
use mathlib.Core.Logic.{◌⊎◌, inl, inr}
use Prim.Native.Nat.{◌≤◌, ℕ}
use native.Mathlib.Omega.{arith}
use borrow.Author.Tests.{ne_eqb}
use Rattle.lists.proofs.Searches.{sum-none}
use Rattle.lists.proofs.Tests.{eqb_self, same?}
use Rattle.deadlock.specs.Lists.{bit, occurs}
use Rattle.deadlock.specs.Machine.{cleaning, growing, is_live, Laws, releasing, rolled_back, Rules, shrinking, Stage, victim, waiting, withdrawing}
use Rattle.message.specs.Kind
use Rattle.deadlock.specs.Counts.{count_kind, except, fresh_probes, unless_cleaned}
use Rattle.deadlock.specs.Links.{awaits, withdraws}
use Rattle.deadlock.specs.Walks.{FirstApart, LastApart, onward, rest, Walk}
use Rattle.deadlock.specs.World.{Edge, is_cleaning, is_victim, Links, Live, stage_of, VictimIn, Victims, World}
use Rattle.deadlock.specs.Coverage.{AbortPending, cleans_elsewhere, cleans_from_others, cleans_from_queue, Coverage, CycleDeclared, probe_reaches, rebroadcast_due, stores, under_way}
use Rattle.deadlock.proofs.Laws.Lists.{bit-eqb, bit-one}
use Rattle.deadlock.proofs.Laws.Stages.{seen-facts, stage-facts}
use Rattle.deadlock.proofs.Laws.Walks.{cycle-next, cycle-turned, path-has-cycle, path-prefix, walk-append, walk-lastApart, walk-path}
use Rattle.deadlock.proofs.Victims.OneOnCycle.{no-self-edge, one-edge}
use Rattle.deadlock.proofs.Coverage.Sums.{except-zero, sumOver-zero}

-- the most senior of a list
module _ (R : Rules) (L : Laws R) where
  record MostSenior (l : List ℕ) : Type 0 where
    pub top : ℕ
    pub is_member : 1 ≤ occurs top l
    pub senior-of-all : (u : ℕ) → 1 ≤ occurs u l → (u ≡ top) ⊎ (R.senior top u ≡ true)

  most-senior-of : (a : ℕ) (l : List ℕ) → MostSenior (a ∷ l)
  unfolding occurs
  most-senior-of a [] = record { top = a; is_member = omega (arith, ap bit (eqb_self a)); senior-of-all = λ u h. inl (sym (bit-eqb a u (omega arith))) }
  most-senior-of a (b ∷ l) = cases (most-senior-of b l)
    where
      cases : MostSenior (b ∷ l) → MostSenior (a ∷ b ∷ l)
      cases r = compare (R.senior a r.top) refl
        where
          compare : (c : Bool) → R.senior a r.top ≡ c → MostSenior (a ∷ b ∷ l)
          compare true e = record { top = a; is_member = omega (arith, ap bit (eqb_self a)); senior-of-all = λ u h. pick u (same? a u) h }
            where
              higher : (u : ℕ) → (u ≡ r.top) ⊎ (R.senior r.top u ≡ true) → (u ≡ a) ⊎ (R.senior a u ≡ true)
              higher u (inl q) = inr (subst (λ (z : ℕ). R.senior a z ≡ true) (sym q) e)
              higher u (inr q) = inr (L.transitive a r.top u e q)

              pick : (u : ℕ) → Dec (a ≡ u) → 1 ≤ occurs u (a ∷ b ∷ l) → (u ≡ a) ⊎ (R.senior a u ≡ true)
              pick u (yes q) h = inl (sym q)
              pick u (no q) h = higher u (r.senior-of-all u (omega (arith, h, ap bit (ne_eqb a u q))))
          compare false e = record { top = r.top; is_member = omega (arith, r.is_member); senior-of-all = λ u h. pick u (same? a u) h }
            where
              compared : (c : Bool) → R.senior r.top a ≡ c → (a ≡ r.top) ⊎ (R.senior r.top a ≡ true)
              compared true k = inr k
              compared false k = inl (L.total a r.top e k)

              pick : (u : ℕ) → Dec (a ≡ u) → 1 ≤ occurs u (a ∷ b ∷ l) → (u ≡ r.top) ⊎ (R.senior r.top u ≡ true)
              pick u (yes q) h = subst (λ (z : ℕ). (z ≡ r.top) ⊎ (R.senior r.top z ≡ true)) q (compared (R.senior r.top a) refl)
              pick u (no q) h = r.senior-of-all u (omega (arith, h, ap bit (ne_eqb a u q)))

module _ {R : Rules} (L : Laws R) {w : World} (lk : Links R w) (vs : Victims R w) (cov : Coverage R w)
    (up0 : (a z : ℕ) → w.up a z ≡ []) (down0 : (a z : ℕ) → w.down a z ≡ []) (tot0 : (v : ℕ) → w.total v ≡ 0) where
  -- no victim stands in a queue
  no-victim-queued : (v h : ℕ) → Edge R w v h → is_victim (stage_of w v) ≡ 0
  unfolding count_kind
  no-victim-queued v h e = cases (stage_of w v) (let k = lk.linked v e.item e.low e.high in omega (arith, e.stands)) (omega (arith, tot0 v, vs.one-clean v))
      (let k = lk.linked v e.item e.low e.high in omega
      (arith, ap (count_kind Kind.withdraw) (up0 v e.item), ap (count_kind Kind.withdrawn) (down0 v e.item)))
    where
      cases : (s : Stage) → 1 ≤ awaits s e.item → is_cleaning s ≡ 0 → withdraws s e.item ≡ 0 → is_victim s ≡ 0
      cases growing a b c = refl
      cases (releasing shrinking) a b c = refl
      cases (releasing rolled_back) a b c = refl
      cases (waiting y) a b c = refl
      cases (victim cleaning y) a b c = b
      cases (victim withdrawing y) a b c = absurd (omega (arith, a, c))

  queued-is-live : (v h : ℕ) → Edge R w v h → Live w v
  queued-is-live v h e = let k = lk.linked v e.item e.low e.high in bit-one (is_live (stage_of w v)) (omega (arith, no-victim-queued v h e, e.stands, seen-facts (stage_of w v) e.item, stage-facts (stage_of w v)))

  no-self-wait : (v : ℕ) → Edge R w v v → ⊥
  no-self-wait v e = no-self-edge lk v e (queued-is-live v v e)

  no-rebroadcastDue : (z h : ℕ) → rebroadcast_due R w z h ≡ 0
  unfolding rebroadcast_due cleans_elsewhere count_kind
  no-rebroadcastDue z h = omega (arith, ap (count_kind Kind.rebroadcast) (up0 h z), cases ((w.session h).held z))
    where
      cases : (b : Bool) → cond b (cleans_elsewhere R w h z) 0 ≡ 0
      cases true = sum-none (except z (λ y. count_kind Kind.clean (w.down h y))) (λ y. except-zero z (λ y. count_kind Kind.clean (w.down h y)) y (ap (count_kind Kind.clean) (down0 h y))) R.M
      cases false = refl

  no-cleansFromQueue : (z : ℕ) → cleans_from_queue R w z ≡ 0
  unfolding cleans_from_queue count_kind
  no-cleansFromQueue z = sumOver-zero _ (λ a. ap (count_kind Kind.clean) (up0 a z)) (w.item z).queue

  no-cleansFromOthers : (a z : ℕ) → cleans_from_others R w a z ≡ 0
  unfolding cleans_from_others count_kind
  no-cleansFromOthers a z = sumOver-zero _ (λ b. except-zero a (λ c. count_kind Kind.clean (w.up c z)) b (ap (count_kind Kind.clean) (up0 b z))) (w.item z).queue

  probeReaches-stored : (i z h : ℕ) → probe_reaches R w i z h ≡ stores w h i
  unfolding probe_reaches fresh_probes unless_cleaned count_kind
  probeReaches-stored i z h = rw (down0 h z) (omega arith)

  unlessCleaned-stored : (i a z h : ℕ) → unless_cleaned (count_kind Kind.clean (w.up a z)) (probe_reaches R w i z h) ≡ stores w h i
  unfolding unless_cleaned count_kind
  unlessCleaned-stored i a z h = rw (up0 a z) (probeReaches-stored i z h)

  stored-at-next : (t h : ℕ) → Edge R w t h → Live w h → R.senior t h ≡ true → 1 ≤ stores w h t
  stored-at-next t h e l s = omega (arith, cov.own-probe t e.item h e.low e.high e.stands e.held l s, no-rebroadcastDue e.item h, no-cleansFromQueue e.item, probeReaches-stored t e.item h)

  stored-passed-on : (t h i : ℕ) → Edge R w t h → Live w h → R.senior i h ≡ true
      → stores w t i ≤ stores w h i
  unfolding fresh_probes count_kind
  stored-passed-on t h i e l s =
      omega (
        arith,
        cov.stored_forwarded t e.item h i e.low e.high e.stands e.held l s,
        no-rebroadcastDue e.item h,
        no-cleansFromOthers t e.item,
        unlessCleaned-stored i t e.item h,
        ap (count_kind Kind.resend) (down0 t e.item),
        ap (fresh_probes i) (up0 t e.item),
      )

  not-stored-at-initiator : (t h : ℕ) → Edge R w t h → Live w h → stores w t h ≡ 0
  unfolding fresh_probes count_kind
  not-stored-at-initiator t h e l = cases (cov.initiator_or_declared t e.item h e.low e.high e.stands e.held l)
    where
      cases : (stores w t h ≤ under_way R w t e.item h h) ⊎ CycleDeclared R w t
          → stores w t h ≡ 0
      cases (inl k) = omega (arith, k, no-rebroadcastDue e.item h, no-cleansFromOthers t e.item, ap (count_kind Kind.resend) (down0 t e.item), ap (fresh_probes h) (up0 t e.item))
      cases (inr d) = never d.how
        where
          never : VictimIn w d.place ⊎ AbortPending R w d.place → stores w t h ≡ 0
          never (inl v) = let g = cycle-next (one-edge lk) d.cycle d.walk in absurd (omega (arith, v, no-victim-queued d.place g.next g.out))
          never (inr p) = absurd (omega (arith, p.sent, ap (count_kind Kind.abort) (down0 d.place p.item)))

  -- from the most senior member of a cycle its probe is stored all the way round
  module _ (i : ℕ) (loop : FirstApart (Edge R w) i i) (top : (u : ℕ) → Walk (Edge R w) i u → (u ≡ i) ⊎ (R.senior i u ≡ true)) where
    cycle-is-live : {u : ℕ} → Walk (Edge R w) i u → Live w u
    cycle-is-live {u} y = let g = cycle-next (one-edge lk) loop y in queued-is-live u g.next g.out

    stored-round : {u : ℕ} → Walk (Edge R w) i u → (u ≡ i) ⊎ (1 ≤ stores w u i)
    stored-round rest = inl refl
    stored-round (onward {u = a} {t = u} y e) = cases (top u (onward y e)) (stored-round y)
      where
        cases : (u ≡ i) ⊎ (R.senior i u ≡ true) → (a ≡ i) ⊎ (1 ≤ stores w a i) → (u ≡ i) ⊎ (1 ≤ stores w u i)
        cases (inl q) k = inl q
        cases (inr s) (inl q) = inr (stored-at-next i u (subst (λ (z : ℕ). Edge R w z u) q e) (cycle-is-live (onward y e)) s)
        cases (inr s) (inr k) = inr (omega (arith, k, stored-passed-on a u i e (cycle-is-live (onward y e)) s))

    no-cycle-from-senior : ⊥
    no-cycle-from-senior = cases (walk-lastApart loop.walk)
      where
        last : (a : ℕ) → Walk (Edge R w) i a → Edge R w a i → (a ≡ i) ⊎ (1 ≤ stores w a i) → ⊥
        last a y e (inl q) = no-self-wait i (subst (λ (z : ℕ). Edge R w z i) q e)
        last a y e (inr k) = omega (arith, k, not-stored-at-initiator a i e (cycle-is-live rest))

        cases : (loop.next ≡ i) ⊎ LastApart (Edge R w) loop.next i → ⊥
        cases (inl q) = no-self-wait i (subst (λ (z : ℕ). Edge R w i z) q loop.out)
        cases (inr p) = let y = walk-append (onward rest loop.out) p.walk in last p.from y p.last (stored-round y)

  pub has_no_cycle : (v : ℕ) → FirstApart (Edge R w) v v → ⊥
  has_no_cycle v g =
      let r = walk-path g.walk in
      let m = most-senior-of R L v r.0 in
      let yi = path-prefix m.top r.1 m.is_member in
      let vi : Walk (Edge R w) v m.top = walk-append (onward rest g.out) yi in
      no-cycle-from-senior m.top (cycle-turned (one-edge lk) g vi)
      (λ u y. m.senior-of-all u (path-has-cycle (one-edge lk) r.1 g.out u (walk-append yi y)))
