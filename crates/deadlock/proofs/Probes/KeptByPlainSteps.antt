-- Steps of a session that move no clean and make no victim keep the clauses on probes.
use mathlib.Core.Path.{◌≡◌, ap}
use mathlib.Core.Bool.{true}
use mathlib.Core.List.{[], ◌++◌, ◌∷◌, List}
use mathlib.Core.Logic.{◌≢◌, ◌⊎◌, inl, inr}
use Prim.Native.Nat.{◌≤◌, ℕ}
use native.Mathlib.Omega.{arith}
use lib.Dec.{eqb}
use Rattle.lists.proofs.Tests.{by-test, eqb_self, same?}
use Rattle.deadlock.specs.Lists.{bit, occurs}
use Rattle.deadlock.specs.Machine.{is_live, junior, Laws, Message, Rules, Sends, SessionStep}
use Rattle.message.specs.Kind
use Rattle.deadlock.specs.Counts.{behind_request, cleans_of, count_kind, EachBehind, Every, every-cons, every-nil, OfProbe, sent_to}
use Rattle.deadlock.specs.Walks.{onward_path, Path}
use Rattle.deadlock.specs.World.{CameTo, ClearEdge, Edge, is_victim, Known, Live, Mail, MustAvoidDown, Passed, Probes, stage_of, TellsDown, TellsUp, ToldOf, VictimIn, World}
use Rattle.deadlock.proofs.Laws.Lists.{zero-or-more}
use Rattle.deadlock.proofs.Laws.Routes.{countKind-append}
use Rattle.deadlock.proofs.Laws.Seniority.{not-senior-refl, not-senior-trans, senior-not-senior}
use Rattle.deadlock.proofs.Laws.Counts.{AllTell, behind-map, behind-same, behindRequest-append, behindRequest-behind, behindRequest-new, cleansOf-append, every-behind, every-head, every_map, every-tail, ofProbe-map}
use Rattle.deadlock.proofs.Laws.Walks.{cycle-one-way-in, first-edge-of, lastApart-walk, walk-map}
use Rattle.deadlock.proofs.Victims.OneOnCycle.{came-map, clean-down-is, clear-edges, one-edge, same-item-edge, told-map}
use Rattle.deadlock.proofs.Probes.OthersStay.{session-probes, SessionSends, stage-other, stage-own, worldAfterSession}

abbrev pub StoredTold : Rules → World → ℕ → ℕ → ℕ → Type 0
StoredTold R w t i j = ToldOf R w i j t (λ v. Passed R w v t)

allTell-sentTo : (K : ℕ → ℕ → Type 0) (z : ℕ) (l : Sends) → AllTell K l → Every (OfProbe K) (sent_to z l)
unfolding AllTell sent_to
allTell-sentTo K z [] h = every-nil
allTell-sentTo K z (p ∷ l) h = by-test (Every (OfProbe K)) (eqb z p.0) (λ e. every-cons (every-head h) (allTell-sentTo K z l (every-tail h))) (λ e. allTell-sentTo K z l (every-tail h))

-- where a victim's clean has passed t, no clean is on its way to t
module _ {R : Rules} (L : Laws R) {w : World} (known : Known R w) where
  passed-no-clean : (v t x : ℕ) → Passed R w v t → count_kind Kind.clean (w.down t x) ≡ 0
  passed-no-clean v t x p = cases (zero-or-more (count_kind Kind.clean (w.down t x)))
    where
      cases : (count_kind Kind.clean (w.down t x) ≡ 0) ⊎ (1 ≤ count_kind Kind.clean (w.down t x)) → count_kind Kind.clean (w.down t x) ≡ 0
      cases (inl z) = z
      cases (inr z) =
          let q = clear-edges R w v t p.past in
          let f = first-edge-of q in
          let k = clean-down-is known v t x p.is-victim f.1 (lastApart-walk q) z in
          let c = known.victims.clean-down-on-cycle v t x k in
          let e : Edge R w c.from t = record { item = x; low = c.low; high = c.high; stands = c.stands; held = c.held } in
          let y : p.past.from ≡ c.from = cycle-one-way-in (one-edge known.links) (known.victims.victim-on-cycle v f.0 p.is-victim f.1).cycle q.walk c.walk q.last e in
          let d : ClearEdge R w v c.from t = rw y at p.past.last in
          let g : d.edge.item ≡ x = same-item-edge known.links c.from t t d.edge e in
          absurd (omega (arith, rw g at d.under))

  -- what a session stores of a probe that it takes is true
  pub probe-heard : (i j t x : ℕ) (q : List Message) → count_kind Kind.clean q ≤ count_kind Kind.clean (w.down t x)
      → CameTo R w i j t x (MustAvoidDown R w t x q) → StoredTold R w t i (junior R j t)
  unfolding junior occurs
  probe-heard i j t x q b c =
      let e : Edge R w c.from t = record { item = x; low = c.low; high = c.high; stands = c.stands; held = c.held } in
      let path : Path (Edge R w) i t (c.from ∷ c.places) = onward_path c.path e in
      let avoid : (v : ℕ) → Passed R w v t → occurs v (c.from ∷ c.places) ≡ 0 = λ v p. c.avoid v (omega (arith, passed-no-clean v t x p), inl p) in
      by-test (StoredTold R w t i) (R.senior j t) {x = t} {y = j}
      (λ sn. record {
        places = c.from ∷ c.places;
        path = path;
        avoid = avoid;
        ranks = record {
          junior_to_all = every_map (λ y k. not-senior-trans R L t j y (senior-not-senior R L j t sn) k) c.ranks.junior_to_all;
          senior_to_all = c.ranks.senior_to_all;
          has-junior = omega (arith, ap bit (eqb_self t));
          end-not-senior = c.ranks.end-not-senior;
        };
        last = not-senior-refl R L t;
      })
      (λ sn. record { places = c.from ∷ c.places; path = path; avoid = avoid; ranks = c.ranks; last = sn })

-- an edge that is clear now was clear before, but for a clean taken
module _ (R : Rules) {w : World} {t : ℕ} (o : SessionStep) {mail : Mail} (acts : SessionSends w t o.sends mail) where
  abbrev pub afterStep : World
  afterStep = worldAfterSession w t o.after mail

  pub clear-edge-back : (v a b : ℕ) → (t ≡ b → (z : ℕ) → cleans_of v (w.down t z) ≡ cleans_of v (mail.down t z)) → ClearEdge R afterStep v a b → ClearEdge R w v a b
  clear-edge-back v a b cvd c = record { edge = c.edge; above = above_of (same? t a); under = under_of (same? t b) }
    where
      above_of : Dec (t ≡ a) → cleans_of v (w.up a c.edge.item) ≡ 0
      above_of (yes q) =
          rw (← q)
          (let k : cleans_of v (mail.up t c.edge.item) ≡ 0 = rw q c.above in omega (arith, ap (cleans_of v) (acts.up_at c.edge.item), cleansOf-append v (w.up t c.edge.item) (sent_to c.edge.item o.sends)))
      above_of (no q) = rw (← acts.up-off a c.edge.item q) c.above

      under_of : Dec (t ≡ b) → cleans_of v (w.down b c.edge.item) ≡ 0
      under_of (yes q) = rw (← q) (let k : cleans_of v (mail.down t c.edge.item) ≡ 0 = rw q c.under in omega (arith, cvd q c.edge.item))
      under_of (no q) = rw (← acts.down-off b c.edge.item q) c.under

module _ {R : Rules} (L : Laws R) {w : World} (known : Known R w) {t : ℕ} (o : SessionStep) {mail : Mail} (acts : SessionSends w t o.sends mail)
    (cvd : (v z : ℕ) → cleans_of v (w.down t z) ≡ cleans_of v (mail.down t z)) (vc : is_victim o.after.stage ≤ is_victim (stage_of w t)) where
  abbrev pub after : World
  after = worldAfterSession w t o.after mail

  plain-clear-back : (v a b : ℕ) → ClearEdge R after v a b → ClearEdge R w v a b
  plain-clear-back v a b = clear-edge-back R o acts v a b (λ _. cvd v)

  pub plain-passed-back : (v a : ℕ) → Passed R after v a → Passed R w v a
  plain-passed-back v a p = record { is-victim = victim-before (same? t v); past = record { from = p.past.from; walk = walk-map (plain-clear-back v) p.past.walk; last = plain-clear-back v p.past.from a p.past.last } }
    where
      victim-before : Dec (t ≡ v) → VictimIn w v
      victim-before (yes q) = rw (← q) (omega (arith, vc, p.is-victim, ap is_victim (stage-own R o acts), ap (λ (u : ℕ). is_victim (stage_of after u)) q))
      victim-before (no q) = omega (arith, p.is-victim, ap is_victim (stage-other R o acts v q))

  plain-told : {i j : ℕ} → StoredTold R w t i j → StoredTold R after t i j
  plain-told c = told-map R w after c c.path (λ v. plain-passed-back v t)

  module _ (dt : (Q : Message → List Message → Type 0) (z : ℕ) → EachBehind Q (w.down t z) → EachBehind Q (mail.down t z)) (lb : is_live o.after.stage ≡ true → Live w t)
      (stores : is_live o.after.stage ≡ true → (i : ℕ) → o.after.stored i ≢ 0 → StoredTold R w t i (o.after.stored i)) (sent : AllTell (StoredTold R w t) o.sends) where
    plain-sent-up : (z : ℕ) → EachBehind (TellsUp R after t) (sent_to z o.sends)
    plain-sent-up z = every-behind (λ m r. ofProbe-map (λ i j c. told-map R w after c c.path (λ v k. plain-passed-back v t k.1)) m) (allTell-sentTo (StoredTold R w t) z o.sends sent)

    plain-old-up : (z : ℕ) (q : List Message) → EachBehind (TellsUp R w t) q → EachBehind (TellsUp R after t) (q ++ sent_to z o.sends)
    plain-old-up z q h = behind-map (count_kind Kind.clean q) (sent_to z o.sends)
        (λ m r b. ofProbe-map (λ i j c. told-map R w after c c.path (λ v k. (omega (arith, k.0, countKind-append Kind.clean r (sent_to z o.sends)), plain-passed-back v t k.1))) m) (plain-sent-up z) (omega arith) h

    plain-behindRequest : (z : ℕ) → EachBehind (TellsUp R w t) (behind_request (w.up t z))
        → (count_kind Kind.request (w.up t z) ≡ 0) ⊎ (1 ≤ count_kind Kind.request (w.up t z))
        → EachBehind (TellsUp R after t) (behind_request (w.up t z ++ sent_to z o.sends))
    plain-behindRequest z h (inl k) = rw (behindRequest-new (w.up t z) (sent_to z o.sends) k) (behindRequest-behind (plain-sent-up z))
    plain-behindRequest z h (inr k) = rw (behindRequest-append (w.up t z) (sent_to z o.sends) k) (plain-old-up z (behind_request (w.up t z)) h)

    pub plain-probes : Probes R w → Probes R after
    plain-probes h = session-probes R o acts (λ v a _. plain-passed-back v a) (record {
      own-stored = λ l i ne. plain-told (stores l i ne);
      own-up = λ z lo hi s. plain-old-up z (w.up t z) (h.up-true t z lo hi s);
      own-behind-request = λ z lo hi. plain-behindRequest z (h.up-true-behind-request t z lo hi) (zero-or-more (count_kind Kind.request (w.up t z)));
      own-down = λ l z. dt (TellsDown R after t z) z (behind-same (count_kind Kind.clean (w.down t z))
          (λ m r b. ofProbe-map (λ i j c. came-map R w after c c.path c.stands c.held (λ v k. (k.0, avoid-old v z k.1))) m) (omega arith)
          (h.down-true t z (lb l)));
    }) h
      where
        avoid-old : (v z : ℕ) → Passed R after v t ⊎ (1 ≤ cleans_of v (mail.down t z)) → Passed R w v t ⊎ (1 ≤ cleans_of v (w.down t z))
        avoid-old v z (inl p) = inl (plain-passed-back v t p)
        avoid-old v z (inr p) = inr (omega (arith, cvd v z))
