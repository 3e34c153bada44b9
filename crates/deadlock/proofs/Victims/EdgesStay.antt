-- What a session's step leaves of the clauses on victims: the edges stay, and one stage changes.
use mathlib.Core.Path.{◌∙◌, ◌≡◌, ap, subst, sym}
use mathlib.Core.Bool.{true, true≢false}
use mathlib.Core.List.{[], ◌++◌, append-nil, List}
use mathlib.Core.Logic.{◌≢◌, ◌⊎◌, inl, inr}
use Prim.Native.Nat.{◌≤◌, ℕ}
use native.Mathlib.Omega.{arith}
use Rattle.lists.proofs.Tests.{same?}
use Rattle.deadlock.specs.Machine.{Laws, Message, Rules, SessionStep, Stage}
use Rattle.message.specs.Kind
use Rattle.deadlock.specs.Counts.{cleans_of, cleans_sent, count_kind, EachBehind, Every, OfProbe, sent_to}
use Rattle.deadlock.specs.Walks.{Walk}
use Rattle.deadlock.specs.World.{AbortTo, CleanGoesDown, CleanGoesUp, CleanUnderWay, CycleMate, CycleOf, Edge, is_victim, is_cleaning, is_waiting, Known, Mail, OfAbort, Queued, stage_of, VictimIn, Victims, World}
use Rattle.deadlock.proofs.Laws.Lists.{zero-or-more}
use Rattle.deadlock.proofs.Laws.Counts.{cleansOf-append, cleansOf-sentTo, every_map}
use Rattle.deadlock.proofs.Laws.Walks.{cycle-next}
use Rattle.deadlock.proofs.Victims.OneOnCycle.{one-edge}
use Rattle.deadlock.proofs.Victims.CyclesStay.{abortTo-map, ofAbort-map}
use Rattle.deadlock.proofs.Probes.OthersStay.{SessionSends, stage-other, stage-own, worldAfterSession}

abbrev pub CleanBehind : Message → List Message → Type 0
CleanBehind m r = OfProbe (λ _ _. 1 ≤ count_kind Kind.clean r) m

module _ {R : Rules} (L : Laws R) {w : World} (known : Known R w) {t : ℕ} (o : SessionStep) {mail : Mail} (acts : SessionSends w t o.sends mail) where
  abbrev pub after : World
  after = worldAfterSession w t o.after mail

  cycle : {v : ℕ} {P Q : ℕ → Type 0} → ((u : ℕ) → Walk (Edge R w) v u → P u → Q u) → CycleOf R w v P → CycleOf R after v Q
  cycle {v} {P} {Q} f r = record { cycle = r.cycle; others = λ u y. cases u y (r.others u y) }
    where
      cases : (u : ℕ) → Walk (Edge R w) v u → (u ≡ v) ⊎ P u → (u ≡ v) ⊎ Q u
      cases u y (inl q) = inl q
      cases u y (inr p) = inr (f u y p)

  abort-after : (a : ℕ) (s : Stage) → AbortTo R w a s → AbortTo R after a s
  abort-after a s = abortTo-map R w after a s (λ _. cycle (λ u y p. p))

  -- the aborts on their way to the session, if its new stage is as good for one as its old stage
  pub own-aborts-kept : (AbortTo R w t (stage_of w t) → AbortTo R w t o.after.stage)
      → ((z : ℕ) → Every (OfAbort R after t) (w.down t z) → Every (OfAbort R after t) (mail.down t z)) → (z : ℕ) → Every (OfAbort R after t) (mail.down t z)
  own-aborts-kept f each z = each z (every_map (ofAbort-map R w after t (λ b. subst (AbortTo R after t) (sym (stage-own R o acts)) (abort-after t o.after.stage (f b)))) (known.victims.aborts t z))

  -- what a session's step has to keep: its part in the cycles of victims, the count of cleans, where a new clean goes, aborts on their way, and its own messages
  pub record VictimsMove : Type 0 where
    pub mate-waits : (v h : ℕ) → t ≢ v → VictimIn w v → Edge R w v h → Walk (Edge R w) v t → 1 ≤ is_waiting (stage_of w t)
        → 1 ≤ is_waiting o.after.stage
    pub own-on-cycle : (h : ℕ) → 1 ≤ is_victim o.after.stage → Edge R w t h → CycleOf R w t (CycleMate R w t)
    pub own-waits : 1 ≤ is_cleaning o.after.stage → (h : ℕ) × Edge R w t h
    pub total-own : mail.total t ≡ is_cleaning o.after.stage
    pub total-other : (v : ℕ) → t ≢ v → mail.total v ≡ w.total v
    pub new-clean : (v z : ℕ) → 1 ≤ cleans_of v (sent_to z o.sends) → CleanGoesUp R w v t z
    pub down_le : (v z : ℕ) → cleans_of v (mail.down t z) ≤ cleans_of v (w.down t z)
    pub own-aborts : (z : ℕ) → Every (OfAbort R after t) (mail.down t z)
    pub own-no-request : 1 ≤ is_victim o.after.stage → (z : ℕ) → 1 ≤ z → z ≤ R.M → count_kind Kind.request (w.up t z ++ sent_to z o.sends) ≡ 0
    pub own-clean-behind : 1 ≤ is_victim o.after.stage → (z : ℕ) → 1 ≤ z → z ≤ R.M → Queued w t z
        → EachBehind CleanBehind (w.up t z ++ sent_to z o.sends)

  pub session-victims : VictimsMove → Victims R after
  session-victims k = record {
    one-clean = λ v. clean-count v (same? t v);
    victim-on-cycle = λ v h s e. on-cycle_of v h s e (same? t v);
    victim-waits = λ v s. waits-of v s (same? t v);
    clean-up-on-cycle = λ v a z p. clean-up-of v a z p (same? t a);
    clean-down-on-cycle = λ v a z p. clean-down-of v a z p (same? t a);
    aborts = λ a z. aborts-of a z (same? t a);
    no_request = λ v z lo hi s. no-request-of v z lo hi s (same? t v);
    clean-behind-probes = λ v z lo hi s p. clean-behind-of v z lo hi s p (same? t v);
  }
    where
      own : (f : Stage → ℕ) → f (stage_of after t) ≡ f o.after.stage
      own f = ap f (stage-own R o acts)

      off : (f : Stage → ℕ) (a : ℕ) → t ≢ a → f (stage_of after a) ≡ f (stage_of w a)
      off f a q = ap f (stage-other R o acts a q)

      stage_at : (f : Stage → ℕ) (a : ℕ) → t ≡ a → f (stage_of after a) ≡ f o.after.stage
      stage_at f a q = ap (λ (z : ℕ). f (stage_of after z)) (sym q) ∙ own f

      clean-count : (v : ℕ) → Dec (t ≡ v) → mail.total v ≡ is_cleaning (stage_of after v)
      clean-count v (yes q) = omega (arith, k.total-own, stage_at is_cleaning v q, ap mail.total q)
      clean-count v (no q) = omega (arith, k.total-other v q, known.victims.one-clean v, off is_cleaning v q)

      on-cycle_of : (v h : ℕ) → VictimIn after v → Edge R w v h → Dec (t ≡ v) → CycleOf R after v (CycleMate R after v)
      on-cycle_of v h s e (no q) =
          let s0 : VictimIn w v = omega (arith, s, off is_victim v q) in
          cycle (λ u y p. (two-of u (same? t u) y p.0, p.1)) (known.victims.victim-on-cycle v h s0 e)
        where
          old-victim : VictimIn w v
          old-victim = omega (arith, s, off is_victim v q)

          two-of : (u : ℕ) → Dec (t ≡ u) → Walk (Edge R w) v u → 1 ≤ is_waiting (stage_of w u) → 1 ≤ is_waiting (stage_of after u)
          two-of u (yes z) y p = omega (arith, stage_at is_waiting u z, k.mate-waits v h q old-victim e (subst (λ (a : ℕ). Walk (Edge R w) v a) (sym z) y) (subst (λ (a : ℕ). 1 ≤ is_waiting (stage_of w a)) (sym z) p))
          two-of u (no z) y p = omega (arith, p, off is_waiting u z)
      on-cycle_of v h s e (yes q) = rw (← q) (cycle (λ u y p. (two-of u (same? t u) p.0 p.1, p.1)) (k.own-on-cycle h (omega (arith, s, stage_at is_victim v q)) (subst (λ (a : ℕ). Edge R w a h) (sym q) e)))
        where
          two-of : (u : ℕ) → Dec (t ≡ u) → 1 ≤ is_waiting (stage_of w u) → R.senior u t ≡ true → 1 ≤ is_waiting (stage_of after u)
          two-of u (yes z) p sn = absurd (true≢false (sym (subst (λ (a : ℕ). R.senior a t ≡ true) (sym z) sn) ∙ L.irreflexive t))
          two-of u (no z) p sn = omega (arith, p, off is_waiting u z)

      waits-of : (v : ℕ) → CleanUnderWay after v → Dec (t ≡ v) → (h : ℕ) × Edge R w v h
      waits-of v s (yes q) = rw (← q) (k.own-waits (omega (arith, s, stage_at is_cleaning v q)))
      waits-of v s (no q) = known.victims.victim-waits v (omega (arith, s, off is_cleaning v q))

      up_of : {v a z : ℕ} → CleanGoesUp R w v a z → CleanGoesUp R after v a z
      up_of c = record { low = c.low; high = c.high; stands = c.stands; walk = c.walk }

      down-of : {v a z : ℕ} → CleanGoesDown R w v a z → CleanGoesDown R after v a z
      down-of c = record { low = c.low; high = c.high; held = c.held; from = c.from; stands = c.stands; walk = c.walk }

      clean-up-of : (v a z : ℕ) → 1 ≤ cleans_of v (mail.up a z) → Dec (t ≡ a) → CleanGoesUp R after v a z
      clean-up-of v a z p (no q) = up_of (known.victims.clean-up-on-cycle v a z (omega (arith, p, ap (cleans_of v) (acts.up-off a z q))))
      clean-up-of v a z p (yes q) = rw (← q) (cases (zero-or-more (cleans_of v (w.up t z))))
        where
          cases : (cleans_of v (w.up t z) ≡ 0) ⊎ (1 ≤ cleans_of v (w.up t z)) → CleanGoesUp R after v t z
          cases (inr y) = up_of (known.victims.clean-up-on-cycle v t z y)
          cases (inl y) = let p2 : 1 ≤ cleans_of v (mail.up t z) = rw q p in up_of (k.new-clean v z (omega (arith, ap (cleans_of v) (acts.up_at z), cleansOf-append v (w.up t z) (sent_to z o.sends))))

      clean-down-of : (v a z : ℕ) → 1 ≤ cleans_of v (mail.down a z) → Dec (t ≡ a) → CleanGoesDown R after v a z
      clean-down-of v a z p (no q) = down-of (known.victims.clean-down-on-cycle v a z (omega (arith, p, ap (cleans_of v) (acts.down-off a z q))))
      clean-down-of v a z p (yes q) = rw (← q) (let p2 : 1 ≤ cleans_of v (mail.down t z) = rw q p in down-of (known.victims.clean-down-on-cycle v t z (omega (arith, p2, k.down_le v z))))

      aborts-of : (a z : ℕ) → Dec (t ≡ a) → Every (OfAbort R after a) (mail.down a z)
      aborts-of a z (no q) =
          rw (acts.down-off a z q) (every_map (ofAbort-map R w after a (λ b. subst (AbortTo R after a) (sym (stage-other R o acts a q)) (abort-after a (stage_of w a) b))) (known.victims.aborts a z))
      aborts-of a z (yes q) = rw (← q) (k.own-aborts z)

      no-request-of : (v z : ℕ) → 1 ≤ z → z ≤ R.M → VictimIn after v → Dec (t ≡ v) → count_kind Kind.request (mail.up v z) ≡ 0
      no-request-of v z lo hi s (yes q) = rw (← q) (omega (arith, ap (count_kind Kind.request) (acts.up_at z), k.own-no-request (omega (arith, s, stage_at is_victim v q)) z lo hi))
      no-request-of v z lo hi s (no q) = omega (arith, ap (count_kind Kind.request) (acts.up-off v z q), known.victims.no_request v z lo hi (omega (arith, s, off is_victim v q)))

      clean-behind-of : (v z : ℕ) → 1 ≤ z → z ≤ R.M → VictimIn after v → Queued w v z → Dec (t ≡ v)
          → EachBehind CleanBehind (mail.up v z)
      clean-behind-of v z lo hi s p (yes q) = rw (← q, acts.up_at z) (k.own-clean-behind (omega (arith, s, stage_at is_victim v q)) z lo hi (rw q p))
      clean-behind-of v z lo hi s p (no q) = rw (acts.up-off v z q) (known.victims.clean-behind-probes v z lo hi (omega (arith, s, off is_victim v q)) p)

-- ---- steps that move no clean and make no victim
module _ {R : Rules} (L : Laws R) {w : World} (known : Known R w) {t : ℕ} (o : SessionStep) {mail : Mail} (acts : SessionSends w t o.sends mail) where
  abbrev pub afterPlain : World
  afterPlain = worldAfterSession w t o.after mail

  pub plain-victims : (is_victim o.after.stage ≤ is_victim (stage_of w t)) → is_cleaning o.after.stage ≡ is_cleaning (stage_of w t)
      → ((h : ℕ) → Edge R w t h → 1 ≤ is_waiting (stage_of w t) → 1 ≤ is_waiting o.after.stage)
      → (AbortTo R w t (stage_of w t) → AbortTo R w t o.after.stage) → ((v : ℕ) → mail.total v ≡ w.total v) → ((v : ℕ) → cleans_sent v o.sends ≡ 0)
      → (1 ≤ is_victim o.after.stage → o.sends ≡ [])
      → ((v z : ℕ) → cleans_of v (w.down t z) ≡ cleans_of v (mail.down t z))
      → ((z : ℕ) → Every (OfAbort R afterPlain t) (w.down t z) → Every (OfAbort R afterPlain t) (mail.down t z)) → Victims R afterPlain
  unfolding sent_to
  plain-victims vc fc keep ab tots z nil cvd de = session-victims L known o acts (record {
    mate-waits = λ v h q s e y. let g = cycle-next (one-edge known.links) (known.victims.victim-on-cycle v h s e).cycle y in keep g.next g.out;
    own-on-cycle = λ h s e. known.victims.victim-on-cycle t h (omega (arith, s, vc)) e;
    own-waits = λ s. known.victims.victim-waits t (omega (arith, s, fc));
    total-own = omega (arith, tots t, known.victims.one-clean t, fc);
    total-other = λ v _. tots v;
    new-clean = λ v y p. absurd (omega (arith, p, cleansOf-sentTo v y o.sends, z v));
    down_le = λ v y. omega (arith, cvd v y);
    own-aborts = own-aborts-kept L known o acts ab de;
    own-no-request = λ s y lo hi. rw (nil s, append-nil) (known.victims.no_request t y lo hi (omega (arith, s, vc)));
    own-clean-behind = λ s y lo hi p. rw (nil s, append-nil) (known.victims.clean-behind-probes t y lo hi (omega (arith, s, vc)) p);
  })
