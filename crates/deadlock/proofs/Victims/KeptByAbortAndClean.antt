-- A session takes an abort or a clean: the clauses on victims are kept.
use mathlib.Core.Path.{◌∙◌, ◌≡◌, ap, refl, subst, sym}
use mathlib.Core.Bool.{Bool, cond, false, true, true≢false}
use mathlib.Core.List.{[], ◌++◌, ◌∷◌, List}
use mathlib.Core.Logic.{◌≢◌, ◌⊎◌, inl, inr}
use Prim.Native.Nat.{◌+◌, ◌≤◌, ℕ}
use native.Mathlib.Omega.{arith}
use lib.Dec.{eqb}
use borrow.Author.Tests.{eqb-true, ne_eqb}
use Rattle.lists.proofs.Tests.{by-test, eqb_self}
use Rattle.deadlock.specs.Lists.{bit}
use Rattle.deadlock.specs.Machine.{abort, clean, cleaning, Laws, Message, Rules, Sends, SessionStep, up, victim, waiting, withdraw, withdrawing}
use Rattle.message.specs.Kind
use Rattle.deadlock.specs.Counts.{cleans_of, cleans_sent, count_kind, EachBehind, every-cons, every-nil, sent_to}
use Rattle.deadlock.specs.Walks.{FirstApart, onward, rest, Walk}
use Rattle.deadlock.specs.World.{AbortTo, CleanGoesDown, CleanGoesUp, CycleMate, CycleOf, Edge, is_victim, is_cleaning, is_waiting, Known, Mail, Queued, stage_of, VictimIn, Victims, World}
use Rattle.deadlock.proofs.Laws.Lists.{bit-eqb, zero-or-more}
use Rattle.deadlock.proofs.Laws.Routes.{countKind-append, sentTo-append}
use Rattle.deadlock.proofs.Laws.Stages.{Awaits, awaitsWaiting, seen-facts, stage-facts}
use Rattle.deadlock.proofs.Laws.Counts.{behind-any, behind-map, cleansOf-append, cleansOf-sentTo, cleansSent-append, ofProbe-all, ofProbe-map}
use Rattle.deadlock.proofs.Laws.Walks.{cycle-back, cycle-next, firstApart-walk}
use Rattle.deadlock.proofs.Victims.OneOnCycle.{one-edge, victim-of-down}
use Rattle.deadlock.proofs.Probes.OthersStay.{cleansOf-taken, every-taken, SessionSends, SessionTakes, worldAfterSession}
use Rattle.deadlock.proofs.Probes.KeptByAbortAndClean.{in-awaited-queue, no-probe-behind, NoProbe, queued-no-request}
use Rattle.deadlock.proofs.Victims.EdgesStay.{CleanBehind, own-aborts-kept, session-victims}

-- one clean among what is sent
clean-sent-is : (v c i y z : ℕ) → 1 ≤ cleans_of v (sent_to z ((y, clean c i) ∷ [])) → (z ≡ y) × (c ≡ v)
unfolding sent_to cleans_of
clean-sent-is v c i y z p = cases (eqb z y) refl p
  where
    cases : (b : Bool) → eqb z y ≡ b → 1 ≤ cleans_of v (cond b (clean c i ∷ []) []) → (z ≡ y) × (c ≡ v)
    cases true e k = (eqb-true z y e, bit-eqb c v (omega arith))
    cases false e k = absurd (omega arith)

module _ {R : Rules} (L : Laws R) {w : World} (known : Known R w) (t x : ℕ) (mail : Mail) where
  senior-asymmetric : (a b : ℕ) → R.senior a b ≡ true → R.senior b a ≡ true → ⊥
  senior-asymmetric a b p q = true≢false (sym (L.transitive a b a p q) ∙ L.irreflexive a)

  -- ---- abort
  module _ (i0 y : ℕ) (g : ℕ → Bool) (f0 : ℕ → ℕ) (e : (w.session t).stage ≡ waiting y) (r : CycleOf R w t (λ u. R.senior u t ≡ true))
      (acts : SessionSends w t ((y, clean t i0) ∷ []) mail) (hr : SessionTakes w t x (abort t i0) mail) (tots : (v : ℕ) → mail.total v + 0 ≡ w.total v + cleans_sent v ((y, clean t i0) ∷ [])) where
    abbrev pub abortStep : SessionStep
    abortStep = record { after = record { stage = victim cleaning y; held = g; stored = f0 }; sends = (y, clean t i0) ∷ [] }

    abbrev pub afterAbort : World
    afterAbort = worldAfterSession w t abortStep.after mail

    abort-awaits : Awaits y (stage_of w t)
    abort-awaits = rw e awaitsWaiting

    abort-no-mate : (v h : ℕ) → t ≢ v → VictimIn w v → Edge R w v h → Walk (Edge R w) v t → ⊥
    abort-no-mate v h ne i d k = cases ((known.victims.victim-on-cycle v h i d).others t k) (r.others v (cycle-back (one-edge known.links) (known.victims.victim-on-cycle v h i d).cycle k))
      where
        cases : (t ≡ v) ⊎ CycleMate R w v t → (v ≡ t) ⊎ (R.senior v t ≡ true) → ⊥
        cases (inl q) b = ne q
        cases (inr q) (inl b) = ne (sym b)
        cases (inr q) (inr b) = senior-asymmetric t v q.1 b

    abort-others : (u : ℕ) → Walk (Edge R w) t u → (u ≡ t) ⊎ (R.senior u t ≡ true) → (u ≡ t) ⊎ CycleMate R w t u
    abort-others u k (inl q) = inl q
    abort-others u k (inr q) = cases (zero-or-more (is_victim (stage_of w u)))
      where
        d : FirstApart (Edge R w) u t
        d = cycle-next (one-edge known.links) r.cycle k

        ne : t ≢ u
        ne z = true≢false (sym (subst (λ (a : ℕ). R.senior a t ≡ true) (sym z) q) ∙ L.irreflexive t)

        cases : (is_victim (stage_of w u) ≡ 0) ⊎ VictimIn w u → (u ≡ t) ⊎ CycleMate R w t u
        cases (inl z) = let f = known.links.linked u d.out.item d.out.low d.out.high in inr (omega (arith, z, d.out.stands, seen-facts (stage_of w u) d.out.item), q)
        cases (inr z) = absurd (abort-no-mate u d.next ne z d.out (firstApart-walk (d)))

    abort-queue : r.cycle.out.item ≡ y
    abort-queue = let d = r.cycle.out in in-awaited-queue R w known.links t y d.item d.low d.high d.stands abort-awaits

    abort-no-request : (z : ℕ) → count_kind Kind.request (sent_to z abortStep.sends) ≡ 0
    unfolding sent_to count_kind
    abort-no-request z = by-test (λ (q : List Message). count_kind Kind.request q ≡ 0) (eqb z y) (λ _. omega arith) (λ _. refl)

    pub abort-victims : Victims R afterAbort
    unfolding cleans_sent count_kind sent_to
    abort-victims = session-victims L known abortStep acts (record {
      mate-waits = λ v h ne i d k _. absurd (abort-no-mate v h ne i d k);
      own-on-cycle = λ h _ _. record { cycle = r.cycle; others = λ u k. abort-others u k (r.others u k) };
      own-waits = λ _. (r.cycle.next, r.cycle.out);
      total-own = omega (arith, tots t, known.victims.one-clean t, ap is_cleaning e, ap bit (eqb_self t));
      total-other = λ v ne. omega (arith, tots v, ap bit (ne_eqb t v ne));
      new-clean = λ v z p. new v z (clean-sent-is v t i0 y z p);
      down_le = cleansOf-taken hr;
      own-aborts = own-aborts-kept L known abortStep acts (λ _. unit) (every-taken hr);
      own-no-request = λ _ z lo hi. omega (arith, countKind-append Kind.request (w.up t z) (sent_to z abortStep.sends), abort-no-request z, queued-no-request R w known.links t r.cycle.next z r.cycle.out lo hi);
      own-clean-behind = λ _ z lo hi s. clean-behind z lo hi s;
    })
      where
        unit : AbortTo R w t (victim cleaning y)
        unit = unfold AbortTo in tt

        no_probe : NoProbe abortStep.sends
        no_probe = every-cons tt every-nil

        last : 1 ≤ count_kind Kind.clean (sent_to y abortStep.sends)
        last = rw eqb_self (omega arith)

        new : (v z : ℕ) → (z ≡ y) × (t ≡ v) → CleanGoesUp R w v t z
        new v z k = let d = r.cycle.out in let c : CleanGoesUp R w t t d.item = record { low = d.low; high = d.high; stands = d.stands; walk = rest } in subst
            (λ (b : ℕ). CleanGoesUp R w b t z) k.1 (subst (λ (b : ℕ). CleanGoesUp R w t t b) (abort-queue ∙ sym k.0) c)

        clean-behind : (z : ℕ) → 1 ≤ z → z ≤ R.M → Queued w t z → EachBehind CleanBehind (w.up t z ++ sent_to z abortStep.sends)
        clean-behind z lo hi s =
            let q : z ≡ y = in-awaited-queue R w known.links t y z lo hi s abort-awaits in
            let b : 1 ≤ count_kind Kind.clean (sent_to z abortStep.sends) = rw q last in
            behind-map (count_kind Kind.clean (w.up t z)) (sent_to z abortStep.sends)
            (λ m r _ _. ofProbe-all (λ i j. omega (arith, b, countKind-append Kind.clean r (sent_to z abortStep.sends))) m)
            (no-probe-behind (λ m r. ofProbe-map (λ i j. absurd) m) z no_probe) (omega arith) (behind-any (w.up t z))

  -- ---- clean, at another member of the cycle
  module _ (v i0 y : ℕ) (g : ℕ → Bool) (e : (w.session t).stage ≡ waiting y) (reb : Sends) (cr : (u : ℕ) → cleans_sent u reb ≡ 0)
      (acts : SessionSends w t (reb ++ (y, clean v i0) ∷ []) mail) (hr : SessionTakes w t x (clean v i0) mail) (tots : (u : ℕ) → mail.total u + bit (eqb v u) ≡ w.total u + cleans_sent u (reb ++ (y, clean v i0) ∷ [])) where
    abbrev pub memberStep : SessionStep
    memberStep = record { after = record { stage = waiting y; held = g; stored = λ (_ : ℕ). 0 }; sends = reb ++ (y, clean v i0) ∷ [] }

    abbrev pub afterMember : World
    afterMember = worldAfterSession w t memberStep.after mail

    member-awaits : Awaits y (stage_of w t)
    member-awaits = rw e awaitsWaiting

    member-has-clean : 1 ≤ cleans_of v (w.down t x)
    unfolding cleans_of
    member-has-clean = omega (arith, ap (cleans_of v) hr.head, ap bit (eqb_self v))

    member-clean-down : CleanGoesDown R w v t x
    member-clean-down = known.victims.clean-down-on-cycle v t x member-has-clean

    member-walk : Walk (Edge R w) v t
    member-walk = let c = member-clean-down in onward c.walk (record { item = x; low = c.low; high = c.high; stands = c.stands; held = c.held })

    member-out : FirstApart (Edge R w) t v
    member-out =
        let s = victim-of-down known v t x member-has-clean in
        let k = known.victims.victim-waits v s in
        cycle-next (one-edge known.links) (known.victims.victim-on-cycle v k.0 (omega (arith, s, stage-facts (stage_of w v))) k.1).cycle member-walk

    member-total-same : (u : ℕ) → mail.total u ≡ w.total u
    unfolding cleans_sent
    member-total-same u = omega (arith, tots u, cleansSent-append u reb ((y, clean v i0) ∷ []), cr u)

    member-new-clean : (u z : ℕ) → 1 ≤ cleans_of u (sent_to z memberStep.sends) → CleanGoesUp R w u t z
    member-new-clean u z p =
        let k = clean-sent-is u v i0 y z (omega (arith, p, ap (cleans_of u) (sentTo-append z reb ((y, clean v i0) ∷ [])), cleansOf-append u (sent_to z reb) (sent_to z ((y, clean v i0) ∷ [])), cleansOf-sentTo u z reb, cr u)) in
        let d = member-out.out in
        let q : d.item ≡ y = in-awaited-queue R w known.links t y d.item d.low d.high d.stands member-awaits in
        let c : CleanGoesUp R w v t d.item = record { low = d.low; high = d.high; stands = d.stands; walk = member-walk } in
        subst (λ (b : ℕ). CleanGoesUp R w b t z) k.1 (subst (λ (b : ℕ). CleanGoesUp R w v t b) (q ∙ sym k.0) c)

    pub member-victims : Victims R afterMember
    member-victims = session-victims L known memberStep acts (record {
      mate-waits = λ _ _ _ _ _ _ _. omega arith;
      own-on-cycle = λ h s _. absurd (omega arith);
      own-waits = λ s. absurd (omega arith);
      total-own = omega (arith, member-total-same t, known.victims.one-clean t, ap is_cleaning e);
      total-other = λ u _. member-total-same u;
      new-clean = member-new-clean;
      down_le = cleansOf-taken hr;
      own-aborts = own-aborts-kept L known memberStep acts (λ k. subst (AbortTo R w t) e k) (every-taken hr);
      own-no-request = λ s. absurd (omega arith);
      own-clean-behind = λ s. absurd (omega arith);
    })

  -- ---- clean, back at its victim
  module _ (i0 y : ℕ) (g : ℕ → Bool) (f0 : ℕ → ℕ) (e : (w.session t).stage ≡ victim cleaning y)
      (acts : SessionSends w t ((y, up withdraw) ∷ []) mail) (hr : SessionTakes w t x (clean t i0) mail) (tots : (v : ℕ) → mail.total v + bit (eqb t v) ≡ w.total v + cleans_sent v ((y, up withdraw) ∷ [])) where
    abbrev pub returnStep : SessionStep
    returnStep = record { after = record { stage = victim withdrawing y; held = g; stored = f0 }; sends = (y, up withdraw) ∷ [] }

    abbrev pub afterReturn : World
    afterReturn = worldAfterSession w t returnStep.after mail

    return-is-victim : VictimIn w t
    return-is-victim = omega (arith, ap is_victim e)

    return-abort : AbortTo R w t (victim withdrawing y)
    unfolding AbortTo
    return-abort = tt

    return-no-request : (z : ℕ) → count_kind Kind.request (sent_to z returnStep.sends) ≡ 0
    unfolding sent_to count_kind
    return-no-request z = by-test (λ (q : List Message). count_kind Kind.request q ≡ 0) (eqb z y) (λ _. omega arith) (λ _. refl)

    return-no-probe : NoProbe returnStep.sends
    return-no-probe = every-cons tt every-nil

    pub return-victims : Victims R afterReturn
    unfolding cleans_sent
    return-victims = session-victims L known returnStep acts (record {
      mate-waits = λ v h ne i d k s. absurd (omega (arith, s, ap is_waiting e));
      own-on-cycle = λ h _ d. known.victims.victim-on-cycle t h return-is-victim d;
      own-waits = λ s. absurd (omega arith);
      total-own = omega (arith, tots t, known.victims.one-clean t, ap is_cleaning e, ap bit (eqb_self t));
      total-other = λ v ne. omega (arith, tots v, ap bit (ne_eqb t v ne));
      new-clean = λ v z p. absurd (omega (arith, p, cleansOf-sentTo v z returnStep.sends));
      down_le = cleansOf-taken hr;
      own-aborts = own-aborts-kept L known returnStep acts (λ _. return-abort) (every-taken hr);
      own-no-request = λ _ z lo hi. omega (arith, countKind-append Kind.request (w.up t z) (sent_to z returnStep.sends), return-no-request z, known.victims.no_request t z lo hi return-is-victim);
      own-clean-behind = λ _ z lo hi s. behind-map (count_kind Kind.clean (w.up t z)) (sent_to z returnStep.sends)
          (λ m r _. ofProbe-map (λ i j k. omega (arith, k, countKind-append Kind.clean r (sent_to z returnStep.sends))) m)
          (no-probe-behind (λ m r. ofProbe-map (λ i j. absurd) m) z return-no-probe) (omega arith) (known.victims.clean-behind-probes t z lo hi return-is-victim s);
    })
