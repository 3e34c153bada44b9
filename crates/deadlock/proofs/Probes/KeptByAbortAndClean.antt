-- A session takes an abort or a clean: the clauses on probes are kept.
use mathlib.Core.Path.{◌≡◌, ap, refl, subst, sym}
use mathlib.Core.Bool.{Bool, false≢true}
use mathlib.Core.List.{[], ◌++◌, ◌∷◌, List}
use mathlib.Core.Logic.{◌≢◌, ◌⊎◌, inl, inr}
use Prim.Native.Nat.{◌≤◌, ℕ}
use native.Mathlib.Omega.{arith}
use lib.Dec.{eqb}
use Rattle.lists.proofs.Tests.{by-test, eqb_self, same?}
use borrow.Author.Tests.{ne_eqb}
use Rattle.deadlock.specs.Lists.{bit, occurs}
use Rattle.deadlock.specs.Machine.{abort, clean, cleaning, Laws, Message, rebroadcast, rebroadcasts, Rules, Sends, Session, SessionStep, to_each, up, victim, waiting, withdraw, withdrawing}
use Rattle.message.specs.Kind
use Rattle.deadlock.specs.Counts.{behind-cons, behind-nil, behind_request, cleans_of, count_kind, EachBehind, Every, every-cons, every-nil, OfProbe, sent_to}
use Rattle.deadlock.specs.Links.{}
use Rattle.deadlock.specs.Walks.{FirstApart, LastApart, onward, rest, Walk}
use Rattle.deadlock.specs.World.{CameTo, CleanGoesDown, CleanUnderWay, ClearEdge, Edge, HolderIs, is_victim, Known, Links, Mail, MustAvoidDown, Passed, Probes, Queued, stage_of, TellsDown, TellsUp, VictimIn, World}
use Rattle.deadlock.proofs.Laws.Lists.{zero-or-more}
use Rattle.deadlock.proofs.Laws.Routes.{countKind-append, sentTo-append}
use Rattle.deadlock.proofs.Laws.Stages.{Awaits, awaits-item, awaits-one, awaitsWaiting, seen-facts, stage-facts}
use Rattle.deadlock.proofs.Laws.Counts.{behind-map, behind-same, behind-tail, behindRequest-behind, behindRequest-new, cleansOf-append, cleansOf-le, every_append, ofProbe-map}
use Rattle.deadlock.proofs.Laws.Walks.{cycle-next, cycle-one-way-in, first-edge-of, lastApart-walk, path-walk-from, walk-map}
use Rattle.deadlock.proofs.Victims.OneOnCycle.{clean-up-is, clear-edges, one-edge, one-queue, told-map, victim-of-down}
use Rattle.deadlock.proofs.Probes.OthersStay.{cleansOf-taken, session-probes, SessionSends, SessionTakes, stage-other, stage-own, worldAfterSession}
use Rattle.deadlock.proofs.Probes.KeptByPlainSteps.{clear-edge-back}

-- there is no probe among what is sent
abbrev pub NoProbe : Sends → Type 0
NoProbe l = Every (λ (p : ℕ × Message). OfProbe (λ _ _. ⊥) p.1) l

pub no-probe-toEach : (m : Message) → OfProbe (λ _ _. ⊥) m → (f : ℕ → Bool) (l : List ℕ) → NoProbe (to_each m f l)
unfolding to_each
no-probe-toEach m c f [] = every-nil
no-probe-toEach m c f (x ∷ l) = by-test NoProbe (f x) (λ _. every-cons c (no-probe-toEach m c f l)) (λ _. no-probe-toEach m c f l)

pub no-probe-rebroadcasts : (R : Rules) (x : ℕ) (r : Session) → NoProbe (rebroadcasts R x r)
unfolding rebroadcasts
no-probe-rebroadcasts R x r = no-probe-toEach (up rebroadcast) tt _ _

pub no-probe-behind : {P : Message → List Message → Type 0} → ((m : Message) (r : List Message) → OfProbe (λ _ _. ⊥) m → P m r) → (z : ℕ) {l : Sends}
    → NoProbe l → EachBehind P (sent_to z l)
unfolding sent_to
no-probe-behind f z every-nil = behind-nil
no-probe-behind {P} f z (every-cons {a = p} {l = l} h r) = by-test (EachBehind P) (eqb z p.0) {x = p.1 ∷ sent_to z l} {y = sent_to z l} (λ _. behind-cons (f p.1 (sent_to z l) h) (no-probe-behind f z r)) (λ _. no-probe-behind f z r)

-- the awaited item is the one in whose queue it stands
pub in-awaited-queue : (R : Rules) (w : World) (lk : Links R w) (t y z : ℕ) → 1 ≤ z → z ≤ R.M → Queued w t z → Awaits y (stage_of w t) → z ≡ y
in-awaited-queue R w lk t y z lo hi s k = let f = lk.linked t z lo hi in awaits-one (awaits-item (stage_of w t) z (omega arith)) k

-- a session that stands in a queue has no request on its way
pub queued-no-request : (R : Rules) (w : World) (lk : Links R w) (t h z : ℕ) → Edge R w t h → 1 ≤ z → z ≤ R.M → count_kind Kind.request (w.up t z) ≡ 0
queued-no-request R w lk t h z e lo hi = cases (zero-or-more (count_kind Kind.request (w.up t z)))
  where
    cases : (count_kind Kind.request (w.up t z) ≡ 0) ⊎ (1 ≤ count_kind Kind.request (w.up t z)) → count_kind Kind.request (w.up t z) ≡ 0
    cases (inl k) = k
    cases (inr k) =
        let f = lk.linked t z lo hi in
        let g = lk.linked t e.item e.low e.high in
        let y : e.item ≡ z = awaits-one (awaits-item (stage_of w t) e.item (omega (arith, e.stands))) (awaits-item (stage_of w t) z (omega arith)) in
        let s : Queued w t z = rw y at e.stands in
        absurd (omega (arith, seen-facts (stage_of w t) z))

module _ {R : Rules} (L : Laws R) {w : World} (known : Known R w) (t x : ℕ) (mail : Mail) where
  -- with a clean sent behind them, the probes at the awaited item have nothing to avoid
  own-up-with-clean : (o : SessionStep) → SessionSends w t o.sends mail → NoProbe o.sends → (y : ℕ) → Awaits y (stage_of w t)
      → 1 ≤ count_kind Kind.clean (sent_to y o.sends) → Probes R w
      → (z : ℕ) → 1 ≤ z → z ≤ R.M → Queued w t z → EachBehind (TellsUp R (worldAfterSession w t o.after mail) t) (w.up t z ++ sent_to z o.sends)
  own-up-with-clean o acts mu y abort-awaits b h z lo hi s =
      let q : z ≡ y = in-awaited-queue R w known.links t y z lo hi s abort-awaits in
      let b' : 1 ≤ count_kind Kind.clean (sent_to z o.sends) = rw q b in
      behind-map (count_kind Kind.clean (w.up t z)) (sent_to z o.sends)
      (λ m r _. ofProbe-map (λ i j c. told-map R w (worldAfterSession w t o.after mail) c c.path (λ v k. absurd (omega (arith, k.0, countKind-append Kind.clean r (sent_to z o.sends))))) m)
      (no-probe-behind (λ m r. ofProbe-map (λ i j. absurd) m) z mu) (omega arith) (h.up-true t z lo hi s)

  own-behindRequest : (o : SessionStep) → NoProbe o.sends → (z : ℕ) → count_kind Kind.request (w.up t z) ≡ 0
      → EachBehind (TellsUp R (worldAfterSession w t o.after mail) t) (behind_request (w.up t z ++ sent_to z o.sends))
  own-behindRequest o mu z k = rw (behindRequest-new (w.up t z) (sent_to z o.sends) k) (behindRequest-behind (no-probe-behind (λ m r. ofProbe-map (λ i j. absurd) m) z mu))

  -- ---- abort
  module _ (i0 y : ℕ) (g : ℕ → Bool) (f0 : ℕ → ℕ) (e : (w.session t).stage ≡ waiting y) (loop : FirstApart (Edge R w) t t)
      (acts : SessionSends w t ((y, clean t i0) ∷ []) mail) (hr : SessionTakes w t x (abort t i0) mail) where
    abbrev pub abortStep : SessionStep
    abortStep = record { after = record { stage = victim cleaning y; held = g; stored = f0 }; sends = (y, clean t i0) ∷ [] }

    abbrev pub afterAbort : World
    afterAbort = worldAfterSession w t abortStep.after mail

    abort-awaits : Awaits y (stage_of w t)
    abort-awaits = rw e awaitsWaiting

    abort-cleans-down : (v z : ℕ) → cleans_of v (w.down t z) ≡ cleans_of v (mail.down t z)
    unfolding cleans_of
    abort-cleans-down v z = elim (same? x z) [ yes q ↦ rw (← q) (omega (arith, ap (cleans_of v) hr.head)) | no q ↦ ap (cleans_of v) (sym (hr.down-else z q)) ]

    abort-no-probe : NoProbe abortStep.sends
    abort-no-probe = every-cons tt every-nil

    abort-clean-sent : (v : ℕ) → cleans_of v (sent_to y abortStep.sends) ≡ bit (eqb t v)
    unfolding sent_to cleans_of
    abort-clean-sent v = rw eqb_self (omega arith)

    abort-first-not-clear : (h : ℕ) → ClearEdge R afterAbort t t h → ⊥
    abort-first-not-clear h c =
        let q : c.edge.item ≡ y = in-awaited-queue R w known.links t y c.edge.item c.edge.low c.edge.high c.edge.stands abort-awaits in
        let k : cleans_of t (mail.up t y) ≡ 0 = rw q at c.above in
        omega (arith, ap (cleans_of t) (acts.up_at y), cleansOf-append t (w.up t y) (sent_to y abortStep.sends), abort-clean-sent t, ap bit (eqb_self t))

    abort-passed-back : (v a : ℕ) → Passed R afterAbort v a → Passed R w v a
    abort-passed-back v a p = cases (same? t v)
      where
        clear-old : (a b : ℕ) → ClearEdge R afterAbort v a b → ClearEdge R w v a b
        clear-old a b = clear-edge-back R abortStep acts v a b (λ _. abort-cleans-down v)

        cases : Dec (t ≡ v) → Passed R w v a
        cases (yes q) = let p2 : Passed R afterAbort t a = rw (← q) at p in let d = first-edge-of p2.past in absurd (abort-first-not-clear d.0 d.1)
        cases (no q) = record { is-victim = omega (arith, p.is-victim, ap is_victim (stage-other R abortStep acts v q)); past = record { from = p.past.from; walk = walk-map clear-old p.past.walk; last = clear-old p.past.from a p.past.last } }

    pub abort-probes : Probes R w → Probes R afterAbort
    unfolding sent_to count_kind
    abort-probes h = session-probes R abortStep acts (λ v a _. abort-passed-back v a) (record {
      own-stored = λ l. absurd (false≢true l);
      own-up = own-up-with-clean abortStep acts abort-no-probe y abort-awaits (rw eqb_self (omega arith)) h;
      own-behind-request = λ z lo hi. own-behindRequest abortStep abort-no-probe z (queued-no-request R w known.links t loop.next z loop.out lo hi);
      own-down = λ l. absurd (false≢true l);
    }) h

  -- ---- clean, at another member of the cycle
  module _ (v i0 y : ℕ) (g : ℕ → Bool) (e : (w.session t).stage ≡ waiting y) (reb : Sends) (mr : NoProbe reb) (cr : (u z : ℕ) → cleans_of u (sent_to z reb) ≡ 0)
      (acts : SessionSends w t (reb ++ (y, clean v i0) ∷ []) mail) (hr : SessionTakes w t x (clean v i0) mail) where
    abbrev pub memberStep : SessionStep
    memberStep = record { after = record { stage = waiting y; held = g; stored = λ (_ : ℕ). 0 }; sends = reb ++ (y, clean v i0) ∷ [] }

    abbrev pub afterMember : World
    afterMember = worldAfterSession w t memberStep.after mail

    member-awaits : Awaits y (stage_of w t)
    member-awaits = rw e awaitsWaiting

    member-no-probe : NoProbe memberStep.sends
    member-no-probe = every_append mr (every-cons tt every-nil)

    member-has-clean : 1 ≤ cleans_of v (w.down t x)
    unfolding cleans_of
    member-has-clean = omega (arith, ap (cleans_of v) hr.head, ap bit (eqb_self v))

    member-of-victim : CleanUnderWay w v
    member-of-victim = victim-of-down known v t x member-has-clean

    member-victim : VictimIn w v
    member-victim = omega (arith, member-of-victim, stage-facts (stage_of w v))

    member-clean-down : CleanGoesDown R w v t x
    member-clean-down = known.victims.clean-down-on-cycle v t x member-has-clean

    member-edge : Edge R w member-clean-down.from t
    member-edge = record { item = x; low = member-clean-down.low; high = member-clean-down.high; stands = member-clean-down.stands; held = member-clean-down.held }

    member-cycle : FirstApart (Edge R w) v v
    member-cycle = let k = known.victims.victim-waits v member-of-victim in (known.victims.victim-on-cycle v k.0 member-victim k.1).cycle

    member-next : FirstApart (Edge R w) t v
    member-next = cycle-next (one-edge known.links) member-cycle (onward member-clean-down.walk member-edge)

    member-clean-sent : 1 ≤ cleans_of v (sent_to y memberStep.sends)
    unfolding sent_to cleans_of
    member-clean-sent = rw (sentTo-append y reb ((y, clean v i0) ∷ []), eqb_self) (omega (arith, cleansOf-append v (sent_to y reb) (clean v i0 ∷ []), ap bit (eqb_self v)))

    -- the clean is now on its way from t
    member-own-not-clear : (b : ℕ) → ClearEdge R afterMember v t b → ⊥
    member-own-not-clear b c =
        let q : c.edge.item ≡ y = in-awaited-queue R w known.links t y c.edge.item c.edge.low c.edge.high c.edge.stands member-awaits in
        let k : cleans_of v (mail.up t y) ≡ 0 = rw q at c.above in
        omega (arith, ap (cleans_of v) (acts.up_at y), cleansOf-append v (w.up t y) (sent_to y memberStep.sends), member-clean-sent)

    member-cleans-down : (u z : ℕ) → v ≢ u → cleans_of u (w.down t z) ≡ cleans_of u (mail.down t z)
    unfolding cleans_of
    member-cleans-down u z ne = elim (same? x z) [ yes q ↦ rw (← q) (omega (arith, ap (cleans_of u) hr.head, ap bit (ne_eqb v u ne))) | no q ↦ ap (cleans_of u) (sym (hr.down-else z q)) ]

    member-victims-same : (u : ℕ) → VictimIn afterMember u → VictimIn w u
    member-victims-same u k = elim (same? t u) [
      | yes q ↦ absurd (omega (arith, k, ap is_victim (stage-own R memberStep acts), ap (λ (z : ℕ). is_victim (stage_of afterMember z)) q))
      | no q ↦ omega (arith, k, ap is_victim (stage-other R memberStep acts u q))
    ]

    -- another victim
    member-other-victim : (u a : ℕ) → v ≢ u → Passed R afterMember u a → Passed R w u a
    member-other-victim u a ne p = record { is-victim = member-victims-same u p.is-victim; past = record { from = p.past.from; walk = walk-map clear-old p.past.walk; last = clear-old p.past.from a p.past.last } }
      where
        clear-old : (a b : ℕ) → ClearEdge R afterMember u a b → ClearEdge R w u a b
        clear-old a b = clear-edge-back R memberStep acts u a b (λ _ z. member-cleans-down u z ne)

    -- a walk that is clear now does not lead on from t
    member-clear-walk : {u : ℕ} → Walk (ClearEdge R afterMember v) v u → t ≢ u → Walk (ClearEdge R w v) v u
    member-clear-walk rest ne = rest
    member-clear-walk (onward {u = a} {t = u} k c) ne =
        let na : t ≢ a = λ q. member-own-not-clear u (rw (← q) at c) in
        onward (member-clear-walk k na) (clear-edge-back R memberStep acts v a u (λ q. absurd (ne q)) c)

    member-passed-back : (u a : ℕ) → t ≢ a → Passed R afterMember u a → Passed R w u a
    member-passed-back u a ne p = cases (same? v u)
      where
        cases : Dec (v ≡ u) → Passed R w u a
        cases (no q) = member-other-victim u a q p
        cases (yes q) =
            let p2 : Passed R afterMember v a = rw (← q) at p in
            let b = p2.past.from in
            let c = p2.past.last in
            let nb : t ≢ b = λ z. member-own-not-clear a (rw (← z) at c) in
            rw (← q) (record { is-victim = member-victim; past = record { from = b; walk = member-clear-walk p2.past.walk nb; last = clear-edge-back R memberStep acts v b a (λ z. absurd (ne z)) c } })

    -- what comes to t stands behind the clean, or comes from another item
    member-avoids : (i j z : ℕ) (r : List Message) (c : CameTo R w i j t z (MustAvoidDown R w t z r)) (u : ℕ) → MustAvoidDown R afterMember t z r u
        → occurs u (c.from ∷ c.places) ≡ 0
    member-avoids i j z r c u b = cases b.1 (same? v u)
      where
        off : x ≢ z → 1 ≤ occurs v (c.from ∷ c.places) → ⊥
        off ne k =
            let d : Edge R w c.from t = record { item = z; low = c.low; high = c.high; stands = c.stands; held = c.held } in
            let q : member-clean-down.from ≡ c.from = cycle-one-way-in (one-edge known.links) member-cycle member-clean-down.walk (path-walk-from v c.path k) member-edge d in
            ne (one-queue known.links c.from x z member-clean-down.low member-clean-down.high c.low c.high (rw q at member-clean-down.stands) c.stands)

        mine : Dec (x ≡ z) → occurs v (c.from ∷ c.places) ≡ 0
        mine (yes q) = c.avoid v (b.0, inr (rw (← q) member-has-clean))
        mine (no q) = elim (zero-or-more (occurs v (c.from ∷ c.places))) [ inl k ↦ k | inr k ↦ absurd (off q k) ]

        cases : Passed R afterMember u t ⊎ (1 ≤ cleans_of u (mail.down t z)) → Dec (v ≡ u) → occurs u (c.from ∷ c.places) ≡ 0
        cases (inr k) d = c.avoid u (b.0, inr (omega (arith, cleansOf-taken hr u z)))
        cases (inl p) (no q) = c.avoid u (b.0, inl (member-other-victim u t q p))
        cases (inl p) (yes q) = rw (← q) (mine (same? x z))

    pub member-probes : Probes R w → Probes R afterMember
    unfolding sent_to count_kind
    member-probes h = session-probes R memberStep acts member-passed-back (record {
      own-stored = λ l i ne. absurd (ne refl);
      own-up = own-up-with-clean memberStep acts member-no-probe y member-awaits (omega (arith, member-clean-sent, cleansOf-le v (sent_to y memberStep.sends))) h;
      own-behind-request = λ z lo hi. own-behindRequest memberStep member-no-probe z (queued-no-request R w known.links t member-next.next z member-next.out lo hi);
      own-down = λ l z. down z (same? x z) (h.down-true t z (rw e));
    }) h
      where
        came : (z : ℕ) (q : List Message) → EachBehind (TellsDown R w t z) q → EachBehind (TellsDown R afterMember t z) q
        came z q = behind-same (count_kind Kind.clean q) (λ m r _. ofProbe-map
            (λ i j c. record {
              from = c.from;
              places = c.places;
              path = c.path;
              low = c.low;
              high = c.high;
              stands = c.stands;
              held = c.held;
              avoid = member-avoids
                  i j z r c;
              ranks = c.ranks;
            }) m) (omega arith)

        down : (z : ℕ) → Dec (x ≡ z) → EachBehind (TellsDown R w t z) (w.down t z) → EachBehind (TellsDown R afterMember t z) (mail.down t z)
        down z (no q) k = let k2 : EachBehind (TellsDown R afterMember t z) (w.down t z) = came z (w.down t z) k in rw (hr.down-else z q) k2
        down z (yes q) k =
            let k1 : EachBehind (TellsDown R w t x) (w.down t x) = rw q k in
            let k2 : EachBehind (TellsDown R w t x) (clean v i0 ∷ mail.down t x) = rw hr.head at k1 in
            let k3 : EachBehind (TellsDown R afterMember t x) (mail.down t x) = came x (mail.down t x) (behind-tail k2) in
            rw (← q) k3

  -- ---- clean, back at its victim
  module _ (i0 y : ℕ) (g : ℕ → Bool) (f0 : ℕ → ℕ) (e : (w.session t).stage ≡ victim cleaning y)
      (acts : SessionSends w t ((y, up withdraw) ∷ []) mail) (hr : SessionTakes w t x (clean t i0) mail) where
    abbrev pub returnStep : SessionStep
    returnStep = record { after = record { stage = victim withdrawing y; held = g; stored = f0 }; sends = (y, up withdraw) ∷ [] }

    abbrev pub afterReturn : World
    afterReturn = worldAfterSession w t returnStep.after mail

    return-no-probe : NoProbe returnStep.sends
    return-no-probe = every-cons tt every-nil

    return-has-clean : 1 ≤ cleans_of t (w.down t x)
    unfolding cleans_of
    return-has-clean = omega (arith, ap (cleans_of t) hr.head, ap bit (eqb_self t))

    return-is-victim : CleanUnderWay w t
    return-is-victim = victim-of-down known t t x return-has-clean

    return-victim : VictimIn w t
    return-victim = omega (arith, return-is-victim, stage-facts (stage_of w t))

    return-cleans-down : (u z : ℕ) → t ≢ u → cleans_of u (w.down t z) ≡ cleans_of u (mail.down t z)
    unfolding cleans_of
    return-cleans-down u z ne = elim (same? x z) [ yes q ↦ rw (← q) (omega (arith, ap (cleans_of u) hr.head, ap bit (ne_eqb t u ne))) | no q ↦ ap (cleans_of u) (sym (hr.down-else z q)) ]

    -- an edge that does not lead to t is clear: the one clean of t is on its way to t
    return-clear : (a b : ℕ) → Edge R w a b → t ≢ b → ClearEdge R w t a b
    return-clear a b d ne = record { edge = d; above = omega (arith, return-has-clean, known.mail.up-and-down t a d.item t x, known.victims.one-clean t, stage-facts (stage_of w t)); under = under_of (same? x d.item) }
      where
        under_of : Dec (x ≡ d.item) → cleans_of t (w.down b d.item) ≡ 0
        under_of (no q) = omega (arith, return-has-clean, known.mail.two_downs t t x b d.item q, known.victims.one-clean t, stage-facts (stage_of w t))
        under_of (yes q) = let k : HolderIs w x b = rw q d.held in let c = known.victims.clean-down-on-cycle t t x return-has-clean in let k2 = c.held in absurd (ne (cc))

    -- so is the last part of every walk from t
    return-clear-walk : {u : ℕ} → Walk (Edge R w) t u → (t ≡ u) ⊎ LastApart (ClearEdge R w t) t u
    return-clear-walk rest = inl refl
    return-clear-walk (onward {u = a} {t = u} k d) = cases (same? t u) (return-clear-walk k)
      where
        cases : Dec (t ≡ u) → (t ≡ a) ⊎ LastApart (ClearEdge R w t) t a → (t ≡ u) ⊎ LastApart (ClearEdge R w t) t u
        cases (yes q) p = inl q
        cases (no q) (inl p) = inr (record { from = a; walk = subst (λ (z : ℕ). Walk (ClearEdge R w t) t z) p rest; last = return-clear a u d q })
        cases (no q) (inr p) = inr (record { from = a; walk = lastApart-walk p; last = return-clear a u d q })

    return-passed-back : (v a : ℕ) → t ≢ a → Passed R afterReturn v a → Passed R w v a
    return-passed-back v a ne p = cases (same? t v)
      where
        clear-old : t ≢ v → (a b : ℕ) → ClearEdge R afterReturn v a b → ClearEdge R w v a b
        clear-old q a b = clear-edge-back R returnStep acts v a b (λ _ z. return-cleans-down v z q)

        mine : (t ≡ a) ⊎ LastApart (ClearEdge R w t) t a → Passed R w t a
        mine (inl q) = absurd (ne q)
        mine (inr q) = record { is-victim = return-victim; past = q }

        cases : Dec (t ≡ v) → Passed R w v a
        cases (yes q) = let p2 : Passed R afterReturn t a = rw (← q) at p in rw (← q) (mine (return-clear-walk (lastApart-walk (clear-edges R afterReturn t a p2.past))))
        cases (no q) = record {
          is-victim = omega (arith, p.is-victim, ap is_victim (stage-other R returnStep acts v q));
          past = record
              { from = p.past.from; walk = walk-map (clear-old q) p.past.walk; last = clear-old q p.past.from a p.past.last };
        }

    return-no-clean-up : (z : ℕ) → count_kind Kind.clean (w.up t z) ≡ 0
    return-no-clean-up z = cases (zero-or-more (count_kind Kind.clean (w.up t z)))
      where
        cases : (count_kind Kind.clean (w.up t z) ≡ 0) ⊎ (1 ≤ count_kind Kind.clean (w.up t z)) → count_kind Kind.clean (w.up t z) ≡ 0
        cases (inl k) = k
        cases (inr k) = let d = known.victims.victim-waits t return-is-victim in absurd
            (omega (
              arith,
              clean-up-is known t t z return-victim d.1 rest k,
              return-has-clean,
              known.mail.up-and-down t t z t x,
              known.victims.one-clean t,
              stage-facts (stage_of w t),
            ))

    pub return-probes : Probes R w → Probes R afterReturn
    return-probes h = session-probes R returnStep acts return-passed-back (record {
      own-stored = λ l. absurd (false≢true l);
      own-up = λ z lo hi s. behind-map (count_kind Kind.clean (w.up t z)) (sent_to z returnStep.sends)
          (λ m r b. ofProbe-map (λ i j k. absurd (omega (arith, b, k, return-no-clean-up z))) m)
          (no-probe-behind (λ m r. ofProbe-map (λ i j. absurd) m) z return-no-probe) (omega arith) (known.victims.clean-behind-probes t z lo hi return-victim s);
      own-behind-request = λ z lo hi. own-behindRequest returnStep return-no-probe z (known.victims.no_request t z lo hi return-victim);
      own-down = λ l. absurd (false≢true l);
    }) h
