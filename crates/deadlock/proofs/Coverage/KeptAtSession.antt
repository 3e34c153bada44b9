-- Coverage is kept by each message at a session.
use mathlib.Core.Path.{◌∙◌, ◌≡◌, ap, refl, subst, sym}
use mathlib.Core.Bool.{◌||◌, Bool, cond, false, not, true, true≢false}
use mathlib.Core.List.{[], ◌++◌, ◌∷◌, append-nil, List}
use mathlib.Core.Option.{Option, some}
use mathlib.Core.Logic.{◌≢◌, ◌⊎◌, inl, inr}
use Prim.Native.Nat.{◌+◌, ◌≤◌, ℕ}
use native.Mathlib.Omega.{arith}
use lib.Dec.{eqb}
use borrow.Author.Tests.{eqb-false, eqb-true, ne_eqb}
use Rattle.lists.proofs.Tests.{by-test, eqb_self, same?}
use Rattle.deadlock.specs.Lists.{bit, occurs, one_to, updated}
use Rattle.deadlock.specs.Machine.{abort, clean, cleaning, cleared, down, grant, growing, held_by, is_live, is_news, junior, Laws, Message, on_abort, on_clean, on_grant, on_probe, on_resend, on_withdrawn, probe, probes_from, rebroadcasts, releasing, resend, Rules, Sends, session_drops, session_receives, SessionStep, Stage, stored_probes, store_probe, to_awaited, up, victim, waiting, withdrawing, withdrawn}
use Rattle.message.specs.Kind
use Rattle.deadlock.specs.Counts.{behind_request, cleans_of, cleans_sent, count_kind, EachBehind, fresh_probes, is_stored, kind_of, probe_of, sent_to, unless_cleaned}
use Rattle.deadlock.specs.Links.{awaits}
use Rattle.deadlock.specs.Walks.{FirstApart, onward, onward_path, Path}
use Rattle.deadlock.specs.World.{CameTo, Edge, HolderIs, is_cleaning, is_victim, is_waiting, Known, Live, Mail, MustAvoidDown, Passed, Probes, Queued, stage_of, TellsDown, ToldOf, VictimIn, World}
use Rattle.deadlock.specs.Coverage.{AbortPending, cleans_from_others, cleans_from_queue, Coverage, CycleDeclared, probe_reaches, rebroadcast_due, stores, under_way}
use Rattle.deadlock.proofs.Laws.Lists.{bit-eqb, bit_le, bit-one, occurs-oneTo, updated-other, updated-same, zero-or-more}
use Rattle.deadlock.proofs.Laws.Routes.{countKind-append, sentTo-append}
use Rattle.deadlock.proofs.Laws.Stages.{awaits-item, awaits-one, seen-facts, stage-facts}
use Rattle.deadlock.proofs.Links.NeutralMessages.{neutral-toAwaited}
use Rattle.deadlock.proofs.Laws.Counts.{behind-head, behindRequest-append, cleansSent-probesFrom, cleansSent-toAwaited, up-kinds}
use Rattle.deadlock.proofs.Laws.Walks.{cycle-next, first-edge-of, path-has-start, path-suffix}
use Rattle.deadlock.proofs.Victims.OneOnCycle.{no-grant-queued, no-self-edge, one-edge, victim-of-down, waits-no-grant}
use Rattle.deadlock.proofs.Probes.OthersStay.{SessionSends, SessionTakes, worldAfterSession}
use Rattle.deadlock.proofs.Core.KeptAtSession.{clean-nowhere, clean-own}
use Rattle.deadlock.proofs.Coverage.Sums.{freshProbes-append, freshProbes-head, freshProbes-no-clean, freshProbes-right, freshProbes-skip, isStored-one, isStored-or, isStored-zero, no-clean-sent, no-request-storedProbes, probeOf-some, probesBy-storedProbes, rebroadcast-to-held, unlessCleaned-le, unlessCleaned-mono, unlessCleaned-open, unlessCleaned-shut}
use Rattle.deadlock.proofs.Coverage.AfterSession.{cleansFromOthers-grows, cleansFromQueue-grows, rebroadcastDue-own, session-coverage, underWayAfter}

-- the sessions that items name are in range
pub record RangeIn (R : Rules) (w : World) : Type 0 where
  pub queue : (x a : ℕ) → Queued w a x → (1 ≤ a) × (a ≤ R.S)
  pub holder : (x h : ℕ) → HolderIs w x h → (1 ≤ h) × (h ≤ R.S)

module _ {R : Rules} (L : Laws R) {w : World} (known : Known R w) (tr : Probes R w) (cov : Coverage R w) (rg : RangeIn R w) (t : ℕ) (mail : Mail) where
  abbrev pub Covered : SessionStep → Type 0
  Covered o = Coverage R (worldAfterSession w t o.after mail)

  -- ---- numbers in range
  walk-in-range : (a b : ℕ) → Edge R w a b → (1 ≤ a) × (a ≤ R.S)
  walk-in-range a b e = rg.queue e.item a e.stands

  path-in-range : {i a : ℕ} {ps : List ℕ} (u : ℕ) → Path (Edge R w) i a ps → 1 ≤ occurs u ps → (1 ≤ u) × (u ≤ R.S)
  path-in-range u p h = let f = first-edge-of (path-suffix u p h) in walk-in-range u f.0 f.1

  pub initiator-of : (i : ℕ) → (1 ≤ t) × (t ≤ R.S) → Live w t → (w.session t).stored i ≢ 0 → (1 ≤ i) × (i ≤ R.S)
  unfolding occurs
  initiator-of i r l ne = let c = tr.stored-true t l i ne in cases c (same? t i) (path-has-start c.path)
    where
      cases : (c : ToldOf R w i ((w.session t).stored i) t (λ v. Passed R w v t)) → Dec (t ≡ i) → 1 ≤ bit (eqb t i) + occurs i c.places → (1 ≤ i) × (i ≤ R.S)
      cases c (yes q) h = rw (← q) r
      cases c (no q) h = path-in-range i c.path (omega (arith, h, ap bit (ne_eqb t i q)))

  -- the initiator of a probe that a waiting session stores
  initiator-in-range : (z i : ℕ) → Queued w t z → Live w t → (w.session t).stored i ≢ 0 → (1 ≤ i) × (i ≤ R.S)
  initiator-in-range z i s l ne = initiator-of i (rg.queue z t s) l ne

  -- ---- steps that take no clean
  module _ (o : SessionStep) (acts : SessionSends w t o.sends mail) (d4 : (y : ℕ) → count_kind Kind.clean (mail.down t y) ≡ count_kind Kind.clean (w.down t y)) (lb : is_live o.after.stage ≡ true → Live w t)
      (hm : is_live o.after.stage ≡ true → (z : ℕ) → (w.session t).held z ≡ true → o.after.held z ≡ true)
      (gm : is_live o.after.stage ≡ true → (i z : ℕ) → (probe_reaches R w i z t ≡ 0) ⊎ (1 ≤ probe_reaches R (worldAfterSession w t o.after mail) i z t)) where
    abbrev pub after : World
    after = worldAfterSession w t o.after mail

    covers_one : (k a b c : ℕ) → 1 ≤ k + a → (a ≡ 0) ⊎ (1 ≤ b) → k ≤ c → 1 ≤ c + b
    covers_one k a b c h (inl z) l = omega (arith, h, z, l)
    covers_one k a b c h (inr z) l = omega (arith, z)

    covers-two : (e k j a b c : ℕ) → e ≤ 1 → e ≤ k + unless_cleaned j a → (a ≡ 0) ⊎ (1 ≤ b) → k ≤ c → e ≤ c + unless_cleaned j b
    covers-two e k j a b c e1 h (inl z) l = omega (arith, h, z, l, unlessCleaned-le j a)
    covers-two e k j a b c e1 h (inr z) l = elim (zero-or-more j) [ inl y ↦ omega (arith, e1, z, unlessCleaned-open j b y) | inr y ↦ omega (arith, h, l, unlessCleaned-shut j a y) ]

    pub plain-coverage : ((z h i : ℕ) → 1 ≤ z → z ≤ R.M → Queued w t z → HolderIs w z h → Live w h → R.senior i h ≡ true
        → is_stored o.after.stored i ≤ underWayAfter R w mail o.sends t z h i + unless_cleaned (count_kind Kind.clean (w.up t z ++ sent_to z o.sends)) (probe_reaches R w i z h))
        → ((z i : ℕ) → 1 ≤ z → z ≤ R.M → 1 ≤ count_kind Kind.request (w.up t z ++ sent_to z o.sends) → is_stored o.after.stored i ≤ fresh_probes i (behind_request (w.up t z ++ sent_to z o.sends)))
        → ((i : ℕ) → 1 ≤ is_victim o.after.stage → o.after.stored i ≡ 0)
        → ((z h : ℕ) → 1 ≤ z → z ≤ R.M → Queued w t z → HolderIs w z h → Live w h
        → (is_stored o.after.stored h ≤ underWayAfter R w mail o.sends t z h h) ⊎ CycleDeclared R w t)
        → (FirstApart (Edge R w) t t → VictimIn w t ⊎ AbortPending R w t → (1 ≤ is_victim o.after.stage) ⊎ ((1 ≤ is_waiting o.after.stage) × (y : ℕ) × (1 ≤ count_kind Kind.abort (mail.down t y))))
        → Covered o
    plain-coverage t2 t4 t7 t3 ds = session-coverage R o acts known.links cov (record {
      holder-initiator = λ a z ne lo hi s e l. three a (under_way R w a z t t) _ _ (omega (arith, due l z, cleansFromOthers-grows R o acts a z)) (cov.initiator_or_declared a z t lo hi s e (lb l));
      sender-initiator = λ z h _. t3 z h;
      declared-still = ds;
      holder-own = λ a z lo hi s e l sn. covers_one (rebroadcast_due R w z t + cleans_from_queue R w z) (probe_reaches R w a z t) (probe_reaches R after a z t)
          (rebroadcast_due R after z t + cleans_from_queue R after z) (cov.own-probe a z t lo hi s e (lb l) sn) (gm l a z)
          (omega (arith, due l z, cleansFromQueue-grows R o acts z));
      holder-forwarded = λ a z i ne lo hi s e l sn. covers-two (stores w a i) (under_way R w a z t i) (count_kind Kind.clean (w.up a z)) (probe_reaches R w i z t)
          (probe_reaches R after i z t) (rebroadcast_due R after z t + cleans_from_others R after a z + count_kind Kind.resend (w.down a z) + fresh_probes i (w.up a z))
          (bit_le (not (eqb ((w.session a).stored i) 0))) (cov.stored_forwarded a z t i lo hi s e (lb l) sn) (gm l i z) (omega (arith, due l z, cleansFromOthers-grows R o acts a z));
      sender-forwarded = λ z h i _. t2 z h i;
      no_self = λ z lo hi s e l. no-self-edge known.links t (record { item = z; low = lo; high = hi; stands = s; held = e }) (lb l);
      sender-requested = t4;
      sender-none = t7;
    })
      where
        three : (a p q b : ℕ) → p ≤ q → (b ≤ p) ⊎ CycleDeclared R w a → (b ≤ q) ⊎ CycleDeclared R w a
        three a p q b l (inl h) = inl (omega (arith, h, l))
        three a p q b l (inr d) = inr d

        due : is_live o.after.stage ≡ true → (z : ℕ) → rebroadcast_due R w z t ≤ rebroadcast_due R after z t
        due l z = rebroadcastDue-own R o acts z (λ y _. omega (arith, d4 y)) (hm l z)

  -- no longer live, and nothing stored
  pub no-probe-coverage : (o : SessionStep) → SessionSends w t o.sends mail → is_live o.after.stage ≡ false → ((i : ℕ) → o.after.stored i ≡ 0)
      → (FirstApart (Edge R w) t t → VictimIn w t ⊎ AbortPending R w t → (1 ≤ is_victim o.after.stage) ⊎ ((1 ≤ is_waiting o.after.stage) × (y : ℕ) × (1 ≤ count_kind Kind.abort (mail.down t y))))
      → Covered o
  no-probe-coverage o acts d z ds = session-coverage R o acts known.links cov (record {
    holder-initiator = λ a y _ _ _ _ _ l. absurd (true≢false (sym l ∙ d));
    sender-initiator = λ y h _ _ _ _ _ _. inl (omega (arith, isStored-zero o.after.stored h (z h)));
    declared-still = ds;
    holder-own = λ a y _ _ _ _ l. absurd (true≢false (sym l ∙ d));
    holder-forwarded = λ a y i _ _ _ _ _ l. absurd (true≢false (sym l ∙ d));
    sender-forwarded = λ y h i _ _ _ _ _ _ _. omega (arith, isStored-zero o.after.stored i (z i));
    no_self = λ y _ _ _ _ l. absurd (true≢false (sym l ∙ d));
    sender-requested = λ y i _ _ _. omega (arith, isStored-zero o.after.stored i (z i));
    sender-none = λ i _. z i;
  })

  -- ---- what the session's own messages to an item gain
  more-forwarded : (i z h : ℕ) (p : List Message) → count_kind Kind.clean p ≡ 0
      → fresh_probes i (w.up t z) + fresh_probes i p + unless_cleaned (count_kind Kind.clean (w.up t z)) (probe_reaches R w i z h) ≤ fresh_probes i (w.up t z ++ p) + unless_cleaned (count_kind Kind.clean (w.up t z ++ p)) (probe_reaches R w i z h)
  more-forwarded i z h p k =
      let e : count_kind Kind.clean (w.up t z ++ p) ≡ count_kind Kind.clean (w.up t z) = omega (arith, countKind-append Kind.clean (w.up t z) p) in
      omega (arith, freshProbes-append i (w.up t z) p k, ap (λ (b : ℕ). unless_cleaned b (probe_reaches R w i z h)) e)

  more-requested : (i z : ℕ) (p : List Message) → count_kind Kind.clean p ≡ 0 → 1 ≤ count_kind Kind.request (w.up t z)
      → fresh_probes i (behind_request (w.up t z)) + fresh_probes i p ≤ fresh_probes i (behind_request (w.up t z ++ p))
  more-requested i z p k r = omega (arith, freshProbes-append i (behind_request (w.up t z)) p k, ap (fresh_probes i) (behindRequest-append (w.up t z) p r))

  keep-requested : (z i : ℕ) → 1 ≤ z → z ≤ R.M → (p : List Message) → count_kind Kind.clean p ≡ 0 → count_kind Kind.request p ≡ 0
      → 1 ≤ count_kind Kind.request (w.up t z ++ p) → stores w t i ≤ fresh_probes i (behind_request (w.up t z ++ p))
  keep-requested z i lo hi p z4 z1 h = let r : 1 ≤ count_kind Kind.request (w.up t z) = omega (arith, h, z1, countKind-append Kind.request (w.up t z) p) in omega (arith, cov.stored-requested t z i lo hi r, more-requested i z p z4 r)

  -- a growing session stands in no queue and has no request on its way
  pub growing-not-queued : (z : ℕ) → 1 ≤ z → z ≤ R.M → awaits (stage_of w t) z ≡ 0
      → (Queued w t z → ⊥) × (count_kind Kind.request (w.up t z) ≡ 0)
  growing-not-queued z lo hi e = let k = known.links.linked t z lo hi in (λ s. omega (arith, s, e), omega (arith, e))

  -- ---- one message taken, which is no clean
  module _ (x : ℕ) (lo : 1 ≤ x) (hi : x ≤ R.M) (m : Message) (hr : SessionTakes w t x m mail) where
    down-kind-same : (k y : ℕ) → eqb (kind_of m) k ≡ false → count_kind k (mail.down t y) ≡ count_kind k (w.down t y)
    unfolding count_kind
    down-kind-same k y e = elim (same? x y) [ yes q ↦ rw (← q) (omega (arith, ap (count_kind k) hr.head, ap bit e)) | no q ↦ ap (count_kind k) (hr.down-else y q) ]

    freshProbes-same : (i y : ℕ) → probe_of i m ≡ 0 → fresh_probes i (mail.down t y) ≡ fresh_probes i (w.down t y)
    freshProbes-same i y e = elim (same? x y) [ yes q ↦ rw (← q) (omega (arith, ap (fresh_probes i) hr.head, freshProbes-skip i m (mail.down t x) e)) | no q ↦ ap (fresh_probes i) (hr.down-else y q) ]

    probeReaches-same : (o : SessionStep) → eqb (kind_of m) Kind.clean ≡ false → (i z : ℕ) → probe_of i m ≡ 0
        → stores w t i ≤ is_stored o.after.stored i
        → probe_reaches R w i z t ≤ probe_reaches R (worldAfterSession w t o.after mail) i z t
    unfolding probe_reaches
    probeReaches-same o n4 i z np hs =
        rw updated-same (omega (
          arith,
          freshProbes-same i z np,
          ap (λ (b : ℕ). unless_cleaned b (is_stored o.after.stored i)) (down-kind-same Kind.clean z n4),
          unlessCleaned-mono (count_kind Kind.clean (w.down t z)) (stores w t i) (is_stored o.after.stored i) hs,
        ))

    -- where nothing is stored and nothing sent
    quiet-coverage : (s : Stage) (g : ℕ → Bool) → SessionSends w t [] mail → eqb (kind_of m) Kind.clean ≡ false → (is_live s ≡ true → (i : ℕ) → probe_of i m ≡ 0)
        → (is_live s ≡ true → Live w t) → (is_victim s ≤ is_victim (stage_of w t))
        → ((z : ℕ) → (w.session t).held z ≡ true → g z ≡ true)
        → ((z i : ℕ) → 1 ≤ z → z ≤ R.M → Queued w t z → (stores w t i ≡ 0) ⊎ (count_kind Kind.resend (w.down t z) ≤ count_kind Kind.resend (mail.down t z)))
        → (FirstApart (Edge R w) t t → VictimIn w t ⊎ AbortPending R w t → (1 ≤ is_victim s) ⊎ ((1 ≤ is_waiting s) × (y : ℕ) × (1 ≤ count_kind Kind.abort (mail.down t y))))
        → Covered (record { after = record { stage = s; held = g; stored = (w.session t).stored }; sends = [] })
    unfolding sent_to
    quiet-coverage s g acts n4 np lb vc hm d8 ds = plain-coverage (record { after = record { stage = s; held = g; stored = (w.session t).stored }; sends = [] }) acts
        (λ y. down-kind-same Kind.clean y n4) lb (λ _. hm)
        (λ l i z. probeOf-some (probe_reaches R w i z t) _ (probeReaches-same
        (record { after = record { stage = s; held = g; stored = (w.session t).stored }; sends = [] }) n4 i z (np l i) (omega arith)))
        (λ z h i lo' hi' p e l sn. rw append-nil (cases z h i lo' hi' p e l sn (d8 z i lo' hi' p))) (λ z i lo' hi' p. rw append-nil (cov.stored-requested t z i lo' hi' (rw append-nil at p))) (λ i v. cov.victim-stores-none t i (omega (arith, v, vc)))
        (λ z h lo' hi' p e l. rw append-nil (cases-initiator z h (d8 z h lo' hi' p) (cov.initiator_or_declared t z h lo' hi' p e l))) ds
      where
        cases-initiator : (z h : ℕ) → (stores w t h ≡ 0) ⊎ (count_kind Kind.resend (w.down t z) ≤ count_kind Kind.resend (mail.down t z))
            → (stores w t h ≤ under_way R w t z h h) ⊎ CycleDeclared R w t
            → (stores w t h ≤ rebroadcast_due R w z h + cleans_from_others R w t z + count_kind Kind.resend (mail.down t z) + fresh_probes h (w.up t z)) ⊎ CycleDeclared R w t
        cases-initiator z h d (inr k) = inr k
        cases-initiator z h (inl y) (inl k) = inl (omega (arith, y))
        cases-initiator z h (inr y) (inl k) = inl (omega (arith, y, k))

        cases : (z h i : ℕ) → 1 ≤ z → z ≤ R.M → Queued w t z → HolderIs w z h → Live w h
            → R.senior i h ≡ true → (stores w t i ≡ 0) ⊎ (count_kind Kind.resend (w.down t z) ≤ count_kind Kind.resend (mail.down t z))
            → stores w t i ≤ rebroadcast_due R w z h + cleans_from_others R w t z + count_kind Kind.resend (mail.down t z) + fresh_probes i (w.up t z) + unless_cleaned (count_kind Kind.clean (w.up t z)) (probe_reaches R w i z h)
        cases z h i lo' hi' p e l sn (inl k) = omega (arith, k)
        cases z h i lo' hi' p e l sn (inr k) = omega (arith, k, cov.stored_forwarded t z h i lo' hi' p e l sn)

    -- ---- a message that is dropped
    -- the same stage, and no abort taken
    declared_same : (eqb (kind_of m) Kind.abort ≡ false) ⊎ (is_waiting (stage_of w t) ≡ 0) → FirstApart (Edge R w) t t
        → VictimIn w t ⊎ AbortPending R w t
        → VictimIn w t ⊎ ((1 ≤ is_waiting (stage_of w t)) × (y : ℕ) × (1 ≤ count_kind Kind.abort (mail.down t y)))
    declared_same n9 g (inl v) = inl v
    declared_same (inl n9) g (inr p) = inr (p.waits, p.item, omega (arith, p.sent, down-kind-same Kind.abort p.item n9))
    declared_same (inr z) g (inr p) = absurd (omega (arith, z, p.waits))

    drop-covered : SessionSends w t [] mail → (eqb (kind_of m) Kind.abort ≡ false) ⊎ (is_waiting (stage_of w t) ≡ 0) → eqb (kind_of m) Kind.clean ≡ false
        → eqb (kind_of m) Kind.resend ≡ false → (Live w t → (i : ℕ) → probe_of i m ≡ 0) → Covered (session_drops (w.session t))
    drop-covered acts n9 n4 n8 np = quiet-coverage (stage_of w t) (w.session t).held acts n4 np (λ l. l) (omega arith) (λ z e. e) (λ z i lo' hi' s. inr (omega (arith, down-kind-same Kind.resend z n8))) (declared_same n9)

  module _ (x : ℕ) (lo : 1 ≤ x) (hi : x ≤ R.M) where
    abbrev pub CoverHeard : Message → SessionStep → Type 0
    CoverHeard m o = SessionSends w t o.sends mail → SessionTakes w t x m mail → Covered o

    cover-grant : (s : Stage) → (w.session t).stage ≡ s → CoverHeard (down grant) (on_grant R x (w.session t) s)
    unfolding on_grant
    cover-grant growing e acts hr = drop-covered x lo hi (down grant) hr acts (inl refl) refl refl (λ _ _. refl)
    cover-grant (waiting y) e acts hr = by-test (CoverHeard (down grant)) (eqb y x)
        (λ q acts hr. quiet-coverage x lo hi (down grant) hr growing (updated (w.session t).held x true) acts refl (λ _ _. refl) (λ _. ap is_live e) (omega arith)
        (λ z k. elim (same? x z) [ yes p ↦ rw (← p, updated-same) | no p ↦ updated-other (w.session t).held x true z p ∙ k ])
        (λ z i lo' hi' s. inr (omega (arith, down-kind-same x lo hi (down grant) hr Kind.resend z refl)))
        (λ g _. absurd (no-grant-queued known.links lo hi hr.head g.next g.out)))
        (λ q acts hr. drop-covered x lo hi (down grant) hr acts (inl refl) refl refl (λ _ _. refl)) acts hr
    cover-grant (victim p y) e acts hr = drop-covered x lo hi (down grant) hr acts (inl refl) refl refl (λ _ _. refl)
    cover-grant (releasing p) e acts hr = drop-covered x lo hi (down grant) hr acts (inl refl) refl refl (λ _ _. refl)

    -- ---- resend
    cover-drop-resend : SessionSends w t [] mail → SessionTakes w t x (down resend) mail
        → ((z i : ℕ) → 1 ≤ z → z ≤ R.M → Queued w t z → (stores w t i ≡ 0) ⊎ (x ≢ z))
        → Covered (session_drops (w.session t))
    cover-drop-resend acts hr f = quiet-coverage x lo hi (down resend) hr (stage_of w t) (w.session t).held acts refl (λ _ _. refl) (λ l. l) (omega arith) (λ z e. e) (λ z i lo' hi' s. cases z i (f z i lo' hi' s)) (declared_same x lo hi (down resend) hr (inl refl))
      where
        cases : (z i : ℕ) → (stores w t i ≡ 0) ⊎ (x ≢ z)
            → (stores w t i ≡ 0) ⊎ (count_kind Kind.resend (w.down t z) ≤ count_kind Kind.resend (mail.down t z))
        cases z i (inl k) = inl k
        cases z i (inr k) = inr (omega (arith, ap (count_kind Kind.resend) (hr.down-else z k)))

    resend-nowhere : (s : Stage) → (w.session t).stage ≡ s → ((z : ℕ) → awaits s z ≡ 0) → (z i : ℕ) → 1 ≤ z → z ≤ R.M
        → Queued w t z → (stores w t i ≡ 0) ⊎ (x ≢ z)
    resend-nowhere s e f z i lo' hi' p = absurd ((growing-not-queued z lo' hi' (ap (λ (b : Stage). awaits b z) e ∙ f z)).0 p)

    resent-coverage : (y : ℕ) → (w.session t).stage ≡ waiting y → y ≡ x → SessionSends w t (probes_from (w.session t).stored x (one_to R.S)) mail → SessionTakes w t x
        (down resend) mail → Covered (record { after = w.session t; sends = probes_from (w.session t).stored x (one_to R.S) })
    resent-coverage y e q acts hr = plain-coverage o acts (λ k. down-kind-same x lo hi (down resend) hr Kind.clean k refl) (λ l. l) (λ _ z k. k)
        (λ l i z. probeOf-some _ _ (probeReaches-same x lo hi (down resend) hr o refl i z refl (omega arith))) forwarded requested (λ i v. cov.victim-stores-none t i v)
        initiator (declared_same x lo hi (down resend) hr (inl refl))
      where
        o : SessionStep
        o = record { after = w.session t; sends = probes_from (w.session t).stored x (one_to R.S) }

        none_of : (v : ℕ) → cleans_sent v o.sends ≡ 0
        none_of v = cleansSent-probesFrom v (w.session t).stored x (one_to R.S)

        live_now : Live w t
        live_now = ap is_live e

        sent : (i : ℕ) → (1 ≤ i) × (i ≤ R.S) → stores w t i ≤ fresh_probes i (sent_to x o.sends)
        sent i r = omega (arith, freshProbes-no-clean i (sent_to x o.sends) (no-clean-sent x o.sends none_of), probesBy-storedProbes (w.session t).stored x i (one_to R.S) (omega (arith, occurs-oneTo R.S i r.0 r.1)))

        forwarded : (z h i : ℕ) → 1 ≤ z → z ≤ R.M → Queued w t z → HolderIs w z h → Live w h → R.senior i h ≡ true
            → stores w t i ≤ underWayAfter R w mail o.sends t z h i + unless_cleaned (count_kind Kind.clean (w.up t z ++ sent_to z o.sends)) (probe_reaches R w i z h)
        forwarded z h i lo' hi' p eh l sn = cases (isStored-or (w.session t).stored i)
          where
            k : awaits (stage_of w t) z ≡ bit (eqb y z)
            k = ap (λ (b : Stage). awaits b z) e

            awaits-sender : x ≡ z
            awaits-sender = sym q ∙ bit-eqb y z (let f = known.links.linked t z lo' hi' in omega (arith, p, k))

            cases : ((w.session t).stored i ≢ 0) ⊎ (stores w t i ≡ 0)
                → stores w t i ≤ underWayAfter R w mail o.sends t z h i + unless_cleaned (count_kind Kind.clean (w.up t z ++ sent_to z o.sends)) (probe_reaches R w i z h)
            cases (inr d) = omega (arith, d)
            cases (inl ne) = omega (arith, subst (λ (b : ℕ). stores w t i ≤ fresh_probes i (sent_to b o.sends)) awaits-sender (sent i (initiator-in-range z i p live_now ne)), freshProbes-right i (w.up t z) (sent_to z o.sends))

        initiator : (z h : ℕ) → 1 ≤ z → z ≤ R.M → Queued w t z → HolderIs w z h → Live w h
            → (stores w t h ≤ underWayAfter R w mail o.sends t z h h) ⊎ CycleDeclared R w t
        initiator z h lo' hi' p eh l = cases (isStored-or (w.session t).stored h)
          where
            awaits-sender : x ≡ z
            awaits-sender = sym q ∙ bit-eqb y z (let f = known.links.linked t z lo' hi' in omega (arith, p, ap (λ (b : Stage). awaits b z) e))

            cases : ((w.session t).stored h ≢ 0) ⊎ (stores w t h ≡ 0)
                → (stores w t h ≤ underWayAfter R w mail o.sends t z h h) ⊎ CycleDeclared R w t
            cases (inr d) = inl (omega (arith, d))
            cases (inl ne) = inl (omega (arith, subst (λ (b : ℕ). stores w t h ≤ fresh_probes h (sent_to b o.sends)) awaits-sender (sent h (initiator-in-range z h p live_now ne)), freshProbes-right h (w.up t z) (sent_to z o.sends)))

        requested : (z i : ℕ) → 1 ≤ z → z ≤ R.M → 1 ≤ count_kind Kind.request (w.up t z ++ sent_to z o.sends)
            → stores w t i ≤ fresh_probes i (behind_request (w.up t z ++ sent_to z o.sends))
        requested z i lo' hi' p = keep-requested z i lo' hi' (sent_to z o.sends) (no-clean-sent z o.sends none_of) (no-request-storedProbes (w.session t).stored x z (one_to R.S)) p

    cover-resend : (s : Stage) → (w.session t).stage ≡ s → CoverHeard (down resend) (on_resend R x (w.session t) s)
    unfolding on_resend stored_probes
    cover-resend growing e acts hr = cover-drop-resend acts hr (resend-nowhere growing e (λ _. refl))
    cover-resend (waiting y) e acts hr = cases (eqb y x) refl acts
      where
        off : eqb y x ≡ false → (z i : ℕ) → 1 ≤ z → z ≤ R.M → Queued w t z → (stores w t i ≡ 0) ⊎ (x ≢ z)
        off q z i lo' hi' p = inr (λ k. eqb-false y x q (bit-eqb y z (let f = known.links.linked t z lo' hi' in omega (arith, p, ap (λ (b : Stage). awaits b z) e)) ∙ sym k))

        cases : (b : Bool) → eqb y x ≡ b → SessionSends w t (cond b (probes_from (w.session t).stored x (one_to R.S)) []) mail
            → Coverage R (worldAfterSession w t (w.session t) mail)
        cases true q acts = resent-coverage y e (eqb-true y x q) acts hr
        cases false q acts = cover-drop-resend acts hr (off q)
    cover-resend (victim p y) e acts hr = cover-drop-resend acts hr (λ z i _ _ _. inl (isStored-zero (w.session t).stored i (cov.victim-stores-none t i (omega (arith, ap is_victim e)))))
    cover-resend (releasing p) e acts hr = cover-drop-resend acts hr (resend-nowhere (releasing p) e (λ _. refl))

    -- ---- probe: what is stored is not 0
    junior-positive : (i j : ℕ) → SessionTakes w t x (probe i j) mail → Live w t → junior R j t ≢ 0
    unfolding junior occurs
    junior-positive i j hr l = by-test (λ (k : ℕ). k ≢ 0) (R.senior j t) {x = t} {y = j} (λ _ z. omega (arith, z, tpos)) (λ _ z. omega (arith, z, jpos))
      where
        c : CameTo R w i j t x (MustAvoidDown R w t x (mail.down t x))
        c = let k : EachBehind (TellsDown R w t x) (w.down t x) = tr.down-true t x l in let k2 : EachBehind (TellsDown R w t x) (probe i j ∷ mail.down t x) = rw hr.head at k in behind-head k2

        tpos : 1 ≤ t
        tpos = (rg.holder x t c.held).0

        d : Edge R w c.from t
        d = record { item = x; low = c.low; high = c.high; stands = c.stands; held = c.held }

        jpos : 1 ≤ j
        jpos = elim (same? t j) [ yes q ↦ rw (← q) tpos | no q ↦ (path-in-range j (onward_path c.path d) (omega (arith, c.ranks.has-junior, ap bit (ne_eqb t j q)))).0 ]

    -- the probe is stored, or one of its initiator was
    probe-reached : (i j : ℕ) (f : ℕ → ℕ) (out : Sends) → SessionTakes w t x (probe i j) mail → f i ≢ 0 → ((k : ℕ) → stores w t k ≤ is_stored f k)
        → (k z : ℕ)
        → (probe_reaches R w k z t ≡ 0) ⊎ (1 ≤ probe_reaches R (worldAfterSession w t (record { stage = (w.session t).stage; held = (w.session t).held; stored = f }) mail) k z t)
    unfolding probe_reaches
    probe-reached i j f out hr ne hs k z = elim (same? x z) [ yes q ↦ at q (freshProbes-head k (probe i j) (mail.down t x)) | no q ↦ probeOf-some _ _ (rw updated-same (far q)) ]
      where
        far : x ≢ z
            → fresh_probes k (w.down t z) + unless_cleaned (count_kind Kind.clean (w.down t z)) (stores w t k) ≤ fresh_probes k (mail.down t z) + unless_cleaned (count_kind Kind.clean (mail.down t z)) (is_stored f k)
        far q = let u = hr.down-else z q in omega (arith, ap (fresh_probes k) u, ap (λ (d : List Message). unless_cleaned (count_kind Kind.clean d) (is_stored f k)) u, unlessCleaned-mono (count_kind Kind.clean (w.down t z)) (stores w t k) (is_stored f k) (hs k))

        at : x ≡ z
            → (fresh_probes k (probe i j ∷ mail.down t x) ≡ fresh_probes k (mail.down t x)) ⊎ ((count_kind Kind.clean (mail.down t x) ≡ 0) × (1 ≤ bit (eqb i k)))
            → (probe_reaches R w k z t ≡ 0) ⊎ (1 ≤ probe_reaches R (worldAfterSession w t (record { stage = (w.session t).stage; held = (w.session t).held; stored = f }) mail) k z t)
        at q (inl y) = probeOf-some _ _ (rw updated-same (subst
            (λ (b : ℕ). fresh_probes k (w.down t b) + unless_cleaned (count_kind Kind.clean (w.down t b)) (stores w t k) ≤ fresh_probes k (mail.down t b) + unless_cleaned
            (count_kind Kind.clean (mail.down t b)) (is_stored f k)) q
            (omega (
              arith,
              y,
              ap (fresh_probes k) hr.head,
              ap (λ (b : ℕ). unless_cleaned b (is_stored f k)) (down-kind-same x lo hi (probe i j) hr Kind.clean x refl),
              unlessCleaned-mono (count_kind Kind.clean (w.down t x)) (stores w t k) (is_stored f k) (hs k),
            ))))
        at q (inr y) = inr (rw updated-same (subst (λ (b : ℕ). 1 ≤ fresh_probes k (mail.down t b) + unless_cleaned (count_kind Kind.clean (mail.down t b)) (is_stored f k)) q
            (omega (arith, unlessCleaned-open (count_kind Kind.clean (mail.down t x)) (is_stored f k) y.0, subst (λ (b : ℕ). is_stored f b ≡ 1) (bit-eqb i k y.1) (isStored-one f i ne)))))

    isStored-updated : (f : ℕ → ℕ) (i j k : ℕ) → j ≢ 0 → is_stored f k ≤ is_stored (updated f i j) k
    isStored-updated f i j k ne = elim (same? i k) [
      | yes q ↦ omega (arith, bit_le (not (eqb (f k) 0)), isStored-one (updated f i j) k (λ z. ne (sym (updated-same f i j) ∙ (ap (updated f i j) q ∙ z))))
      | no q ↦ omega (arith, ap (λ (b : ℕ). bit (not (eqb b 0))) (updated-other f i j k q))
    ]

    -- the probe is stored as f, and p is sent to the awaited item
    probe-kept : (i j : ℕ) (f : ℕ → ℕ) (out : Sends) → Live w t → SessionTakes w t x (probe i j) mail → f i ≢ 0
        → ((k : ℕ) → stores w t k ≤ is_stored f k) → ((v : ℕ) → cleans_sent v out ≡ 0)
        → ((z : ℕ) → count_kind Kind.request (sent_to z out) ≡ 0)
        → ((k z : ℕ) → 1 ≤ z → z ≤ R.M → 1 ≤ awaits (stage_of w t) z → is_stored f k ≤ stores w t k + fresh_probes k (sent_to z out))
        → SessionSends w t out mail → Covered (record { after = record { stage = (w.session t).stage; held = (w.session t).held; stored = f }; sends = out })
    probe-kept i j f out l hr ne hs nc nr sent-on acts = plain-coverage o acts (λ y. down-kind-same x lo hi (probe i j) hr Kind.clean y refl) (λ k. k) (λ _ z k. k) (λ _ k z. probe-reached i j f out hr ne hs k z)
        (λ z h k lo' hi' p e lh sn. let y = sent-on k z lo' hi' (let q = known.links.linked t z lo' hi' in omega (arith, p)) in omega (
          arith,
          y,
          cov.stored_forwarded t z h k lo' hi' p e lh sn,
          down-kind-same x lo hi (probe i j) hr Kind.resend z refl,
          more-forwarded k z h (sent_to z out) (no-clean-sent z out nc),
        ))
        (λ z k lo' hi' p. let r : 1 ≤ count_kind Kind.request (w.up t z) = omega (arith, p, nr z, countKind-append Kind.request (w.up t z) (sent_to z out)) in
        let y = sent-on k z lo' hi' (let q = known.links.linked t z lo' hi' in omega (arith, r)) in omega (arith, y, cov.stored-requested t z k lo' hi' r, more-requested k z (sent_to z out) (no-clean-sent z out nc) r))
        (λ k v. absurd (omega (arith, v, stage-facts (stage_of w t), ap bit l)))
        (λ z h lo' hi' p e lh. three z h (sent-on h z lo' hi' (let q = known.links.linked t z lo' hi' in omega (arith, p))) (cov.initiator_or_declared t z h lo' hi' p e lh)) (declared_same x lo hi (probe i j) hr (inl refl))
      where
        three : (z h : ℕ) → is_stored f h ≤ stores w t h + fresh_probes h (sent_to z out)
            → (stores w t h ≤ under_way R w t z h h) ⊎ CycleDeclared R w t
            → (is_stored f h ≤ rebroadcast_due R w z h + cleans_from_others R w t z + count_kind Kind.resend (mail.down t z) + fresh_probes h (w.up t z ++ sent_to z out)) ⊎ CycleDeclared R w t
        three z h y (inr k) = inr k
        three z h y (inl k) = inl (omega (arith, y, k, down-kind-same x lo hi (probe i j) hr Kind.resend z refl, freshProbes-append h (w.up t z) (sent_to z out) (no-clean-sent z out nc)))

        o : SessionStep
        o = record { after = record { stage = (w.session t).stage; held = (w.session t).held; stored = f }; sends = out }

    isNews-not : (f : ℕ → ℕ) (i j : ℕ) → is_news R f i j ≡ false → f i ≢ 0
    unfolding is_news
    isNews-not f i j e z = true≢false (sym (ap (λ (b : Bool). b || R.senior (f i) j) (ap (λ (k : ℕ). eqb k 0) z)) ∙ e)

    cover-storeProbe : (i j : ℕ) (out : Sends) → Live w t → ((v : ℕ) → cleans_sent v out ≡ 0)
        → ((z : ℕ) → count_kind Kind.request (sent_to z out) ≡ 0) → ((z : ℕ) → 1 ≤ awaits (stage_of w t) z → 1 ≤ fresh_probes i (sent_to z out))
        → CoverHeard (probe i j) (store_probe R (w.session t) i (junior R j t) out)
    unfolding store_probe sent_to cleans_sent count_kind
    cover-storeProbe i j out l nc nr sent-on = by-test (CoverHeard (probe i j)) (is_news R (w.session t).stored i (junior R j t))
        (λ q acts hr. let f = updated (w.session t).stored i (junior R j t) in let ne = junior-positive i j hr l in
        probe-kept i j f out l hr (λ z. ne (sym (updated-same (w.session t).stored i (junior R j t)) ∙ z)) (λ k. isStored-updated (w.session t).stored i (junior R j t) k ne) nc nr
        (λ k z lo' hi' h. elim (same? i k) [
          | yes p ↦ omega (arith, bit_le (not (eqb (f k) 0)), subst (λ (b : ℕ). 1 ≤ fresh_probes b (sent_to z out)) p (sent-on z h))
          | no p ↦ omega (arith, ap (λ (b : ℕ). bit (not (eqb b 0))) (updated-other (w.session t).stored i (junior R j t) k p))
        ]) acts)
        (λ q acts hr. probe-kept i j (w.session t).stored [] l hr (isNews-not (w.session t).stored i (junior R j t) q) (λ k. omega arith) (λ v. refl) (λ z. refl) (λ k z _ _ _. omega arith) acts)

    -- it goes to the item that the session awaits
    probe-passed-on : (s : Stage) (i j z : ℕ) → 1 ≤ awaits s z → 1 ≤ fresh_probes i (sent_to z (to_awaited s (probe i j)))
    unfolding to_awaited sent_to count_kind fresh_probes unless_cleaned
    probe-passed-on growing i j z h = absurd (omega arith)
    probe-passed-on (waiting y) i j z h = rw (bit-eqb y z h, eqb_self) (omega (arith, ap bit (eqb_self i)))
    probe-passed-on (victim p y) i j z h = rw (bit-eqb y z h, eqb_self) (omega (arith, ap bit (eqb_self i)))
    probe-passed-on (releasing p) i j z h = absurd (omega arith)

    cover-probe : (i j : ℕ) (s : Stage) → (w.session t).stage ≡ s → CoverHeard (probe i j) (on_probe R t (w.session t) i j s)
    unfolding on_probe
    cover-probe i j s e = by-test (CoverHeard (probe i j)) (is_live s)
        (λ l. cover-storeProbe i j _ (ap is_live e ∙ l) (λ v. cleansSent-toAwaited v s i (junior R j t)) (λ z. ((neutral-toAwaited s i (junior R j t)).neutral-at z).no_request)
        (λ z h. probe-passed-on s i (junior R j t) z (rw e at h)))
        (λ l acts hr. drop-covered x lo hi (probe i j) hr acts (inl refl) refl refl (λ k. absurd (true≢false (sym k ∙ (ap is_live e ∙ l)))))

    withdrawing-elsewhere : (d : List Message) → w.down t x ≡ down withdrawn ∷ d → (h : ℕ) → Edge R w t h → ⊥
    unfolding count_kind
    withdrawing-elsewhere d e h k =
        let f = known.links.linked t x lo hi in
        let g = known.links.linked t k.item k.low k.high in
        let u = seen-facts (stage_of w t) x in
        let q : k.item ≡ x = awaits-one (awaits-item (stage_of w t) k.item (omega (arith, k.stands))) (awaits-item (stage_of w t) x (omega (arith, ap (count_kind Kind.withdrawn) e))) in
        let s : Queued w t x = rw q at k.stands in
        omega (arith, ap (count_kind Kind.withdrawn) e)

    cover-withdrawn : (s : Stage) → (w.session t).stage ≡ s → CoverHeard (down withdrawn) (on_withdrawn R (w.session t) s)
    unfolding on_withdrawn
    cover-withdrawn growing e acts hr = drop-covered x lo hi (down withdrawn) hr acts (inl refl) refl refl (λ _ _. refl)
    cover-withdrawn (waiting y) e acts hr = drop-covered x lo hi (down withdrawn) hr acts (inl refl) refl refl (λ _ _. refl)
    cover-withdrawn (victim cleaning y) e acts hr = drop-covered x lo hi (down withdrawn) hr acts (inl refl) refl refl (λ _ _. refl)
    cover-withdrawn (victim withdrawing y) e acts hr = no-probe-coverage _ acts refl (λ i. cov.victim-stores-none t i (omega (arith, ap is_victim e))) (λ g _. absurd (withdrawing-elsewhere (mail.down t x) hr.head g.next g.out))
    cover-withdrawn (releasing p) e acts hr = drop-covered x lo hi (down withdrawn) hr acts (inl refl) refl refl (λ _ _. refl)

    cover-abort : (v i : ℕ) (s : Stage) → (w.session t).stage ≡ s → CoverHeard (abort v i) (on_abort R (w.session t) v i s)
    unfolding on_abort
    cover-abort v i growing e acts hr = drop-covered x lo hi (abort v i) hr acts (inr (ap is_waiting e)) refl refl (λ _ _. refl)
    cover-abort v i (waiting y) e acts hr = no-probe-coverage _ acts refl (λ _. refl) (λ _ _. inl (omega arith))
    cover-abort v i (victim p y) e acts hr = drop-covered x lo hi (abort v i) hr acts (inr (ap is_waiting e)) refl refl (λ _ _. refl)
    cover-abort v i (releasing p) e acts hr = drop-covered x lo hi (abort v i) hr acts (inr (ap is_waiting e)) refl refl (λ _ _. refl)

    -- ---- clean, at a member that waits
    member-coverage : (v i y : ℕ) → (w.session t).stage ≡ waiting y → (h0 : ℕ) → Edge R w t h0 → (out : Sends)
        → ((z : ℕ) → 1 ≤ z → z ≤ R.M → x ≢ z → (w.session t).held z ≡ true → 1 ≤ count_kind Kind.rebroadcast (sent_to z out))
        → SessionSends w t out mail → SessionTakes w t x (clean v i) mail
        → Covered (record { after = record { stage = (w.session t).stage; held = (w.session t).held; stored = λ (_ : ℕ). 0 }; sends = out })
    unfolding held_by probe_reaches count_kind rebroadcast_due
    member-coverage v i y e h0 d out reb acts hr = session-coverage R o acts known.links cov (record {
      holder-initiator = λ a z _ lo' hi' s eh l. three a z lo' hi' s eh (same? x z);
      sender-initiator = λ _ _ _ _ _ _ _ _. inl (omega arith);
      declared-still = declared_same x lo hi (clean v i) hr (inl refl);
      holder-own = λ a z lo' hi' s eh l sn. one a z lo' hi' s eh sn (same? x z);
      holder-forwarded = λ a z k _ lo' hi' s eh l sn. forwarded a z k lo' hi' s eh sn (same? x z);
      sender-forwarded = λ _ _ _ _ _ _ _ _ _ _. omega arith;
      no_self = λ z lo' hi' s eh l. no-self-edge known.links t (record { item = z; low = lo'; high = hi'; stands = s; held = eh }) live_now;
      sender-requested = λ _ _ _ _ _. omega arith;
      sender-none = λ _ _. refl;
    })
      where
        o : SessionStep
        o = record { after = record { stage = (w.session t).stage; held = (w.session t).held; stored = λ (_ : ℕ). 0 }; sends = out }

        cleaned : World
        cleaned = worldAfterSession w t o.after mail

        live_now : Live w t
        live_now = ap is_live e

        -- the items of which it is holder it holds: no grant is on its way to it
        mask : (z : ℕ) → 1 ≤ z → z ≤ R.M → HolderIs w z t → (w.session t).held z ≡ true
        mask z lo' hi' eh =
            let k = known.links.linked t z lo' hi' in
            bit-one ((w.session t).held z) (omega (arith, ap (λ (b : Option ℕ). bit (held_by b t)) eh, ap bit (eqb_self t), stage-facts (stage_of w t), ap bit live_now, waits-no-grant known.links t h0 z d lo' hi'))

        far : (z : ℕ) → 1 ≤ z → z ≤ R.M → HolderIs w z t → x ≢ z → 1 ≤ rebroadcast_due R cleaned z t
        far z lo' hi' eh q = omega (arith, reb z lo' hi' q (mask z lo' hi' eh), ap (count_kind Kind.rebroadcast) (acts.up_at z), countKind-append Kind.rebroadcast (w.up t z) (sent_to z out))

        due : rebroadcast_due R w x t ≤ rebroadcast_due R cleaned x t
        due = rebroadcastDue-own R o acts x (λ b q. omega (arith, ap (count_kind Kind.clean) (hr.down-else b q))) (λ k. k)

        reaches : (k : ℕ) → probe_reaches R w k x t ≤ probe_reaches R cleaned k x t
        reaches k = omega (arith, ap (fresh_probes k) hr.head, freshProbes-skip k (clean v i) (mail.down t x) refl, unlessCleaned-shut (count_kind Kind.clean (w.down t x)) (stores w t k) (omega (arith, ap (count_kind Kind.clean) hr.head)))

        one : (a z : ℕ) → 1 ≤ z → z ≤ R.M → Queued w a z → HolderIs w z t → R.senior a t ≡ true → Dec (x ≡ z)
            → 1 ≤ rebroadcast_due R cleaned z t + cleans_from_queue R cleaned z + probe_reaches R cleaned a z t
        one a z lo' hi' s eh sn (no q) = omega (arith, far z lo' hi' eh q)
        one a z lo' hi' s eh sn (yes q) = subst (λ (b : ℕ). 1 ≤ rebroadcast_due R cleaned b t + cleans_from_queue R cleaned b + probe_reaches R cleaned a b t) q
            (omega (arith, cov.own-probe a x t lo hi (subst (λ (b : ℕ). Queued w a b) (sym q) s) (subst (λ (b : ℕ). (w.item b).holder ≡ some t) (sym q) eh) live_now sn, due, cleansFromQueue-grows R o acts x, reaches a))

        three : (a z : ℕ) → 1 ≤ z → z ≤ R.M → Queued w a z → HolderIs w z t → Dec (x ≡ z)
            → (stores w a t ≤ rebroadcast_due R cleaned z t + cleans_from_others R cleaned a z + count_kind Kind.resend (w.down a z) + fresh_probes t (w.up a z)) ⊎ CycleDeclared R w a
        three a z lo' hi' s eh (no q) = inl (omega (arith, far z lo' hi' eh q, bit_le (not (eqb ((w.session a).stored t) 0))))
        three a z lo' hi' s eh (yes q) = subst (λ (b : ℕ). (stores w a t ≤ rebroadcast_due R cleaned b t + cleans_from_others R cleaned a b + count_kind Kind.resend (w.down a b) + fresh_probes t (w.up a b)) ⊎ CycleDeclared R w a) q
            (cases (cov.initiator_or_declared a x t lo hi (subst (λ (b : ℕ). Queued w a b) (sym q) s) (subst (λ (b : ℕ). (w.item b).holder ≡ some t) (sym q) eh) live_now))
          where
            cases : (stores w a t ≤ under_way R w a x t t) ⊎ CycleDeclared R w a
                → (stores w a t ≤ rebroadcast_due R cleaned x t + cleans_from_others R cleaned a x + count_kind Kind.resend (w.down a x) + fresh_probes t (w.up a x)) ⊎ CycleDeclared R w a
            cases (inl k) = inl (omega (arith, k, due, cleansFromOthers-grows R o acts a x))
            cases (inr k) = inr k

        forwarded : (a z k : ℕ) → 1 ≤ z → z ≤ R.M → Queued w a z → HolderIs w z t → R.senior k t ≡ true → Dec (x ≡ z)
            → stores w a k ≤ rebroadcast_due R cleaned z t + cleans_from_others R cleaned a z + count_kind Kind.resend (w.down a z) + fresh_probes k (w.up a z) + unless_cleaned (count_kind Kind.clean (w.up a z)) (probe_reaches R cleaned k z t)
        forwarded a z k lo' hi' s eh sn (no q) = omega (arith, far z lo' hi' eh q, bit_le (not (eqb ((w.session a).stored k) 0)))
        forwarded a z k lo' hi' s eh sn (yes q) = subst (λ (b : ℕ). stores w a k ≤ rebroadcast_due R cleaned b t + cleans_from_others R cleaned a b + count_kind Kind.resend
            (w.down a b) + fresh_probes k (w.up a b) + unless_cleaned (count_kind Kind.clean (w.up a b)) (probe_reaches R cleaned k b t)) q
            (omega (
              arith,
              cov.stored_forwarded a x t k lo hi (subst (λ (b : ℕ). Queued w a b) (sym q) s) (subst (λ (b : ℕ). (w.item b).holder ≡ some t) (sym q) eh) live_now sn,
              due,
              cleansFromOthers-grows R o acts a x,
              unlessCleaned-mono (count_kind Kind.clean (w.up a x)) (probe_reaches R w k x t) (probe_reaches R cleaned k x t) (reaches k),
            ))

    member-out-edge : (v i : ℕ) → SessionTakes w t x (clean v i) mail → FirstApart (Edge R w) t v
    unfolding cleans_of
    member-out-edge v i hr =
        let is_stored : 1 ≤ cleans_of v (w.down t x) = omega (arith, ap (cleans_of v) hr.head, ap bit (eqb_self v)) in
        let s = victim-of-down known v t x is_stored in
        let c = known.victims.clean-down-on-cycle v t x is_stored in
        let k = known.victims.victim-waits v s in
        cycle-next (one-edge known.links) (known.victims.victim-on-cycle v k.0 (omega (arith, s, stage-facts (stage_of w v))) k.1).cycle (onward c.walk (record { item = x; low = c.low; high = c.high; stands = c.stands; held = c.held }))

    cover-own-clean : (v i y : ℕ) → (w.session t).stage ≡ victim cleaning y → CoverHeard (clean v i) (on_clean R t x (w.session t) v i (victim cleaning y))
    unfolding on_clean
    cover-own-clean v i y e = by-test (CoverHeard (clean v i)) (eqb v t) (λ q acts hr. no-probe-coverage _ acts refl (λ k. cov.victim-stores-none t k (omega (arith, ap is_victim e))) (λ _ _. inl (omega arith)))
        (λ q acts hr. absurd (eqb-false v t q (sym (clean-own L known t mail x lo hi v i hr (ap is_waiting e)))))

    cover-clean : (v i : ℕ) (s : Stage) → (w.session t).stage ≡ s → CoverHeard (clean v i) (on_clean R t x (w.session t) v i s)
    unfolding on_clean cleared
    cover-clean v i growing e acts hr = absurd (clean-nowhere L known t mail x lo hi v i hr (ap is_cleaning e) (ap is_waiting e))
    cover-clean v i (waiting y) e acts hr =
        let reb : Sends = rebroadcasts R x (w.session t) in
        let g = member-out-edge v i hr in
        member-coverage v i y e g.next g.out (reb ++ (y, clean v i) ∷ [])
        (λ z lo' hi' ne h. omega (
          arith,
          ap (count_kind Kind.rebroadcast) (sentTo-append z reb ((y, clean v i) ∷ [])),
          countKind-append Kind.rebroadcast (sent_to z reb) (sent_to z ((y, clean v i) ∷ [])),
          rebroadcast-to-held R x (w.session t) z lo' hi' ne h,
        )) acts hr
    cover-clean v i (victim cleaning y) e acts hr = cover-own-clean v i y e acts hr
    cover-clean v i (victim withdrawing y) e acts hr = absurd (clean-nowhere L known t mail x lo hi v i hr (ap is_cleaning e) (ap is_waiting e))
    cover-clean v i (releasing p) e acts hr = absurd (clean-nowhere L known t mail x lo hi v i hr (ap is_cleaning e) (ap is_waiting e))

    pub session-covered : (m : Message) → CoverHeard m (session_receives R t x (w.session t) m)
    unfolding session_receives
    session-covered (up m) = let k = up-kinds m in λ acts hr. drop-covered x lo hi (up m) hr acts (inl k.no_abort) k.no-clean k.no-resend (λ _ _. refl)
    session-covered (down grant) = cover-grant (w.session t).stage refl
    session-covered (down resend) = cover-resend (w.session t).stage refl
    session-covered (down withdrawn) = cover-withdrawn (w.session t).stage refl
    session-covered (probe i j) = cover-probe i j (w.session t).stage refl
    session-covered (clean v i) = cover-clean v i (w.session t).stage refl
    session-covered (abort v i) = cover-abort v i (w.session t).stage refl
