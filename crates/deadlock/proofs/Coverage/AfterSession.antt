-- Coverage after a session's step, from what it changes and what it sends.
use mathlib.Core.Path.{◌∙◌, ◌≡◌, ap, refl, subst, sym}
use mathlib.Core.Bool.{Bool, cond, false, true}
use mathlib.Core.List.{◌++◌, List}
use mathlib.Core.Option.{some}
use mathlib.Core.Logic.{◌≢◌, ◌⊎◌, inl, inr}
use Prim.Native.Nat.{◌+◌, ◌≤◌, ℕ}
use native.Mathlib.Omega.{arith}
use Rattle.lists.specs.Lists.{sum_up_to}
use Rattle.lists.proofs.Tests.{same?}
use Rattle.lists.proofs.Searches.{sum_mono}
use Rattle.deadlock.specs.Machine.{is_live, Message, Rules, Sends, Session, SessionStep}
use Rattle.message.specs.Kind
use Rattle.deadlock.specs.Counts.{behind_request, count_kind, except, fresh_probes, is_stored, sent_to, unless_cleaned}
use Rattle.deadlock.specs.Walks.{FirstApart, Walk}
use Rattle.deadlock.specs.World.{Edge, HolderIs, is_victim, is_waiting, Links, Live, Mail, Queued, stage_of, VictimIn, World}
use Rattle.deadlock.specs.Coverage.{AbortPending, cleans_elsewhere, cleans_from_others, cleans_from_queue, Coverage, CycleDeclared, probe_reaches, rebroadcast_due, stores, under_way}
use Rattle.deadlock.proofs.Laws.Lists.{updated-other, updated-same}
use Rattle.deadlock.proofs.Laws.Routes.{countKind-append}
use Rattle.deadlock.proofs.Laws.Walks.{cycle-turned}
use Rattle.deadlock.proofs.Victims.OneOnCycle.{one-edge}
use Rattle.deadlock.proofs.Probes.OthersStay.{SessionSends, stage-other, stage-own, worldAfterSession}
use Rattle.deadlock.proofs.Coverage.Sums.{except-mono, sumOver-mono}

-- what is under way once session t has sent `out` and taken a message
abbrev pub underWayAfter : Rules → World → Mail → Sends → ℕ → ℕ → ℕ → ℕ → ℕ
underWayAfter R w mail out t z h i = rebroadcast_due R w z h + cleans_from_others R w t z + count_kind Kind.resend (mail.down t z) + fresh_probes i (w.up t z ++ sent_to z out)

module _ (R : Rules) {w : World} {t : ℕ} (o : SessionStep) {mail : Mail} (acts : SessionSends w t o.sends mail) where
  abbrev pub after : World
  after = worldAfterSession w t o.after mail

  up-kind-grows : (k a z : ℕ) → Dec (t ≡ a) → count_kind k (w.up a z) ≤ count_kind k (mail.up a z)
  up-kind-grows k a z (yes q) = rw (← q) (omega (arith, ap (count_kind k) (acts.up_at z), countKind-append k (w.up t z) (sent_to z o.sends)))
  up-kind-grows k a z (no q) = omega (arith, ap (count_kind k) (acts.up-off a z q))

  pub cleansFromQueue-grows : (z : ℕ) → cleans_from_queue R w z ≤ cleans_from_queue R after z
  unfolding cleans_from_queue
  cleansFromQueue-grows z = sumOver-mono _ _ (λ a. up-kind-grows 4 a z (same? t a)) (w.item z).queue

  pub cleansFromOthers-grows : (a z : ℕ) → cleans_from_others R w a z ≤ cleans_from_others R after a z
  unfolding cleans_from_others
  cleansFromOthers-grows a z = sumOver-mono _ _ (except-mono a _ _ (λ b _. up-kind-grows 4 b z (same? t b))) (w.item z).queue

  rebroadcastDue-other : (z h : ℕ) → t ≢ h → rebroadcast_due R w z h ≤ rebroadcast_due R after z h
  unfolding rebroadcast_due cleans_elsewhere
  rebroadcastDue-other z h q =
      let s : sum_up_to R.M (except z (λ y. count_kind Kind.clean (w.down h y))) ≤ sum_up_to R.M (except z (λ y. count_kind Kind.clean (mail.down h y))) = sum_mono R.M
      _ _ (λ a _ _. except-mono z _ _ (λ y _. omega (arith, ap (count_kind Kind.clean) (acts.down-off h y q))) a) in
      rw (updated-other w.session t o.after h q) (cases ((w.session h).held z) s)
    where
      cases : (b : Bool) → cleans_elsewhere R w h z ≤ cleans_elsewhere R after h z
          → count_kind Kind.rebroadcast (w.up h z) + cond b (cleans_elsewhere R w h z) 0 ≤ count_kind Kind.rebroadcast (mail.up h z) + cond b (cleans_elsewhere R after h z) 0
      cases true s = omega (arith, s, ap (count_kind Kind.rebroadcast) (acts.up-off h z q))
      cases false s = omega (arith, ap (count_kind Kind.rebroadcast) (acts.up-off h z q))

  pub rebroadcastDue-own : (z : ℕ) → ((y : ℕ) → z ≢ y → count_kind Kind.clean (w.down t y) ≤ count_kind Kind.clean (mail.down t y))
      → ((w.session t).held z ≡ true → o.after.held z ≡ true) → rebroadcast_due R w z t ≤ rebroadcast_due R after z t
  unfolding rebroadcast_due cleans_elsewhere
  rebroadcastDue-own z d f =
      let s : sum_up_to R.M (except z (λ y. count_kind Kind.clean (w.down t y))) ≤ sum_up_to R.M (except z (λ y. count_kind Kind.clean (mail.down t y))) = sum_mono R.M _ _ (λ a _ _. except-mono z _ _ d a) in
      rw updated-same (cases ((w.session t).held z) refl s)
    where
      cases : (b : Bool) → (w.session t).held z ≡ b → cleans_elsewhere R w t z ≤ cleans_elsewhere R after t z
          → count_kind Kind.rebroadcast (w.up t z) + cond b (cleans_elsewhere R w t z) 0 ≤ count_kind Kind.rebroadcast (mail.up t z) + cond (o.after.held z) (cleans_elsewhere R after t z) 0
      cases true e s = rw (f e) (omega (arith, s, up-kind-grows 5 t z (same? t t)))
      cases false e s = omega (arith, up-kind-grows 5 t z (same? t t))

  probeReaches-other : (i z h : ℕ) → t ≢ h → probe_reaches R after i z h ≡ probe_reaches R w i z h
  unfolding probe_reaches
  probeReaches-other i z h q = rw (updated-other w.session t o.after h q) (ap (λ (d : List Message). fresh_probes i d + unless_cleaned (count_kind Kind.clean d) (stores w h i)) (acts.down-off h z q))

  -- the clauses in which the session is the one that waits (sender) or the holder, after its step
  pub record SessionCoverage : Type 0 where
    pub holder-own : (a z : ℕ) → 1 ≤ z → z ≤ R.M → Queued w a z → HolderIs w z t → is_live o.after.stage ≡ true
        → R.senior a t ≡ true → 1 ≤ rebroadcast_due R after z t + cleans_from_queue R after z + probe_reaches R after a z t
    pub holder-forwarded : (a z i : ℕ) → t ≢ a → 1 ≤ z → z ≤ R.M → Queued w a z → HolderIs w z t
        → is_live o.after.stage ≡ true → R.senior i t ≡ true
        → stores w a i ≤ rebroadcast_due R after z t + cleans_from_others R after a z + count_kind Kind.resend (w.down a z) + fresh_probes i (w.up a z) + unless_cleaned (count_kind Kind.clean (w.up a z)) (probe_reaches R after i z t)
    pub sender-forwarded : (z h i : ℕ) → t ≢ h → 1 ≤ z → z ≤ R.M → Queued w t z → HolderIs w z h → Live w h
        → R.senior i h ≡ true
        → is_stored o.after.stored i ≤ underWayAfter R w mail o.sends t z h i + unless_cleaned (count_kind Kind.clean (w.up t z ++ sent_to z o.sends)) (probe_reaches R w i z h)
    pub holder-initiator : (a z : ℕ) → t ≢ a → 1 ≤ z → z ≤ R.M → Queued w a z → HolderIs w z t → is_live o.after.stage ≡ true
        → (stores w a t ≤ rebroadcast_due R after z t + cleans_from_others R after a z + count_kind Kind.resend (w.down a z) + fresh_probes t (w.up a z)) ⊎ CycleDeclared R w a
    pub sender-initiator : (z h : ℕ) → t ≢ h → 1 ≤ z → z ≤ R.M → Queued w t z → HolderIs w z h → Live w h
        → (is_stored o.after.stored h ≤ underWayAfter R w mail o.sends t z h h) ⊎ CycleDeclared R w t
    pub declared-still : FirstApart (Edge R w) t t → VictimIn w t ⊎ AbortPending R w t
        → (1 ≤ is_victim o.after.stage) ⊎ ((1 ≤ is_waiting o.after.stage) × (y : ℕ) × (1 ≤ count_kind Kind.abort (mail.down t y)))
    pub no_self : (z : ℕ) → 1 ≤ z → z ≤ R.M → Queued w t z → HolderIs w z t → is_live o.after.stage ≡ true → ⊥
    pub sender-requested : (z i : ℕ) → 1 ≤ z → z ≤ R.M → 1 ≤ count_kind Kind.request (w.up t z ++ sent_to z o.sends)
        → is_stored o.after.stored i ≤ fresh_probes i (behind_request (w.up t z ++ sent_to z o.sends))
    pub sender-none : (i : ℕ) → 1 ≤ is_victim o.after.stage → o.after.stored i ≡ 0

  pub session-coverage : Links R w → Coverage R w → SessionCoverage → Coverage R after
  session-coverage lk c k = record {
    initiator_or_declared = λ a z h lo hi s e l. initiator-of a z h lo hi s e l (same? t h) (same? t a);
    own-probe = λ a z h lo hi s e l sn. own_of a z h lo hi s e l sn (same? t h);
    stored_forwarded = λ a z h i lo hi s e l sn. forwarded-of a z h i lo hi s e l sn (same? t h) (same? t a);
    stored-requested = λ a z i lo hi p. requested-of a z i lo hi p (same? t a);
    victim-stores-none = λ a i s. none_of a i s (same? t a);
  }
    where
      live_own : (h : ℕ) → t ≡ h → Live after h → is_live o.after.stage ≡ true
      live_own h q l = sym (ap is_live (stage-own R o acts)) ∙ (ap (λ (u : ℕ). is_live (stage_of after u)) q ∙ l)

      live-off : (h : ℕ) → t ≢ h → Live after h → Live w h
      live-off h q l = sym (ap is_live (stage-other R o acts h q)) ∙ l

      own-store : (a i : ℕ) → t ≡ a → stores after a i ≡ is_stored o.after.stored i
      own-store a i q = ap (λ (u : ℕ). stores after u i) (sym q) ∙ ap (λ (r : Session). is_stored r.stored i) (updated-same w.session t o.after)

      off-store : (a i : ℕ) → t ≢ a → stores after a i ≡ stores w a i
      off-store a i q = ap (λ (r : Session). is_stored r.stored i) (updated-other w.session t o.after a q)

      own_of : (a z h : ℕ) → 1 ≤ z → z ≤ R.M → Queued w a z → HolderIs w z h → Live after h
          → R.senior a h ≡ true → Dec (t ≡ h) → 1 ≤ rebroadcast_due R after z h + cleans_from_queue R after z + probe_reaches R after a z h
      own_of a z h lo hi s e l sn (no q) = omega (arith, c.own-probe a z h lo hi s e (live-off h q l) sn, rebroadcastDue-other z h q, cleansFromQueue-grows z, probeReaches-other a z h q)
      own_of a z h lo hi s e l sn (yes q) =
          subst (λ (b : ℕ). 1 ≤ rebroadcast_due R after z b + cleans_from_queue R after z + probe_reaches R after a z b) q (k.holder-own a z lo hi s (e ∙ ap some (sym q)) (live_own h q l) (subst (λ (b : ℕ). R.senior a b ≡ true) (sym q) sn))

      forwarded-of : (a z h i : ℕ) → 1 ≤ z → z ≤ R.M → Queued w a z → HolderIs w z h → Live after h
          → R.senior i h ≡ true → Dec (t ≡ h) → Dec (t ≡ a)
          → stores after a i ≤ under_way R after a z h i + unless_cleaned (count_kind Kind.clean (mail.up a z)) (probe_reaches R after i z h)
      forwarded-of a z h i lo hi s e l sn (no q) (no y) =
          let u = acts.up-off a z y in
          omega (
            arith,
            c.stored_forwarded a z h i lo hi s e (live-off h q l) sn,
            rebroadcastDue-other z h q,
            cleansFromOthers-grows a z,
            ap (count_kind Kind.resend) (acts.down-off a z y),
            ap (fresh_probes i) u,
            off-store a i y,
            ap (λ (d : List Message). unless_cleaned (count_kind Kind.clean d) (probe_reaches R after i z h))
                u,
            ap (unless_cleaned (count_kind Kind.clean (w.up a z))) (probeReaches-other i z h q),
          )
      forwarded-of a z h i lo hi s e l sn (no q) (yes y) =
          let s2 : Queued w t z = subst (λ (b : ℕ). Queued w b z) (sym y) s in
          let u = acts.up_at z in
          let g : is_stored o.after.stored i ≤ under_way R after t z h i + unless_cleaned (count_kind Kind.clean (mail.up t z)) (probe_reaches R after i z h) =
          omega (
            arith,
            k.sender-forwarded z h i q lo hi s2 e (live-off h q l) sn,
            rebroadcastDue-other z h q,
            cleansFromOthers-grows t z,
            ap (fresh_probes i) u,
            ap (λ (d : List Message). unless_cleaned (count_kind Kind.clean d) (probe_reaches R after i z h)) u,
            ap (unless_cleaned (count_kind Kind.clean (w.up t z ++ sent_to z o.sends))) (probeReaches-other i z h q),
          ) in
          let forwarded-of : stores after t i ≤ under_way R after t z h i + unless_cleaned (count_kind Kind.clean (mail.up t z)) (probe_reaches R after i z h) = omega (arith, g, own-store t i refl) in
          subst (λ (b : ℕ). stores after b i ≤ under_way R after b z h i + unless_cleaned (count_kind Kind.clean (mail.up b z)) (probe_reaches R after i z h)) y forwarded-of
      forwarded-of a z h i lo hi s e l sn (yes q) (no y) =
          let u = acts.up-off a z y in
          let g = k.holder-forwarded a z i y lo hi s (e ∙ ap some (sym q)) (live_own h q l) (subst (λ (b : ℕ). R.senior i b ≡ true) (sym q) sn) in
          let forwarded-of : stores after a i ≤ under_way R after a z t i + unless_cleaned (count_kind Kind.clean (mail.up a z))
          (probe_reaches R after i z t) = omega (
            arith,
            g,
            off-store a i y,
            ap (count_kind Kind.resend) (acts.down-off a z y),
            ap (fresh_probes i) u,
            ap (λ (d : List Message). unless_cleaned (count_kind Kind.clean d) (probe_reaches R after i z t)) u,
          ) in
          subst (λ (b : ℕ). stores after a i ≤ under_way R after a z b i + unless_cleaned (count_kind Kind.clean (mail.up a z)) (probe_reaches R after i z b)) q forwarded-of
      forwarded-of a z h i lo hi s e l sn (yes q) (yes y) = absurd (k.no_self z lo hi (subst (λ (b : ℕ). Queued w b z) (sym y) s) (e ∙ ap some (sym q)) (live_own h q l))

      decl : (a : ℕ) → CycleDeclared R w a → CycleDeclared R after a
      decl a d = record { cycle = d.cycle; place = d.place; walk = d.walk; how = cases (same? t d.place) d.how }
        where
          off : t ≢ d.place → VictimIn w d.place ⊎ AbortPending R w d.place → VictimIn after d.place ⊎ AbortPending R after d.place
          off q (inl v) = inl (omega (arith, v, ap is_victim (stage-other R o acts d.place q)))
          off q (inr p) = inr (record { waits = omega (arith, p.waits, ap is_waiting (stage-other R o acts d.place q)); item = p.item; sent = omega (arith, p.sent, ap (count_kind Kind.abort) (acts.down-off d.place p.item q)) })

          mine : (1 ≤ is_victim o.after.stage) ⊎ ((1 ≤ is_waiting o.after.stage) × (y : ℕ) × (1 ≤ count_kind Kind.abort (mail.down t y)))
              → VictimIn after t ⊎ AbortPending R after t
          mine (inl v) = inl (omega (arith, v, ap is_victim (stage-own R o acts)))
          mine (inr p) = inr (record { waits = omega (arith, p.0, ap is_waiting (stage-own R o acts)); item = p.1; sent = p.2 })

          cases : Dec (t ≡ d.place) → VictimIn w d.place ⊎ AbortPending R w d.place
              → VictimIn after d.place ⊎ AbortPending R after d.place
          cases (no q) p = off q p
          cases (yes q) p =
              let wt : Walk (Edge R w) a t = subst (λ (b : ℕ). Walk (Edge R w) a b) (sym q) d.walk in
              subst (λ (b : ℕ). VictimIn after b ⊎ AbortPending R after b) q (mine (k.declared-still (cycle-turned (one-edge lk) d.cycle wt) (subst (λ (b : ℕ). VictimIn w b ⊎ AbortPending R w b) (sym q) p)))

      more : (a p q : ℕ) (b : ℕ) → p ≤ q → (b ≤ p) ⊎ CycleDeclared R w a → (b ≤ q) ⊎ CycleDeclared R after a
      more a p q b l (inl h) = inl (omega (arith, h, l))
      more a p q b l (inr d) = inr (decl a d)

      initiator-of : (a z h : ℕ) → 1 ≤ z → z ≤ R.M → Queued w a z → HolderIs w z h → Live after h
          → Dec (t ≡ h) → Dec (t ≡ a)
          → (stores after a h ≤ under_way R after a z h h) ⊎ CycleDeclared R after a
      initiator-of a z h lo hi s e l (no q) (no y) =
          rw (updated-other w.session t o.after a y)
          (more a _ _ _ (omega (arith, rebroadcastDue-other z h q, cleansFromOthers-grows a z, ap (count_kind Kind.resend) (acts.down-off a z y), ap (fresh_probes h) (acts.up-off a z y))) (c.initiator_or_declared a z h lo hi s e (live-off h q l)))
      initiator-of a z h lo hi s e l (no q) (yes y) =
          let s2 : Queued w t z = subst (λ (b : ℕ). Queued w b z) (sym y) s in
          let g : (is_stored o.after.stored h ≤ under_way R after t z h h) ⊎ CycleDeclared R after t =
          more t (underWayAfter R w mail o.sends t z h h) (under_way R after t z h h) (is_stored o.after.stored h)
          (omega (arith, rebroadcastDue-other z h q, cleansFromOthers-grows t z, ap (fresh_probes h) (acts.up_at z))) (k.sender-initiator z h q lo hi s2 e (live-off h q l)) in
          let forwarded-of : (stores after t h ≤ under_way R after t z h h) ⊎ CycleDeclared R after t = subst (λ (b : ℕ). (b ≤ under_way R after t z h h) ⊎ CycleDeclared R after t) (sym (own-store t h refl)) g in
          subst (λ (b : ℕ). (stores after b h ≤ under_way R after b z h h) ⊎ CycleDeclared R after b) y forwarded-of
      initiator-of a z h lo hi s e l (yes q) (no y) =
          subst (λ (b : ℕ). (stores after a b ≤ under_way R after a z b b) ⊎ CycleDeclared R after a) q
          (rw (updated-other w.session t o.after a y)
          (more a _ _ _ (omega (arith, ap (count_kind Kind.resend) (acts.down-off a z y), ap (fresh_probes t) (acts.up-off a z y))) (k.holder-initiator a z y lo hi s (e ∙ ap some (sym q)) (live_own h q l))))
      initiator-of a z h lo hi s e l (yes q) (yes y) = absurd (k.no_self z lo hi (subst (λ (b : ℕ). Queued w b z) (sym y) s) (e ∙ ap some (sym q)) (live_own h q l))

      requested-of : (a z i : ℕ) → 1 ≤ z → z ≤ R.M → 1 ≤ count_kind Kind.request (mail.up a z) → Dec (t ≡ a)
          → stores after a i ≤ fresh_probes i (behind_request (mail.up a z))
      requested-of a z i lo hi p (no q) = let u = acts.up-off a z q in omega (arith, c.stored-requested a z i lo hi (omega (arith, p, ap (count_kind Kind.request) u)), off-store a i q, ap (λ (d : List Message). fresh_probes i (behind_request d)) u)
      requested-of a z i lo hi p (yes q) =
          let p2 : 1 ≤ count_kind Kind.request (mail.up t z) = subst (λ (b : ℕ). 1 ≤ count_kind Kind.request (mail.up b z)) (sym q) p in
          let u = acts.up_at z in
          let g : stores after t i ≤ fresh_probes i (behind_request (mail.up t z)) = omega (
            arith,
            k.sender-requested z i lo hi (omega (arith, p2, ap (count_kind Kind.request) u)),
            own-store t i refl,
            ap (λ (d : List Message). fresh_probes i (behind_request d)) u,
          ) in
          subst (λ (b : ℕ). stores after b i ≤ fresh_probes i (behind_request (mail.up b z))) q g

      none_of : (a i : ℕ) → VictimIn after a → Dec (t ≡ a) → (after.session a).stored i ≡ 0
      none_of a i s (no q) = ap (λ (r : Session). r.stored i) (updated-other w.session t o.after a q) ∙ c.victim-stores-none a i (omega (arith, s, ap is_victim (stage-other R o acts a q)))
      none_of a i s (yes q) = ap (λ (u : ℕ). (after.session u).stored i)
          (sym q) ∙ (ap (λ (r : Session). r.stored i) (updated-same w.session t o.after) ∙ k.sender-none i
          (omega (arith, s, ap is_victim (stage-own R o acts), ap (λ (u : ℕ). is_victim (stage_of after u)) q)))
