-- Coverage after an item's step: at other items as it was, at this one by what the item sends.
use mathlib.Core.Path.{◌∙◌, ◌≡◌, ap, refl, subst, sym}
use mathlib.Core.Bool.{Bool, cond, false, true}
use mathlib.Core.List.{◌∷◌, List}
use mathlib.Core.Option.{some}
use mathlib.Core.Logic.{◌≢◌, ◌⊎◌, inl, inr}
use Prim.Native.Nat.{◌+◌, ◌≤◌, ℕ}
use native.Mathlib.Omega.{arith}
use lib.Dec.{eqb}
use Rattle.lists.proofs.Tests.{same?}
use Rattle.lists.proofs.Searches.{sum_mono}
use Rattle.deadlock.specs.Lists.{bit, occurs}
use Rattle.deadlock.specs.Machine.{Item, Message, Rules, Sends}
use Rattle.message.specs.Kind
use Rattle.deadlock.specs.Counts.{behind_request, count_kind, fresh_probes, kind_of, sent_to, unless_cleaned}
use Rattle.deadlock.specs.World.{Edge, HolderIs, Live, Mail, Queued, World}
use Rattle.deadlock.specs.Coverage.{cleans_elsewhere, cleans_from_others, cleans_from_queue, Coverage, CycleDeclared, probe_reaches, rebroadcast_due, stores, under_way}
use Rattle.deadlock.proofs.Laws.Lists.{updated-other, updated-same, zero-or-more}
use Rattle.deadlock.proofs.Laws.Routes.{countKind-append}
use Rattle.deadlock.proofs.Probes.PathsStay.{ItemTakes, worldAfterItem}
use Rattle.deadlock.proofs.Coverage.Sums.{except-mono, freshProbes-append, freshProbes-right, sumOver-mono}

module _ (R : Rules) {w : World} {t x : ℕ} {m : Message} (i : Item) {out : Sends} {mail : Mail} (lo : 1 ≤ x) (hi : x ≤ R.M) (ar : ItemTakes w t x m out mail) where
  abbrev pub after : World
  after = worldAfterItem w x i mail

  pub up-kind-ge : (k a z : ℕ) → Dec (t ≡ a) → Dec (x ≡ z) → count_kind k (w.up a z) ≤ bit (eqb (kind_of m) k) + count_kind k (mail.up a z)
  unfolding count_kind
  up-kind-ge k a z (yes p) (yes q) = rw (← p, ← q) (omega (arith, ap (count_kind k) ar.head))
  up-kind-ge k a z (no p) d = omega (arith, ap (count_kind k) (ar.up-off a z (inl p)))
  up-kind-ge k a z (yes p) (no q) = omega (arith, ap (count_kind k) (ar.up-off a z (inr q)))

  pub down-kind-ge : (k a z : ℕ) → Dec (x ≡ z) → count_kind k (w.down a z) ≤ count_kind k (mail.down a z)
  down-kind-ge k a z (yes q) = rw (← q) (omega (arith, ap (count_kind k) (ar.down-at a), countKind-append k (w.down a x) (sent_to a out)))
  down-kind-ge k a z (no q) = omega (arith, ap (count_kind k) (ar.down-off a z q))

  cleansElsewhere-ge : (h z : ℕ) → cleans_elsewhere R w h z ≤ cleans_elsewhere R after h z
  unfolding cleans_elsewhere
  cleansElsewhere-ge h z = sum_mono R.M _ _ (λ a _ _. except-mono z (λ y. count_kind Kind.clean (w.down h y)) (λ y. count_kind Kind.clean (mail.down h y)) (λ y _. down-kind-ge 4 h y (same? x y)) a)

  rebroadcastDue-of : (z h : ℕ) → count_kind Kind.rebroadcast (w.up h z) ≤ count_kind Kind.rebroadcast (mail.up h z) → rebroadcast_due R w z h ≤ rebroadcast_due R after z h
  unfolding rebroadcast_due
  rebroadcastDue-of z h f = cases ((w.session h).held z)
    where
      cases : (b : Bool)
          → count_kind Kind.rebroadcast (w.up h z) + cond b (cleans_elsewhere R w h z) 0 ≤ count_kind Kind.rebroadcast (mail.up h z) + cond b (cleans_elsewhere R after h z) 0
      cases true = omega (arith, f, cleansElsewhere-ge h z)
      cases false = omega (arith, f)

  -- where no rebroadcast is taken
  pub rebroadcastDue-ge : eqb (kind_of m) Kind.rebroadcast ≡ false → (z h : ℕ) → rebroadcast_due R w z h ≤ rebroadcast_due R after z h
  rebroadcastDue-ge e z h = rebroadcastDue-of z h (omega (arith, up-kind-ge 5 h z (same? t h) (same? x z), ap bit e))

  -- what has come to the holder, or is on its way there
  pub probeReaches-ge : (j h : ℕ) → count_kind Kind.clean (sent_to h out) ≡ 0 → probe_reaches R w j x h ≤ probe_reaches R after j x h
  unfolding probe_reaches
  probeReaches-ge j h z =
      let c : count_kind Kind.clean (mail.down h x) ≡ count_kind Kind.clean (w.down h x) = omega (arith, ap (count_kind Kind.clean) (ar.down-at h), countKind-append Kind.clean (w.down h x) (sent_to h out)) in
      omega (arith, ap (fresh_probes j) (ar.down-at h), freshProbes-append j (w.down h x) (sent_to h out) z, ap (λ (k : ℕ). unless_cleaned k (stores w h j)) c)

  pub probeReaches-new : (j h : ℕ) → 1 ≤ fresh_probes j (sent_to h out) → 1 ≤ probe_reaches R after j x h
  unfolding probe_reaches
  probeReaches-new j h p = omega (arith, ap (fresh_probes j) (ar.down-at h), freshProbes-right j (w.down h x) (sent_to h out))

  far-probeReaches : (j z h : ℕ) → x ≢ z → probe_reaches R w j z h ≡ probe_reaches R after j z h
  unfolding probe_reaches
  far-probeReaches j z h q = ap (λ (d : List Message). fresh_probes j d + unless_cleaned (count_kind Kind.clean d) (stores w h j)) (sym (ar.down-off h z q))

  far-cleansFromQueue : (z : ℕ) → x ≢ z → cleans_from_queue R w z ≤ cleans_from_queue R after z
  unfolding cleans_from_queue
  far-cleansFromQueue z q = rw (updated-other w.item x i z q) (sumOver-mono _ _ (λ a. omega (arith, ap (count_kind Kind.clean) (ar.up-off a z (inr q)))) (w.item z).queue)

  far-cleansFromOthers : (a z : ℕ) → x ≢ z → cleans_from_others R w a z ≤ cleans_from_others R after a z
  unfolding cleans_from_others
  far-cleansFromOthers a z q = rw (updated-other w.item x i z q) (sumOver-mono _ _ (except-mono a _ _ (λ b _. omega (arith, ap (count_kind Kind.clean) (ar.up-off b z (inr q))))) (w.item z).queue)

  -- the clauses at the item itself, after its step
  pub record CoverageAt : Type 0 where
    pub at-own-probe : (a h : ℕ) → 1 ≤ occurs a i.queue → i.holder ≡ some h → Live w h → R.senior a h ≡ true
        → 1 ≤ rebroadcast_due R after x h + cleans_from_queue R after x + probe_reaches R after a x h
    pub at-forwarded : (a h j : ℕ) → 1 ≤ occurs a i.queue → i.holder ≡ some h → Live w h → R.senior j h ≡ true
        → stores w a j ≤ under_way R after a x h j + unless_cleaned (count_kind Kind.clean (mail.up a x)) (probe_reaches R after j x h)
    pub at-initiator : (a h : ℕ) → 1 ≤ occurs a i.queue → i.holder ≡ some h → Live w h
        → (stores w a h ≤ under_way R after a x h h) ⊎ CycleDeclared R after a
    pub one-request : count_kind Kind.request (m ∷ mail.up t x) ≤ 1

  -- a declared cycle stays declared where a member stores a probe of the session that it waits for
  abbrev pub DeclaredKept : Type 0
  DeclaredKept = (a h : ℕ) → Edge R w a h → 1 ≤ stores w a h → CycleDeclared R w a → CycleDeclared R after a

  pub declared-or-covered : DeclaredKept → (a h k k' : ℕ) → Edge R w a h → k ≤ k' → (stores w a h ≤ k) ⊎ CycleDeclared R w a
      → (stores w a h ≤ k') ⊎ CycleDeclared R after a
  declared-or-covered dk a h k k' e l (inl p) = inl (omega (arith, p, l))
  declared-or-covered dk a h k k' e l (inr d) = cases (zero-or-more (stores w a h))
    where
      cases : (stores w a h ≡ 0) ⊎ (1 ≤ stores w a h) → (stores w a h ≤ k') ⊎ CycleDeclared R after a
      cases (inl z) = inl (omega (arith, z))
      cases (inr p) = inr (dk a h e p d)

  pub item-coverage : Coverage R w → DeclaredKept → CoverageAt → Coverage R after
  unfolding count_kind behind_request
  item-coverage c dk at = record {
    initiator_or_declared = λ a z h lo' hi' s e l. initiator-of a z h lo' hi' s e l (same? x z);
    own-probe = λ a z h lo' hi' s e l sn. own_of a z h lo' hi' s e l sn (same? x z);
    stored_forwarded = λ a z h j lo' hi' s e l sn. forwarded-of a z h j lo' hi' s e l sn (same? x z);
    stored-requested = λ a z j lo' hi' p. requested-of a z j lo' hi' p (same? t a) (same? x z);
    victim-stores-none = λ a j s. c.victim-stores-none a j s;
  }
    where
      due-elsewhere : (z h : ℕ) → x ≢ z → rebroadcast_due R w z h ≤ rebroadcast_due R after z h
      due-elsewhere z h q = rebroadcastDue-of z h (omega (arith, ap (count_kind Kind.rebroadcast) (ar.up-off h z (inr q))))

      own_of : (a z h : ℕ) → 1 ≤ z → z ≤ R.M → Queued after a z → HolderIs after z h → Live w h
          → R.senior a h ≡ true → Dec (x ≡ z) → 1 ≤ rebroadcast_due R after z h + cleans_from_queue R after z + probe_reaches R after a z h
      own_of a z h lo' hi' s e l sn (yes q) =
          let s2 : 1 ≤ occurs a i.queue = rw updated-same at (subst (λ (y : ℕ). Queued after a y) (sym q) s) in
          let e2 : i.holder ≡ some h = rw updated-same at (subst (λ (y : ℕ). (after.item y).holder ≡ some h) (sym q) e) in
          subst (λ (y : ℕ). 1 ≤ rebroadcast_due R after y h + cleans_from_queue R after y + probe_reaches R after a y h) q (at.at-own-probe a h s2 e2 l sn)
      own_of a z h lo' hi' s e l sn (no q) =
          omega (arith, c.own-probe a z h lo' hi' (rw (updated-other w.item x i z q) at s) (rw (updated-other w.item x i z q) at e) l sn, due-elsewhere z h q, far-cleansFromQueue z q, far-probeReaches a z h q)

      forwarded-of : (a z h j : ℕ) → 1 ≤ z → z ≤ R.M → Queued after a z → HolderIs after z h → Live w h
          → R.senior j h ≡ true → Dec (x ≡ z)
          → stores w a j ≤ under_way R after a z h j + unless_cleaned (count_kind Kind.clean (mail.up a z)) (probe_reaches R after j z h)
      forwarded-of a z h j lo' hi' s e l sn (yes q) =
          let s2 : 1 ≤ occurs a i.queue = rw updated-same at (subst (λ (y : ℕ). Queued after a y) (sym q) s) in
          let e2 : i.holder ≡ some h = rw updated-same at (subst (λ (y : ℕ). (after.item y).holder ≡ some h) (sym q) e) in
          subst (λ (y : ℕ). stores w a j ≤ under_way R after a y h j + unless_cleaned (count_kind Kind.clean (mail.up a y)) (probe_reaches R after j y h)) q (at.at-forwarded a h j s2 e2 l sn)
      forwarded-of a z h j lo' hi' s e l sn (no q) =
          let u = ar.up-off a z (inr q) in
          omega (
            arith,
            c.stored_forwarded a z h j lo' hi' (rw (updated-other w.item x i z q) at s) (rw (updated-other w.item x i z q) at e) l sn,
            due-elsewhere z h q,
            far-cleansFromOthers a z q,
            ap (count_kind Kind.resend) (ar.down-off a z q),
            ap (fresh_probes j) u,
            ap (λ (k : List Message). unless_cleaned (count_kind Kind.clean k) (probe_reaches R w j z h)) u,
            ap (unless_cleaned (count_kind Kind.clean (mail.up a z))) (far-probeReaches j z h q),
          )

      initiator-of : (a z h : ℕ) → 1 ≤ z → z ≤ R.M → Queued after a z → HolderIs after z h → Live w h → Dec (x ≡ z)
          → (stores w a h ≤ under_way R after a z h h) ⊎ CycleDeclared R after a
      initiator-of a z h lo' hi' s e l (yes q) =
          let s2 : 1 ≤ occurs a i.queue = rw updated-same at (subst (λ (y : ℕ). Queued after a y) (sym q) s) in
          let e2 : i.holder ≡ some h = rw updated-same at (subst (λ (y : ℕ). (after.item y).holder ≡ some h) (sym q) e) in
          subst (λ (y : ℕ). (stores w a h ≤ under_way R after a y h h) ⊎ CycleDeclared R after a) q (at.at-initiator a h s2 e2 l)
      initiator-of a z h lo' hi' s e l (no q) =
          let s0 : Queued w a z = rw (updated-other w.item x i z q) at s in
          let e0 : HolderIs w z h = rw (updated-other w.item x i z q) at e in
          declared-or-covered dk a h _ _ (record { item = z; low = lo'; high = hi'; stands = s0; held = e0 })
          (omega (arith, due-elsewhere z h q, far-cleansFromOthers a z q, ap (count_kind Kind.resend) (ar.down-off a z q), ap (fresh_probes h) (ar.up-off a z (inr q)))) (c.initiator_or_declared a z h lo' hi' s0 e0 l)

      requested-of : (a z j : ℕ) → 1 ≤ z → z ≤ R.M → 1 ≤ count_kind Kind.request (mail.up a z) → Dec (t ≡ a) → Dec (x ≡ z)
          → stores w a j ≤ fresh_probes j (behind_request (mail.up a z))
      requested-of a z j lo' hi' p (no q) d = let u = ar.up-off a z (inl q) in omega (arith, c.stored-requested a z j lo' hi' (omega (arith, p, ap (count_kind Kind.request) u)), ap (λ (k : List Message). fresh_probes j (behind_request k)) u)
      requested-of a z j lo' hi' p (yes q) (no y) = let u = ar.up-off a z (inr y) in omega (arith, c.stored-requested a z j lo' hi' (omega (arith, p, ap (count_kind Kind.request) u)), ap (λ (k : List Message). fresh_probes j (behind_request k)) u)
      requested-of a z j lo' hi' p (yes q) (yes y) = rw (← q, ← y) (let p2 : 1 ≤ count_kind Kind.request (mail.up t x) = rw (q, y) p in mine p2 (eqb (kind_of m) Kind.request) refl)
        where
          mine : 1 ≤ count_kind Kind.request (mail.up t x) → (b : Bool) → eqb (kind_of m) Kind.request ≡ b
              → stores w t j ≤ fresh_probes j (behind_request (mail.up t x))
          mine p true e = absurd (omega (arith, p, at.one-request, ap bit e))
          mine p false e =
              let u : behind_request (w.up t x) ≡ behind_request (mail.up t x) = ap behind_request ar.head ∙ rw e in
              omega (arith, c.stored-requested t x j lo hi (omega (arith, p, ap (count_kind Kind.request) ar.head)), ap (fresh_probes j) u)
