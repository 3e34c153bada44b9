-- Coverage is kept by each message at an item.
use mathlib.Core.Path.{◌∙◌, ◌≡◌, ap, refl, subst, sym}
use mathlib.Core.Bool.{cond, false, not, true, true≢false}
use mathlib.Core.List.{[], ◌++◌, ◌∷◌, List}
use mathlib.Core.Option.{Option, some}
use mathlib.Core.Logic.{◌≢◌, ◌⊎◌, inl, inr}
use Prim.Native.Nat.{◌+◌, ◌≤◌, ℕ}
use native.Mathlib.Omega.{arith}
use lib.Dec.{eqb}
use Rattle.lists.proofs.Tests.{by-test, eqb_self, same?}
use borrow.Author.Tests.{ne_eqb}
use Rattle.deadlock.specs.Lists.{bit, occurs, without}
use Rattle.deadlock.specs.Machine.{clean, down, grant, grant_or_queue, in_queue, Item, item_receives, Laws, Message, on_rebroadcast, pass_clean, pass_probe, probe, probes_anew, probes_to, rebroadcast, request, resends, Rules, Sends, up, withdraw, withdrawn}
use Rattle.message.specs.Kind
use Rattle.deadlock.specs.Counts.{behind_request, cleans_sent, count_kind, except, fresh_probes, kind_of, probe_of, probes_by, sent_to, unless_cleaned}
use Rattle.deadlock.specs.Walks.{rest}
use Rattle.deadlock.specs.World.{Edge, HolderIs, is_cleaning, Known, Live, Mail, Queued, stage_of, VictimIn, World}
use Rattle.deadlock.specs.Coverage.{cleans_from_others, cleans_from_queue, Coverage, CycleDeclared, probe_reaches, rebroadcast_due, stores, under_way}
use Rattle.deadlock.proofs.Laws.Lists.{bit-eqb, bit_le, occurs-last-other, occurs-without-le, occurs-without-other, occurs-without-same, updated-same, zero-or-more}
use Rattle.deadlock.proofs.Laws.Routes.{countKind-append, sentTo-append}
use Rattle.deadlock.proofs.Laws.Stages.{seen-facts}
use Rattle.deadlock.proofs.Laws.Seniority.{senior-not-senior}
use Rattle.deadlock.proofs.Laws.Counts.{cleansOf-some, cleansSent-probe, cleansSent-probesAnew, not-inQueue}
use Rattle.deadlock.proofs.Victims.OneOnCycle.{clean-up-is, one-request-at, queue-has-holder}
use Rattle.deadlock.proofs.Probes.PathsStay.{ItemTakes, up_le, withdrawnItem, worldAfterItem}
use Rattle.deadlock.proofs.Probes.KeptByWithdraw.{withdraws-stage}
use Rattle.deadlock.proofs.Coverage.Sums.{countKind-resends, except-mono, except-zero, freshProbes-head, freshProbes-no-clean, freshProbes-skip, no-clean-sent, probesBy-append, probesBy-probesTo, sumOver-append, sumOver-mono, sumOver-without, unlessCleaned-mono, unlessCleaned-open, unlessCleaned-shut}
use Rattle.deadlock.proofs.Coverage.AfterItem.{declared-or-covered, DeclaredKept, down-kind-ge, item-coverage, probeReaches-ge, probeReaches-new, rebroadcastDue-ge, up-kind-ge}

module _ (R : Rules) where
  freshProbes-sent : (a h : ℕ) (l m : List ℕ) → 1 ≤ occurs a l → R.senior a h ≡ true → 1 ≤ fresh_probes a (sent_to h (probes_anew R h l m))
  unfolding probes_anew
  freshProbes-sent a h l m p s =
      omega (
        arith,
        probesBy-probesTo R a h l p s,
        ap (probes_by a) (sentTo-append h (probes_to R h l) (resends m)),
        probesBy-append a (sent_to h (probes_to R h l)) (sent_to h (resends m)),
        freshProbes-no-clean a (sent_to h (probes_anew R h l m)) (no-clean-sent h (probes_anew R h l m) (λ v. cleansSent-probesAnew R v h l m)),
      )

  resends-sent : (a h : ℕ) (l m : List ℕ) → 1 ≤ occurs a m → 1 ≤ count_kind Kind.resend (sent_to a (probes_anew R h l m))
  unfolding probes_anew
  resends-sent a h l m p = omega (arith, countKind-resends R a m p, ap (count_kind Kind.resend) (sentTo-append a (probes_to R h l) (resends m)), countKind-append Kind.resend (sent_to a (probes_to R h l)) (sent_to a (resends m)))

module _ {R : Rules} (L : Laws R) {w : World} (known : Known R w) (cov : Coverage R w) (t x : ℕ) (lo : 1 ≤ x) (hi : x ≤ R.M)
    (mail : Mail) where
  -- ---- the item stays, no clean and no rebroadcast
  module _ {m : Message} {sent : Sends} (ar : ItemTakes w t x m sent mail) (n4 : eqb (kind_of m) Kind.clean ≡ false) (n5 : eqb (kind_of m) Kind.rebroadcast ≡ false) (z4 : (a : ℕ) → count_kind Kind.clean (sent_to a sent) ≡ 0)
      (pass : (j h : ℕ) → 1 ≤ probe_of j m → HolderIs w x h → R.senior j h ≡ true → Queued w t x → 1 ≤ fresh_probes j (sent_to h sent))
      (dk : DeclaredKept R (w.item x) lo hi ar) (dc : (h : ℕ) → 1 ≤ probe_of h m → HolderIs w x h → Queued w t x → CycleDeclared R (worldAfterItem w x (w.item x) mail) t) where
    abbrev after : World
    after = worldAfterItem w x (w.item x) mail

    stay-cleans-up : (a : ℕ) → count_kind Kind.clean (mail.up a x) ≡ count_kind Kind.clean (w.up a x)
    stay-cleans-up a = omega (arith, ap bit n4, up-kind-ge R (w.item x) lo hi ar Kind.clean a x (same? t a) (same? x x), up_le R (w.item x) lo hi ar Kind.clean a x (same? t a) (same? x x))

    stay-rebroadcastDue : (h : ℕ) → rebroadcast_due R w x h ≤ rebroadcast_due R after x h
    stay-rebroadcastDue = rebroadcastDue-ge R (w.item x) lo hi ar n5 x

    stay-probeReaches : (j h : ℕ) → probe_reaches R w j x h ≤ probe_reaches R after j x h
    stay-probeReaches j h = probeReaches-ge R (w.item x) lo hi ar j h (z4 h)

    stay-resends : (a : ℕ) → count_kind Kind.resend (w.down a x) ≤ count_kind Kind.resend (mail.down a x)
    stay-resends a = down-kind-ge R (w.item x) lo hi ar Kind.resend a x (same? x x)

    stay-cleansFromQueue : cleans_from_queue R w x ≤ cleans_from_queue R after x
    unfolding cleans_from_queue
    stay-cleansFromQueue = rw updated-same (sumOver-mono _ _ (λ a. omega (arith, stay-cleans-up a)) (w.item x).queue)

    stay-cleansFromOthers : (a : ℕ) → cleans_from_others R w a x ≤ cleans_from_others R after a x
    unfolding cleans_from_others
    stay-cleansFromOthers a = rw updated-same (sumOver-mono _ _ (except-mono a _ _ (λ b _. omega (arith, stay-cleans-up b))) (w.item x).queue)

    stay-coverage : Coverage R after
    stay-coverage = item-coverage R (w.item x) lo hi ar cov dk (record {
      at-initiator = λ a h s e l. initiator a h s e l (same? t a);
      at-own-probe = λ a h s e l sn. omega (arith, cov.own-probe a x h lo hi s e l sn, stay-rebroadcastDue h, stay-cleansFromQueue, stay-probeReaches a h);
      at-forwarded = λ a h j s e l sn. forwarded a h j s e l sn (same? t a);
      one-request = one-request-at known.links lo hi ar.head;
    })
      where
        initiator : (a h : ℕ) → Queued w a x → HolderIs w x h → Live w h → Dec (t ≡ a)
            → (stores w a h ≤ under_way R after a x h h) ⊎ CycleDeclared R after a
        initiator a h s e l q = cases q (freshProbes-head h m (mail.up t x))
          where
            old : fresh_probes h (w.up a x) ≤ fresh_probes h (mail.up a x)
                → (stores w a h ≤ under_way R after a x h h) ⊎ CycleDeclared R after a
            old f = declared-or-covered R (w.item x) lo hi ar dk a h _ _ (record { item = x; low = lo; high = hi; stands = s; held = e })
                (omega (arith, stay-rebroadcastDue h, stay-cleansFromOthers a, stay-resends a, f)) (cov.initiator_or_declared a x h lo hi s e l)

            cases : Dec (t ≡ a)
                → (fresh_probes h (m ∷ mail.up t x) ≡ fresh_probes h (mail.up t x)) ⊎ ((count_kind Kind.clean (mail.up t x) ≡ 0) × (1 ≤ probe_of h m))
                → (stores w a h ≤ under_way R after a x h h) ⊎ CycleDeclared R after a
            cases (no q) k = old (omega (arith, ap (fresh_probes h) (ar.up-off a x (inl q))))
            cases (yes q) (inl k) = old (omega (arith, k, ap (fresh_probes h) ar.head, ap (λ (b : ℕ). fresh_probes h (mail.up b x)) q, ap (λ (b : ℕ). fresh_probes h (w.up b x)) q))
            cases (yes q) (inr k) = inr (subst (CycleDeclared R after) q (dc h k.1 e (subst (λ (b : ℕ). Queued w b x) (sym q) s)))

        reaches-open : (a j h : ℕ)
            → unless_cleaned (count_kind Kind.clean (w.up a x)) (probe_reaches R w j x h) ≤ unless_cleaned (count_kind Kind.clean (mail.up a x)) (probe_reaches R after j x h)
        reaches-open a j h = omega (arith, unlessCleaned-mono (count_kind Kind.clean (w.up a x)) (probe_reaches R w j x h) (probe_reaches R after j x h) (stay-probeReaches j h), ap (λ (k : ℕ). unless_cleaned k (probe_reaches R after j x h)) (stay-cleans-up a))

        forwarded : (a h j : ℕ) → Queued w a x → HolderIs w x h → Live w h → R.senior j h ≡ true → Dec (t ≡ a)
            → stores w a j ≤ under_way R after a x h j + unless_cleaned (count_kind Kind.clean (mail.up a x)) (probe_reaches R after j x h)
        forwarded a h j s e l sn (no q) = omega (arith, cov.stored_forwarded a x h j lo hi s e l sn, stay-rebroadcastDue h, stay-cleansFromOthers a, stay-resends a, ap (fresh_probes j) (ar.up-off a x (inl q)), reaches-open a j h)
        forwarded a h j s e l sn (yes q) = cases (freshProbes-head j m (mail.up t x))
          where
            cases : (fresh_probes j (m ∷ mail.up t x) ≡ fresh_probes j (mail.up t x)) ⊎ ((count_kind Kind.clean (mail.up t x) ≡ 0) × (1 ≤ probe_of j m))
                → stores w a j ≤ under_way R after a x h j + unless_cleaned (count_kind Kind.clean (mail.up a x)) (probe_reaches R after j x h)
            cases (inl k) = omega (
              arith,
              cov.stored_forwarded a x h j lo hi s e l sn,
              stay-rebroadcastDue h,
              stay-cleansFromOthers a,
              stay-resends a,
              reaches-open a j h,
              k,
              ap (fresh_probes j) ar.head,
              ap (λ (b : ℕ). fresh_probes j (mail.up b x)) q,
              ap (λ (b : ℕ). fresh_probes j (w.up b x)) q,
            )
            cases (inr k) =
                let g = probeReaches-new R (w.item x) lo hi ar j h (pass j h k.1 e sn (rw q s)) in
                omega (
                  arith,
                  g,
                  bit_le (not (eqb ((w.session a).stored j) 0)),
                  unlessCleaned-open (count_kind Kind.clean (mail.up t x)) (probe_reaches R after j x h)
                      k.0,
                  ap (λ (b : ℕ). unless_cleaned (count_kind Kind.clean (mail.up b x)) (probe_reaches R after j x h)) q,
                )

  pub drop-coverage : (m : Message) (ar : ItemTakes w t x m [] mail) → DeclaredKept R (w.item x) lo hi ar → eqb (kind_of m) Kind.clean ≡ false
      → eqb (kind_of m) Kind.rebroadcast ≡ false → ((j : ℕ) → probe_of j m ≡ 0) → Coverage R (worldAfterItem w x (w.item x) mail)
  unfolding sent_to count_kind
  drop-coverage m ar dk n4 n5 np = stay-coverage ar n4 n5 (λ a. refl) (λ j h p. absurd (omega (arith, p, np j))) dk (λ h p. absurd (omega (arith, p, np h)))

  -- ---- probe
  freshProbes-passed : (i j a h : ℕ) → 1 ≤ bit (eqb i a) → R.senior a h ≡ true → 1 ≤ fresh_probes a (sent_to h (pass_probe R i j (some h)))
  unfolding pass_probe sent_to fresh_probes count_kind unless_cleaned
  freshProbes-passed i j a h p sn =
      let q : i ≡ a = bit-eqb i a p in
      let si : R.senior i h ≡ true = subst (λ (b : ℕ). R.senior b h ≡ true) (sym q) sn in
      let ne : h ≢ i = λ z. true≢false (sym (subst (λ (b : ℕ). R.senior i b ≡ true) z si) ∙ L.irreflexive i) in
      rw (senior-not-senior R L i h si, ne_eqb h i ne, eqb_self) (omega arith)

  pub probe-coverage : (i j : ℕ) (ar : ItemTakes w t x (probe i j) (item_receives R t (w.item x) (probe i j)).sends mail) → DeclaredKept R (w.item x) lo hi ar
      → ((h : ℕ) → 1 ≤ bit (eqb i h) → HolderIs w x h → Queued w t x → CycleDeclared R (worldAfterItem w x (w.item x) mail) t)
      → Coverage R (worldAfterItem w x (w.item x) mail)
  unfolding item_receives cleans_sent
  probe-coverage i j ar dk dc = stay-coverage ar refl refl (λ a. no-clean-sent a (item_receives R t (w.item x) (probe i j)).sends (λ v. cleansSent-probe R v t (w.item x) i j))
      (λ a h p e sn s. by-test (λ (q : Sends). 1 ≤ fresh_probes a (sent_to h q)) (in_queue R t (w.item x)) (λ _. pass a h p sn (w.item x).holder e) (λ k. absurd (omega (arith, s, not-inQueue R t (w.item x) k)))) dk dc
    where
      pass : (a h : ℕ) → 1 ≤ bit (eqb i a) → R.senior a h ≡ true → (o : Option ℕ) → o ≡ some h → 1 ≤ fresh_probes a (sent_to h (pass_probe R i j o))
      pass a h p sn o e = rw e (freshProbes-passed i j a h p sn)

  -- ---- rebroadcast
  pub rebroadcast-coverage : (ar : ItemTakes w t x (up rebroadcast) (item_receives R t (w.item x) (up rebroadcast)).sends mail) → DeclaredKept R (w.item x) lo hi ar
      → Coverage R (worldAfterItem w x (w.item x) mail)
  unfolding item_receives
  rebroadcast-coverage ar dk = item-coverage R (w.item x) lo hi ar cov dk (record {
    at-initiator = λ a h s e l. inl (omega (arith, bit_le (not (eqb ((w.session a).stored h) 0)), again a h (w.item x).holder e s, ap (count_kind Kind.resend) (ar.down-at a), countKind-append Kind.resend (w.down a x) (sent_to a sent)));
    at-own-probe = λ a h s e l sn. omega (arith, probeReaches-new R (w.item x) lo hi ar a h (probes a h (w.item x).holder e s sn));
    at-forwarded = λ a h j s e l sn. omega (arith, bit_le (not (eqb ((w.session a).stored j) 0)), again a h (w.item x).holder e s, ap (count_kind Kind.resend) (ar.down-at a), countKind-append Kind.resend (w.down a x) (sent_to a sent));
    one-request = one-request-at known.links lo hi ar.head;
  })
    where
      sent : Sends
      sent = (item_receives R t (w.item x) (up rebroadcast)).sends

      probes : (a h : ℕ) (o : Option ℕ) → o ≡ some h → Queued w a x → R.senior a h ≡ true
          → 1 ≤ fresh_probes a (sent_to h (on_rebroadcast R (w.item x).queue o))
      probes a h o e s sn = rw e (unfold on_rebroadcast in freshProbes-sent R a h (w.item x).queue (w.item x).queue s sn)

      again : (a h : ℕ) (o : Option ℕ) → o ≡ some h → Queued w a x → 1 ≤ count_kind Kind.resend (sent_to a (on_rebroadcast R (w.item x).queue o))
      again a h o e s = rw e (unfold on_rebroadcast in resends-sent R a h (w.item x).queue (w.item x).queue s)

  -- ---- clean
  pub clean-coverage : (v0 i0 : ℕ) (ar : ItemTakes w t x (clean v0 i0) (item_receives R t (w.item x) (clean v0 i0)).sends mail)
      → DeclaredKept R (w.item x) lo hi ar → Coverage R (worldAfterItem w x (w.item x) mail)
  unfolding item_receives pass_clean sent_to cleans_from_others count_kind
  clean-coverage v0 i0 ar dk = item-coverage R (w.item x) lo hi ar cov dk (record {
    at-initiator = λ a h s e l. initiator a h s e l (same? t a);
    at-own-probe = λ a h s e l sn. omega (arith, probeReaches-new R (w.item x) lo hi ar a h (probes a h (w.item x).holder e s sn));
    at-forwarded = λ a h j s e l sn. forwarded a h j s e l sn (same? t a);
    one-request = one-request-at known.links lo hi ar.head;
  })
    where
      sent : Sends
      sent = (item_receives R t (w.item x) (clean v0 i0)).sends

      cleaned : World
      cleaned = worldAfterItem w x (w.item x) mail

      probes : (a h : ℕ) (o : Option ℕ) → o ≡ some h → Queued w a x → R.senior a h ≡ true
          → 1 ≤ fresh_probes a (sent_to h (pass_clean R t v0 i0 (w.item x).queue o))
      probes a h o e s sn = rw (e, eqb_self) (omega (
        arith,
        freshProbes-skip a (clean v0 i0) (sent_to h (probes_anew R h (w.item x).queue (without t (w.item x).queue))) refl,
        freshProbes-sent R a h (w.item x).queue (without t (w.item x).queue) s sn,
      ))

      again : (a h : ℕ) (o : Option ℕ) → o ≡ some h → t ≢ a → Queued w a x
          → 1 ≤ count_kind Kind.resend (sent_to a (pass_clean R t v0 i0 (w.item x).queue o))
      again a h o e ne s =
          let r = resends-sent R a h (w.item x).queue (without t (w.item x).queue) (omega (arith, s, occurs-without-other a t (w.item x).queue ne)) in
          rw e (by-test (λ (q : List Message). 1 ≤ count_kind Kind.resend q) (eqb a h) (λ _. omega (arith, r)) (λ _. r))

      initiator : (a h : ℕ) → Queued w a x → HolderIs w x h → Live w h → Dec (t ≡ a)
          → (stores w a h ≤ under_way R cleaned a x h h) ⊎ CycleDeclared R cleaned a
      initiator a h s e l (no q) = inl (omega (arith, bit_le (not (eqb ((w.session a).stored h) 0)), again a h (w.item x).holder e q s, ap (count_kind Kind.resend) (ar.down-at a), countKind-append Kind.resend (w.down a x) (sent_to a sent)))
      initiator a h s e l (yes q) =
          let lb : cleans_from_others R w a x ≤ cleans_from_others R cleaned a x = rw updated-same (sumOver-mono _ _ (except-mono a _ _ (λ b ne. omega (arith, ap (count_kind Kind.clean) (ar.up-off b x (inl (λ z. ne (sym q ∙ z))))))) (w.item x).queue) in
          declared-or-covered R (w.item x) lo hi ar dk a h _ _ (record { item = x; low = lo; high = hi; stands = s; held = e })
          (omega (
            arith,
            rebroadcastDue-ge R (w.item x) lo hi ar refl x h,
            lb,
            down-kind-ge R (w.item x) lo hi ar Kind.resend a x (same? x x),
            freshProbes-skip h (clean v0 i0) (mail.up t x) refl,
            ap (fresh_probes h) ar.head,
            ap (λ (b : ℕ). fresh_probes h (mail.up b x)) q,
            ap (λ (b : ℕ). fresh_probes h (w.up b x)) q,
          )) (cov.initiator_or_declared a x h lo hi s e l)

      forwarded : (a h j : ℕ) → Queued w a x → HolderIs w x h → Live w h → R.senior j h ≡ true → Dec (t ≡ a)
          → stores w a j ≤ under_way R cleaned a x h j + unless_cleaned (count_kind Kind.clean (mail.up a x)) (probe_reaches R cleaned j x h)
      forwarded a h j s e l sn (no q) = omega (arith, bit_le (not (eqb ((w.session a).stored j) 0)), again a h (w.item x).holder e q s, ap (count_kind Kind.resend) (ar.down-at a), countKind-append Kind.resend (w.down a x) (sent_to a sent))
      forwarded a h j s e l sn (yes q) =
          let lb : cleans_from_others R w a x ≤ cleans_from_others R cleaned a x = rw updated-same (sumOver-mono _ _ (except-mono a _ _ (λ b ne. omega (arith, ap (count_kind Kind.clean) (ar.up-off b x (inl (λ z. ne (sym q ∙ z))))))) (w.item x).queue) in
          omega (
            arith,
            cov.stored_forwarded a x h j lo hi s e l sn,
            rebroadcastDue-ge R (w.item x) lo hi ar refl x h,
            lb,
            down-kind-ge R (w.item x) lo hi ar Kind.resend a x (same? x x),
            freshProbes-skip j (clean v0 i0) (mail.up t x) refl,
            ap (fresh_probes j) ar.head,
            ap (λ (b : ℕ). fresh_probes j (mail.up b x)) q,
            ap (λ (b : ℕ). fresh_probes j (w.up b x)) q,
            unlessCleaned-shut (count_kind Kind.clean (w.up a x)) (probe_reaches R w j x h) (omega (arith, ap (count_kind Kind.clean) ar.head, ap (λ (b : ℕ). count_kind Kind.clean (w.up b x)) q)),
          )

  -- ---- withdraw
  pub withdraw-coverage : (ar : ItemTakes w t x (up withdraw) ((t, down withdrawn) ∷ []) mail) → DeclaredKept R (withdrawnItem w t x) lo hi ar → Coverage R (worldAfterItem w x (withdrawnItem w t x) mail)
  unfolding cleans_from_queue cleans_from_others cleans_sent
  withdraw-coverage ar dk = item-coverage R (withdrawnItem w t x) lo hi ar cov dk (record {
    at-initiator = λ a h s e l. initiator a h s e l;
    at-own-probe = λ a h s e l sn. omega (arith, cov.own-probe a x h lo hi (omega (arith, s, occurs-without-le a t (w.item x).queue)) e l sn, due h, cleans-queue, reaches a h);
    at-forwarded = λ a h j s e l sn. forwarded a h j s e l sn;
    one-request = one-request-at known.links lo hi ar.head;
  })
    where
      sent : Sends
      sent = (t, down withdrawn) ∷ []

      withdrew : World
      withdrew = worldAfterItem w x (withdrawnItem w t x) mail

      withdraws-now : VictimIn w t × (is_cleaning (stage_of w t) ≡ 0)
      withdraws-now = withdraws-stage known lo hi ar

      no-clean-from : count_kind Kind.clean (w.up t x) ≡ 0
      no-clean-from = cases (zero-or-more (count_kind Kind.clean (w.up t x)))
        where
          cases : (count_kind Kind.clean (w.up t x) ≡ 0) ⊎ (1 ≤ count_kind Kind.clean (w.up t x)) → count_kind Kind.clean (w.up t x) ≡ 0
          cases (inl z) = z
          cases (inr z) =
              let c = cleansOf-some (w.up t x) z in
              let k = known.victims.clean-up-on-cycle c.0 t x c.1 in
              let h = queue-has-holder known.links t x k.stands in
              let e : Edge R w t h.0 = record { item = x; low = lo; high = hi; stands = k.stands; held = h.1 } in
              absurd (omega (arith, clean-up-is known t t x withdraws-now.0 e rest z, known.mail.up_le t t x, known.victims.one-clean t, withdraws-now.1))

      cleans-up : (a : ℕ) → count_kind Kind.clean (w.up a x) ≤ count_kind Kind.clean (mail.up a x)
      cleans-up a = omega (arith, up-kind-ge R (withdrawnItem w t x) lo hi ar Kind.clean a x (same? t a) (same? x x))

      due : (h : ℕ) → rebroadcast_due R w x h ≤ rebroadcast_due R withdrew x h
      due = rebroadcastDue-ge R (withdrawnItem w t x) lo hi ar refl x

      reaches : (j h : ℕ) → probe_reaches R w j x h ≤ probe_reaches R withdrew j x h
      reaches j h = probeReaches-ge R (withdrawnItem w t x) lo hi ar j h (no-clean-sent h sent (λ v. omega arith))

      cleans-queue : cleans_from_queue R w x ≤ cleans_from_queue R withdrew x
      cleans-queue = rw updated-same (omega (
        arith,
        sumOver-without (λ a. count_kind Kind.clean (w.up a x)) t no-clean-from (w.item x).queue,
        sumOver-mono
            (λ a. count_kind Kind.clean (w.up a x)) (λ a. count_kind Kind.clean (mail.up a x)) cleans-up (without t (w.item x).queue),
      ))

      cleans-others : (a : ℕ) → cleans_from_others R w a x ≤ cleans_from_others R withdrew a x
      cleans-others a = rw updated-same (omega (
        arith,
        sumOver-without (except a (λ b. count_kind Kind.clean (w.up b x))) t
            (except-zero a (λ b. count_kind Kind.clean (w.up b x)) t no-clean-from) (w.item x).queue,
        sumOver-mono _ _
            (except-mono a (λ b. count_kind Kind.clean (w.up b x)) (λ b. count_kind Kind.clean (mail.up b x)) (λ b _. cleans-up b)) (without t (w.item x).queue),
      ))

      initiator : (a h : ℕ) → 1 ≤ occurs a (without t (w.item x).queue) → HolderIs w x h → Live w h
          → (stores w a h ≤ under_way R withdrew a x h h) ⊎ CycleDeclared R withdrew a
      initiator a h s e l =
          let ne : t ≢ a = λ q. (let k = known.links.linked t x lo hi in omega (arith, subst (λ (b : ℕ). 1 ≤ occurs b (without t (w.item x).queue)) (sym q) s, occurs-without-same t (w.item x).queue, seen-facts (stage_of w t) x)) in
          let s0 : Queued w a x = omega (arith, s, occurs-without-le a t (w.item x).queue) in
          declared-or-covered R (withdrawnItem w t x) lo hi ar dk a h _ _ (record { item = x; low = lo; high = hi; stands = s0; held = e })
          (omega (arith, due h, cleans-others a, down-kind-ge R (withdrawnItem w t x) lo hi ar Kind.resend a x (same? x x), ap (fresh_probes h) (ar.up-off a x (inl ne)))) (cov.initiator_or_declared a x h lo hi s0 e l)

      forwarded : (a h j : ℕ) → 1 ≤ occurs a (without t (w.item x).queue) → HolderIs w x h → Live w h → R.senior j h ≡ true
          → stores w a j ≤ under_way R withdrew a x h j + unless_cleaned (count_kind Kind.clean (mail.up a x)) (probe_reaches R withdrew j x h)
      forwarded a h j s e l sn =
          let ne : t ≢ a = λ q. (let k = known.links.linked t x lo hi in omega (arith, subst (λ (b : ℕ). 1 ≤ occurs b (without t (w.item x).queue)) (sym q) s, occurs-without-same t (w.item x).queue, seen-facts (stage_of w t) x)) in
          let u = ar.up-off a x (inl ne) in
          omega (
            arith,
            cov.stored_forwarded a x h j lo hi (omega (arith, s, occurs-without-le a t (w.item x).queue)) e l sn,
            due h,
            cleans-others a,
            down-kind-ge R (withdrawnItem w t x) lo hi ar Kind.resend a x (same? x x),
            ap (fresh_probes j) u,
            unlessCleaned-mono (count_kind Kind.clean (w.up a x)) (probe_reaches R w j x h) (probe_reaches R withdrew j x h) (reaches j h),
            ap (λ (k : List Message). unless_cleaned (count_kind Kind.clean k) (probe_reaches R withdrew j x h)) u,
          )

  -- ---- request: T joins
  pub queued-coverage : (h0 : ℕ) → HolderIs w x h0 → (ar : ItemTakes w t x (up request) (grant_or_queue R t (w.item x).queue (some h0)).sends mail)
      → DeclaredKept R (grant_or_queue R t (w.item x).queue (some h0)).after lo hi ar
      → Coverage R (worldAfterItem w x (grant_or_queue R t (w.item x).queue (some h0)).after mail)
  unfolding grant_or_queue cleans_from_queue cleans_from_others cleans_sent sent_to fresh_probes count_kind unless_cleaned behind_request
  queued-coverage h0 e0 ar dk = item-coverage R lengthened lo hi ar cov dk (record {
    at-initiator = λ a h s e l. initiator a h s e l (same? t a);
    at-own-probe = λ a h s e l sn. one a h s e l sn (same? t a);
    at-forwarded = λ a h j s e l sn. forwarded a h j s e l sn (same? t a);
    one-request = one-request-at known.links lo hi ar.head;
  })
    where
      lengthened : Item
      lengthened = record { holder = some h0; queue = (w.item x).queue ++ t ∷ [] }

      sent : Sends
      sent = cond (R.senior t h0) ((h0, probe t h0) ∷ []) []

      joined : World
      joined = worldAfterItem w x lengthened mail

      none_of : (v : ℕ) → cleans_sent v sent ≡ 0
      none_of v = by-test (λ (k : Sends). cleans_sent v k ≡ 0) (R.senior t h0) (λ _. omega arith) (λ _. refl)

      cleans-up : (a : ℕ) → count_kind Kind.clean (w.up a x) ≤ count_kind Kind.clean (mail.up a x)
      cleans-up a = omega (arith, up-kind-ge R lengthened lo hi ar Kind.clean a x (same? t a) (same? x x))

      due : (h : ℕ) → rebroadcast_due R w x h ≤ rebroadcast_due R joined x h
      due = rebroadcastDue-ge R lengthened lo hi ar refl x

      reaches : (j h : ℕ) → probe_reaches R w j x h ≤ probe_reaches R joined j x h
      reaches j h = probeReaches-ge R lengthened lo hi ar j h (no-clean-sent h sent none_of)

      cleans-queue : cleans_from_queue R w x ≤ cleans_from_queue R joined x
      cleans-queue = rw updated-same (omega (
        arith,
        sumOver-append (λ a. count_kind Kind.clean (mail.up a x)) (w.item x).queue (t ∷ []),
        sumOver-mono
            (λ a. count_kind Kind.clean (w.up a x)) (λ a. count_kind Kind.clean (mail.up a x)) cleans-up (w.item x).queue,
      ))

      cleans-others : (a : ℕ) → cleans_from_others R w a x ≤ cleans_from_others R joined a x
      cleans-others a = rw updated-same (omega (
        arith,
        sumOver-append (except a (λ b. count_kind Kind.clean (mail.up b x))) (w.item x).queue (t ∷ []),
        sumOver-mono _ _
            (except-mono a (λ b. count_kind Kind.clean (w.up b x)) (λ b. count_kind Kind.clean (mail.up b x)) (λ b _. cleans-up b)) (w.item x).queue,
      ))

      one : (a h : ℕ) → 1 ≤ occurs a ((w.item x).queue ++ t ∷ []) → some h0 ≡ some h → Live w h → R.senior a h ≡ true → Dec (t ≡ a)
          → 1 ≤ rebroadcast_due R joined x h + cleans_from_queue R joined x + probe_reaches R joined a x h
      one a h s e l sn (no q) = omega (arith, cov.own-probe a x h lo hi (omega (arith, s, occurs-last-other a t (w.item x).queue q)) (e0 ∙ e) l sn, due h, cleans-queue, reaches a h)
      one a h s e l sn (yes q) =
          let z : h0 ≡ h = cc in
          let s2 : R.senior t h0 ≡ true = subst (λ (b : ℕ). R.senior t b ≡ true) (sym z) (subst (λ (b : ℕ). R.senior b h ≡ true) (sym q) sn) in
          let f : 1 ≤ fresh_probes t (sent_to h0 sent) = rw (s2, eqb_self) (omega (arith, ap bit (eqb_self t))) in
          let g = probeReaches-new R lengthened lo hi ar t h0 f in
          omega (arith, subst (λ (b : ℕ). 1 ≤ probe_reaches R joined b x h) q (subst (λ (b : ℕ). 1 ≤ probe_reaches R joined t x b) z g))

      initiator : (a h : ℕ) → 1 ≤ occurs a ((w.item x).queue ++ t ∷ []) → some h0 ≡ some h → Live w h → Dec (t ≡ a)
          → (stores w a h ≤ under_way R joined a x h h) ⊎ CycleDeclared R joined a
      initiator a h s e l (no q) =
          let s0 : Queued w a x = omega (arith, s, occurs-last-other a t (w.item x).queue q) in
          declared-or-covered R lengthened lo hi ar dk a h _ _ (record { item = x; low = lo; high = hi; stands = s0; held = e0 ∙ e })
          (omega (arith, due h, cleans-others a, down-kind-ge R lengthened lo hi ar Kind.resend a x (same? x x), ap (fresh_probes h) (ar.up-off a x (inl q)))) (cov.initiator_or_declared a x h lo hi s0 (e0 ∙ e) l)
      initiator a h s e l (yes q) =
          let k = cov.stored-requested t x h lo hi (omega (arith, ap (count_kind Kind.request) ar.head)) in
          let k2 : stores w t h ≤ fresh_probes h (mail.up t x) = omega (arith, k, ap (λ (b : List Message). fresh_probes h (behind_request b)) ar.head) in
          let k3 : stores w a h ≤ fresh_probes h (mail.up a x) = subst (λ (b : ℕ). stores w b h ≤ fresh_probes h (mail.up b x)) q k2 in
          inl (omega (arith, k3))

      forwarded : (a h j : ℕ) → 1 ≤ occurs a ((w.item x).queue ++ t ∷ []) → some h0 ≡ some h → Live w h → R.senior j h ≡ true → Dec (t ≡ a)
          → stores w a j ≤ under_way R joined a x h j + unless_cleaned (count_kind Kind.clean (mail.up a x)) (probe_reaches R joined j x h)
      forwarded a h j s e l sn (no q) =
          let u = ar.up-off a x (inl q) in
          omega (
            arith,
            cov.stored_forwarded a x h j lo hi (omega (arith, s, occurs-last-other a t (w.item x).queue q)) (e0 ∙ e) l sn,
            due h,
            cleans-others a,
            down-kind-ge R lengthened lo hi ar Kind.resend a x (same? x x),
            ap (fresh_probes j) u,
            unlessCleaned-mono (count_kind Kind.clean (w.up a x)) (probe_reaches R w j x h) (probe_reaches R joined j x h) (reaches j h),
            ap (λ (k : List Message). unless_cleaned (count_kind Kind.clean k) (probe_reaches R joined j x h)) u,
          )
      forwarded a h j s e l sn (yes q) =
          let k = cov.stored-requested t x j lo hi (omega (arith, ap (count_kind Kind.request) ar.head)) in
          let k2 : stores w t j ≤ fresh_probes j (mail.up t x) = omega (arith, k, ap (λ (b : List Message). fresh_probes j (behind_request b)) ar.head) in
          let k3 : stores w a j ≤ fresh_probes j (mail.up a x) = subst (λ (b : ℕ). stores w b j ≤ fresh_probes j (mail.up b x)) q k2 in
          omega (arith, k3)

  -- ---- an empty queue
  pub empty-coverage : (m : Message) (i : Item) (sent : Sends) (ar : ItemTakes w t x m sent mail) → DeclaredKept R i lo hi ar → i.queue ≡ []
      → Coverage R (worldAfterItem w x i mail)
  unfolding occurs
  empty-coverage m i sent ar dk e = item-coverage R i lo hi ar cov dk (record {
    at-initiator = λ a h s. absurd (omega (arith, s, ap (occurs a) e));
    at-own-probe = λ a h s. absurd (omega (arith, s, ap (occurs a) e));
    at-forwarded = λ a h j s. absurd (omega (arith, s, ap (occurs a) e));
    one-request = one-request-at known.links lo hi ar.head;
  })

  -- ---- the next holder: every session that stays in the queue is told to send again
  pub hand-over-coverage : (m : Message) (k : ℕ) (rs again : List ℕ) (ar : ItemTakes w t x m ((k, down grant) ∷ probes_anew R k rs again) mail)
      → ((a : ℕ) → 1 ≤ occurs a rs → 1 ≤ occurs a again) → DeclaredKept R (record { holder = some k; queue = rs }) lo hi ar → Coverage R (worldAfterItem w x (record { holder = some k; queue = rs }) mail)
  unfolding sent_to count_kind
  hand-over-coverage m k rs again ar all dk = item-coverage R handed lo hi ar cov dk (record {
    at-initiator = λ a h s e l. inl (omega (arith, bit_le (not (eqb ((w.session a).stored h) 0)), g a s, ap (count_kind Kind.resend) (ar.down-at a), countKind-append Kind.resend (w.down a x) (sent_to a sent)));
    at-own-probe = λ a h s e l sn. let z : k ≡ h = cc in omega (arith, probeReaches-new R handed lo hi ar a h (subst (λ (b : ℕ). 1 ≤ fresh_probes a (sent_to b sent)) z (f a s (subst (λ (b : ℕ). R.senior a b ≡ true) (sym z) sn))));
    at-forwarded = λ a h j s e l sn. omega (arith, bit_le (not (eqb ((w.session a).stored j) 0)), g a s, ap (count_kind Kind.resend) (ar.down-at a), countKind-append Kind.resend (w.down a x) (sent_to a sent));
    one-request = one-request-at known.links lo hi ar.head;
  })
    where
      handed : Item
      handed = record { holder = some k; queue = rs }

      sent : Sends
      sent = (k, down grant) ∷ probes_anew R k rs again

      f : (a : ℕ) → 1 ≤ occurs a rs → R.senior a k ≡ true → 1 ≤ fresh_probes a (sent_to k sent)
      f a s sn = rw eqb_self (omega (arith, freshProbes-skip a (down grant) (sent_to k (probes_anew R k rs again)) refl, freshProbes-sent R a k rs again s sn))

      g : (a : ℕ) → 1 ≤ occurs a rs → 1 ≤ count_kind Kind.resend (sent_to a sent)
      g a s = by-test (λ (q : List Message). 1 ≤ count_kind Kind.resend q) (eqb a k) (λ _. omega (arith, resends-sent R a k rs again (all a s))) (λ _. resends-sent R a k rs again (all a s))
