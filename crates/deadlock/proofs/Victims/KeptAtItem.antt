-- The clauses on victims are kept by a probe, a clean, a rebroadcast and a dropped message at an item.
use mathlib.Core.Path.{◌∙◌, ◌≡◌, ap, refl, sym}
use mathlib.Core.Bool.{Bool, cond, false, true}
use mathlib.Core.List.{[], ◌∷◌, List, map}
use mathlib.Core.Option.{none, Option, some}
use Prim.Native.Nat.{◌+◌, ◌≤◌, ℕ}
use native.Mathlib.Omega.{arith}
use lib.Dec.{eqb}
use borrow.Author.Tests.{eqb-true}
use Rattle.lists.specs.Lists.{filter}
use Rattle.lists.proofs.Tests.{by-test, eqb_self}
use Rattle.deadlock.specs.Lists.{bit, without}
use Rattle.deadlock.specs.Machine.{abort, clean, down, in_queue, Item, item_receives, Laws, Message, on_rebroadcast, pass_clean, pass_probe, probe, probes_anew, probes_to, rebroadcast, resends, Rules, Sends, up}
use Rattle.deadlock.specs.Counts.{clean_of, cleans_of, cleans_sent, EachBehind, Every, every-cons, every-nil, sent_to}
use Rattle.deadlock.specs.Walks.{FirstApart, Walk}
use Rattle.deadlock.specs.World.{CleanGoesDown, CleanGoesUp, CycleOf, Edge, HolderIs, Known, Mail, OfAbort, Probes, Queued, stage_of, TellsUp, Victims, World}
use Rattle.deadlock.proofs.Laws.Lists.{bit-eqb, updated-unchanged}
use Rattle.deadlock.proofs.Laws.Stages.{stage-facts}
use Rattle.deadlock.proofs.Laws.Counts.{behind-head, cleansOf-sentTo, cleansSent-onRebroadcast, cleansSent-probe, cleansSent-probesAnew, every_append, every_map, inQueue-queued}
use Rattle.deadlock.proofs.Laws.Walks.{walk-map}
use Rattle.deadlock.proofs.Victims.OneOnCycle.{edge-against, edge-along, queue-has-holder}
use Rattle.deadlock.proofs.Probes.PathsStay.{ItemTakes, worldAfterItem}
use Rattle.deadlock.proofs.Probes.ClosedPath.{cycle-abort, declare-cycle, declared-cycle-of, DeclaredCycle}
use Rattle.deadlock.proofs.Victims.CyclesStay.{abortTo-map, CycleStays, item-victims, stays-cycle-of}

-- anything but an abort
abbrev pub NoAbort : Message → Type 0
NoAbort (up m) = Unit {0}
NoAbort (down m) = Unit {0}
NoAbort (probe i j) = Unit {0}
NoAbort (clean a b) = Unit {0}
NoAbort (abort v i) = ⊥

noAbort-ofAbort : (R : Rules) (w : World) (a : ℕ) (m : Message) → NoAbort m → OfAbort R w a m
noAbort-ofAbort R w a (up m) k = tt
noAbort-ofAbort R w a (down m) k = tt
noAbort-ofAbort R w a (probe i j) k = tt
noAbort-ofAbort R w a (clean u i) k = tt
noAbort-ofAbort R w a (abort u i) k = absurd k

abbrev pub NoAborts : Sends → Type 0
NoAborts l = Every (λ (p : ℕ × Message). NoAbort p.1) l

noAborts-sentTo : (a : ℕ) {l : Sends} → NoAborts l → Every NoAbort (sent_to a l)
unfolding sent_to
noAborts-sentTo a every-nil = every-nil
noAborts-sentTo a (every-cons {a = p} {l = l} h r) = by-test (Every NoAbort) (eqb a p.0) {x = p.1 ∷ sent_to a l} {y = sent_to a l} (λ _. every-cons h (noAborts-sentTo a r)) (λ _. noAborts-sentTo a r)

pub noAborts-ofAbort : (R : Rules) (w : World) (a : ℕ) {l : Sends} → NoAborts l → Every (OfAbort R w a) (sent_to a l)
noAborts-ofAbort R w a h = every_map (noAbort-ofAbort R w a) (noAborts-sentTo a h)

module _ (R : Rules) where
  noAborts-probesTo : (h : ℕ) (l : List ℕ) → NoAborts (probes_to R h l)
  unfolding probes_to filter
  noAborts-probesTo h [] = every-nil
  noAborts-probesTo h (b ∷ l) = by-test (λ (q : List ℕ). NoAborts (map (λ (a : ℕ). (h, probe a h)) q)) (R.senior b h) (λ _. every-cons tt (noAborts-probesTo h l)) (λ _. noAborts-probesTo h l)

  noAborts-resends : (l : List ℕ) → NoAborts (resends l)
  unfolding resends
  noAborts-resends [] = every-nil
  noAborts-resends (b ∷ l) = every-cons tt (noAborts-resends l)

  pub noAborts-probesAnew : (h : ℕ) (l m : List ℕ) → NoAborts (probes_anew R h l m)
  unfolding probes_anew
  noAborts-probesAnew h l m = every_append (noAborts-probesTo h l) (noAborts-resends m)

-- ---- an item that stays as it is
module _ {R : Rules} (L : Laws R) {w : World} (known : Known R w) (t x : ℕ) (lo : 1 ≤ x) (hi : x ≤ R.M)
    (mail : Mail) where
  abbrev pub after : World
  after = worldAfterItem w x (w.item x) mail

  unchanged-items : (z : ℕ) → after.item z ≡ w.item z
  unchanged-items = updated-unchanged w.item x

  unchanged-edge-back : (a b : ℕ) → Edge R after a b → Edge R w a b
  unchanged-edge-back = edge-against R w.item after.item unchanged-items

  module _ {m : Message} {out : Sends} (ar : ItemTakes w t x m out mail) where
    pub unchanged-stays : (v : ℕ) → FirstApart (Edge R w) v v → CycleStays known (w.item x) lo hi ar v
    unchanged-stays v g = record {
      cycle = g;
      edge_stays = λ u b _ e. (rw (unchanged-items e.item) e.stands, ap (λ (y : Item). y.holder) (unchanged-items e.item) ∙ e.held);
      edge-back = λ u b _. unchanged-edge-back u b;
    }

    unchanged-victims : ((v : ℕ) → mail.total v + clean_of v m ≡ w.total v + cleans_sent v out) → ((v : ℕ) → clean_of v m ≡ cleans_sent v out)
        → ((v a : ℕ) → 1 ≤ cleans_of v (sent_to a out) → CleanGoesDown R after v a x) → ((a : ℕ) → Every (OfAbort R after a) (sent_to a out)) → Victims R after
    unchanged-victims tots cl nc na = item-victims known (w.item x) lo hi ar
        (λ v h s e. unchanged-stays v (known.victims.victim-on-cycle v h s (unchanged-edge-back v h e)).cycle)
        (λ v s. let e = known.victims.victim-waits v s in unchanged-stays v
        (known.victims.victim-on-cycle v e.0 (omega (arith, s, stage-facts (stage_of w v))) e.1).cycle)
        (λ a s r. unchanged-stays a r.cycle) tots cl nc na (λ v z s p. rw (unchanged-items z) at p)

    -- where no clean is taken or sent
    no-clean-victims : ((v : ℕ) → mail.total v + clean_of v m ≡ w.total v + cleans_sent v out) → ((v : ℕ) → clean_of v m ≡ 0) → ((v : ℕ) → cleans_sent v out ≡ 0)
        → ((a : ℕ) → Every (OfAbort R after a) (sent_to a out)) → Victims R after
    no-clean-victims tots z1 z2 na = unchanged-victims tots (λ v. omega (arith, z1 v, z2 v)) (λ v a p. absurd (omega (arith, p, cleansOf-sentTo v a out, z2 v))) na

  -- ---- probe
  module _ (i j : ℕ) (ar : ItemTakes w t x (probe i j) (item_receives R t (w.item x) (probe i j)).sends mail) (tr : Probes R w)
      (tots : (v : ℕ) → mail.total v + 0 ≡ w.total v + cleans_sent v (item_receives R t (w.item x) (probe i j)).sends) where
    -- the cycle that a declaration at this item names
    declares-cycle : Queued w t x → HolderIs w x i → DeclaredCycle L known.links i j
    declares-cycle s e =
        let tl : EachBehind (TellsUp R w t) (probe i j ∷ mail.up t x) = rw ar.head at (tr.up-true t x lo hi s) in
        declare-cycle L known.links (behind-head tl) (record { item = x; low = lo; high = hi; stands = s; held = e })

    abort-sent : Queued w t x → HolderIs w x i → (a : ℕ) → Every (OfAbort R after a) (sent_to a ((j, abort j i) ∷ []))
    unfolding sent_to
    abort-sent s e a = by-test (Every (OfAbort R after a)) (eqb a j)
        (λ q. every-cons (let z : a ≡ j = eqb-true a j q in (
          sym z,
          rw z (abortTo-map R w after j (stage_of w j) (λ _ r. stays-cycle-of known _ lo hi ar (unchanged-stays ar j r.cycle) r) (cycle-abort L known.links j declared)),
        )) every-nil) (λ _. every-nil)
      where
        declared : CycleOf R w j (λ u. R.senior u j ≡ true)
        declared = declared-cycle-of L known.links (declares-cycle s e)

    passProbe-aborts : (o : Option ℕ) → (w.item x).holder ≡ o → Queued w t x → (a : ℕ) → Every (OfAbort R after a) (sent_to a (pass_probe R i j o))
    unfolding pass_probe sent_to
    passProbe-aborts none e s a = every-nil
    passProbe-aborts (some h) e s a =
        by-test (λ (q : Sends). Every (OfAbort R after a) (sent_to a q)) (R.senior h i) (λ _. every-nil) (λ _.
        by-test (λ (q : Sends). Every (OfAbort R after a) (sent_to a q)) (eqb h i) (λ z. abort-sent s (e ∙ ap some (eqb-true h i z)) a) (λ _. noAborts-ofAbort R after a (every-cons tt every-nil)))

    pub probe-victims : Victims R after
    unfolding item_receives sent_to
    probe-victims = no-clean-victims ar tots (λ v. refl) (λ v. cleansSent-probe R v t (w.item x) i j)
        (λ a. by-test (λ (q : Sends). Every (OfAbort R after a) (sent_to a q)) (in_queue R t (w.item x)) (λ e. passProbe-aborts (w.item x).holder refl (inQueue-queued R t (w.item x) e) a) (λ _. every-nil))

  -- ---- rebroadcast, and what is dropped
  pub rebroadcast-victims : (ar : ItemTakes w t x (up rebroadcast) (item_receives R t (w.item x) (up rebroadcast)).sends mail)
      → ((v : ℕ) → mail.total v + 0 ≡ w.total v + cleans_sent v (item_receives R t (w.item x) (up rebroadcast)).sends) → Victims R after
  unfolding item_receives
  rebroadcast-victims ar tots = no-clean-victims ar tots (λ v. refl) (λ v. cleansSent-onRebroadcast R v (w.item x).queue (w.item x).holder) (λ a. noAborts-ofAbort R after a (no-aborts (w.item x).holder))
    where
      no-aborts : (o : Option ℕ) → NoAborts (on_rebroadcast R (w.item x).queue o)
      no-aborts none = unfold on_rebroadcast in every-nil
      no-aborts (some h) = unfold on_rebroadcast in noAborts-probesAnew R h _ _

  pub drop-victims : (m : Message) (ar : ItemTakes w t x m [] mail) → ((v : ℕ) → clean_of v m ≡ 0)
      → ((v : ℕ) → mail.total v + clean_of v m ≡ w.total v + cleans_sent v []) → Victims R after
  unfolding cleans_sent sent_to
  drop-victims m ar z tots = no-clean-victims ar tots z (λ v. refl) (λ a. every-nil)

  -- ---- clean
  module _ (v0 i0 : ℕ) (ar : ItemTakes w t x (clean v0 i0) (item_receives R t (w.item x) (clean v0 i0)).sends mail)
      (tots : (v : ℕ) → mail.total v + bit (eqb v0 v) ≡ w.total v + cleans_sent v (item_receives R t (w.item x) (clean v0 i0)).sends) where
    clean-at-item : 1 ≤ cleans_of v0 (w.up t x)
    unfolding cleans_of
    clean-at-item = omega (arith, ap (cleans_of v0) ar.head, ap bit (eqb_self v0))

    clean-from-queue : CleanGoesUp R w v0 t x
    clean-from-queue = known.victims.clean-up-on-cycle v0 t x clean-at-item

    noAborts-passClean : (o : Option ℕ) → NoAborts (pass_clean R t v0 i0 (w.item x).queue o)
    unfolding pass_clean
    noAborts-passClean none = every-nil
    noAborts-passClean (some h) = every-cons tt (noAborts-probesAnew R h _ _)

    clean-counted : (v : ℕ) (o : Option ℕ) (h : ℕ) → o ≡ some h → bit (eqb v0 v) ≡ cleans_sent v (pass_clean R t v0 i0 (w.item x).queue o)
    unfolding pass_clean cleans_sent
    clean-counted v none h e = let z : ◌≡◌ {A = ℕ} 0 1 = cc in absurd (omega arith)
    clean-counted v (some k) h e = omega (arith, cleansSent-probesAnew R v k (w.item x).queue (without t (w.item x).queue))

    clean-sent-to : (v a h : ℕ) (q : Sends) → ((v : ℕ) → cleans_sent v q ≡ 0) → 1 ≤ cleans_of v (sent_to a ((h, clean v0 i0) ∷ q)) → (a ≡ h) × (v0 ≡ v)
    unfolding sent_to cleans_of
    clean-sent-to v a h q z p = cases (eqb a h) refl p
      where
        cases : (b : Bool) → eqb a h ≡ b → 1 ≤ cleans_of v (cond b (clean v0 i0 ∷ sent_to a q) (sent_to a q)) → (a ≡ h) × (v0 ≡ v)
        cases true e k = (eqb-true a h e, bit-eqb v0 v (omega (arith, k, cleansOf-sentTo v a q, z v)))
        cases false e k = absurd (omega (arith, k, cleansOf-sentTo v a q, z v))

    clean-moved : (o : Option ℕ) (v a : ℕ) → (w.item x).holder ≡ o → 1 ≤ cleans_of v (sent_to a (pass_clean R t v0 i0 (w.item x).queue o)) → CleanGoesDown R after v a x
    unfolding pass_clean sent_to cleans_of
    clean-moved none v a e p = absurd (omega arith)
    clean-moved (some h) v a e p =
        let k = clean-sent-to v a h _ (λ u. cleansSent-probesAnew R u h (w.item x).queue (without t (w.item x).queue)) p in
        let y : Walk (Edge R w) v t = rw k.1 at clean-from-queue.walk in
        rw k.0 (record { low = lo; high = hi; held = ap (λ (z : Item). z.holder) (unchanged-items x) ∙ e; from = t; stands = rw (unchanged-items x) clean-from-queue.stands; walk = walk-map (edge-along R w.item after.item unchanged-items) y })

    pub clean-victims : Victims R after
    unfolding item_receives
    clean-victims =
        let h = queue-has-holder known.links t x clean-from-queue.stands in
        unchanged-victims ar tots (λ v. clean-counted v (w.item x).holder h.0 h.1) (λ v a p. clean-moved (w.item x).holder v a refl p) (λ a. noAborts-ofAbort R after a (noAborts-passClean (w.item x).holder))
