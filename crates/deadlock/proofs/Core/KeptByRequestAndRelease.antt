-- A request or a release at an item: edges of the wait-for graph come, go or turn, and no cycle of a victim changes.
use mathlib.Core.Path.{◌∙◌, ◌≡◌, ap, refl, subst, sym}
use mathlib.Core.Bool.{◌||◌, true}
use mathlib.Core.List.{[], ◌∷◌, List}
use mathlib.Core.Option.{none, Option, some}
use mathlib.Core.Logic.{◌≢◌, ◌⊎◌, inl, inr}
use Prim.Native.Nat.{◌+◌, ◌≤◌, ℕ}
use native.Mathlib.Omega.{arith}
use Rattle.lists.specs.Lists.{member}
use Rattle.lists.proofs.Tests.{by-test, same?}
use Rattle.deadlock.specs.Lists.{bit, occurs, without}
use Rattle.deadlock.specs.Machine.{grant_or_queue, hand_over, held_by, Item, item_receives, ItemStep, Laws, Message, on_release, on_request, probes_anew, release, request, Rules, Sends, up}
use Rattle.message.specs.Kind
use Rattle.deadlock.specs.Counts.{cleans_of, cleans_sent, count_kind, every-cons, every-nil, sent_to}
use Rattle.deadlock.specs.Links.{awaits, may_release}
use Rattle.deadlock.specs.Walks.{FirstApart, onward, rest, Walk}
use Rattle.deadlock.specs.World.{ClearEdge, Edge, FreeIsEmpty, HolderIs, is_victim, is_waiting, Known, Live, Mail, Passed, Probes, Queued, stage_of, VictimIn, Victims, World}
use Rattle.deadlock.proofs.Laws.Lists.{bit-member, bit-one, bit_or, occurs-append, occurs-last-other, occurs-last-same, occurs-without-le, updated-other, updated-same, zero-or-more}
use Rattle.deadlock.proofs.Laws.Stages.{awaits-item, awaits-one, seen-facts, stage-facts}
use Rattle.deadlock.proofs.Laws.Counts.{cleansOf-append, cleansOf-sentTo, cleansSent-handOver, is_held_by, TellsTo}
use Rattle.deadlock.proofs.Laws.Walks.{cycle-next, first-edge-of, path-cut, path-map, walk-back, walk-map}
use Rattle.deadlock.proofs.Victims.OneOnCycle.{avoid-down-back, came-map, one-edge, one-request-at, told-map, victim-of-down}
use Rattle.deadlock.proofs.Probes.PathsStay.{item-probes, ItemTakes, up_le, worldAfterItem}
use Rattle.deadlock.proofs.Probes.KeptByWithdraw.{clear-before, passed-before}
use Rattle.deadlock.proofs.Probes.PassedOn.{MustAvoid, one-edge-probe, told-behind, told-probesAnew, ToldTo}
use Rattle.deadlock.proofs.Victims.CyclesStay.{CycleStays, item-victims}
use Rattle.deadlock.proofs.Victims.KeptAtItem.{NoAborts, noAborts-ofAbort, noAborts-probesAnew}

-- where a clean has passed now it had passed before: what is reached from a victim lies on its cycle, and there the edges are the old ones
module _ {R : Rules} {w : World} (known : Known R w) (w' : World) (stage : (v : ℕ) → stage_of w' v ≡ stage_of w v)
    (out : (v h : ℕ) → VictimIn w v → Edge R w' v h → (k : ℕ) × Edge R w v k)
    (fro : (v u b c d : ℕ) → Edge R w u c → Edge R w c d → ClearEdge R w' v u b → ClearEdge R w v u b) where
  passed-on-cycle : (v a : ℕ) → Passed R w' v a → Passed R w v a
  passed-on-cycle v a p = record { is-victim = victim-before; past = record { from = p.past.from; walk = clear-walk; last = each p.past.from a clear-walk p.past.last } }
    where
      victim-before : VictimIn w v
      victim-before = rw (stage v) at p.is-victim

      cycle : FirstApart (Edge R w) v v
      cycle =
          let f = first-edge-of p.past in
          let k = out v f.0 victim-before f.1.edge in
          (known.victims.victim-on-cycle v k.0 victim-before k.1).cycle

      each : (u b : ℕ) → Walk (ClearEdge R w v) v u → ClearEdge R w' v u b → ClearEdge R w v u b
      each u b y c =
          let y2 = walk-map (λ a b k. k.edge) y in
          let g = cycle-next (one-edge known.links) cycle y2 in
          let g2 = cycle-next (one-edge known.links) cycle (onward y2 g.out) in
          fro v u b g.next g2.next g.out g2.out c

      clear-walk : Walk (ClearEdge R w v) v p.past.from
      clear-walk = walk-back each p.past.walk

module _ {R : Rules} (L : Laws R) {w : World} (known : Known R w) (t x : ℕ) (lo : 1 ≤ x) (hi : x ≤ R.M)
    (mail : Mail) where
  -- ---- request
  module _ (q : List Message) (hd : w.up t x ≡ up request ∷ q) where
    request-awaits : 1 ≤ awaits (stage_of w t) x
    unfolding count_kind
    request-awaits = let k = known.links.linked t x lo hi in omega (arith, ap (count_kind Kind.request) hd)

    pub request-is-waiting : 1 ≤ is_waiting (stage_of w t)
    unfolding count_kind
    request-is-waiting = cases (zero-or-more (is_victim (stage_of w t)))
      where
        cases : (is_victim (stage_of w t) ≡ 0) ⊎ VictimIn w t → 1 ≤ is_waiting (stage_of w t)
        cases (inl z) = omega (arith, request-awaits, seen-facts (stage_of w t) x)
        cases (inr z) = absurd (omega (arith, known.victims.no_request t x lo hi z, ap (count_kind Kind.request) hd))

    request-not-queued : occurs t (w.item x).queue ≡ 0
    unfolding count_kind
    request-not-queued = let k = known.links.linked t x lo hi in let s = seen-facts (stage_of w t) x in omega (arith, ap (count_kind Kind.request) hd)

    pub request-no-edge : (b : ℕ) → Edge R w t b → ⊥
    request-no-edge b e =
        let f = known.links.linked t e.item e.low e.high in
        let z : e.item ≡ x = awaits-one (awaits-item (stage_of w t) e.item (omega (arith, e.stands))) (awaits-item (stage_of w t) x request-awaits) in
        omega (arith, request-not-queued, rw z at e.stands)

    -- t joins the queue
    module _ (h : ℕ) (e : HolderIs w x h) (ar : ItemTakes w t x (up request) (grant_or_queue R t (w.item x).queue (some h)).sends mail) where
      abbrev pub queuedItem : Item
      queuedItem = (grant_or_queue R t (w.item x).queue (some h)).after

      abbrev pub queuedSends : Sends
      queuedSends = (grant_or_queue R t (w.item x).queue (some h)).sends

      abbrev afterQueued : World
      afterQueued = worldAfterItem w x queuedItem mail

      queued-holder : (z : ℕ) → (afterQueued.item z).holder ≡ (w.item z).holder
      unfolding grant_or_queue
      queued-holder z = elim (same? x z) [ yes p ↦ rw (← p, updated-same) (sym e) | no p ↦ rw (updated-other w.item x queuedItem z p) ]

      queued-le : (a z : ℕ) → occurs a (w.item z).queue ≤ occurs a (afterQueued.item z).queue
      unfolding grant_or_queue
      queued-le a z = elim (same? x z) [ yes p ↦ rw (← p, updated-same) (omega (arith, occurs-append a (w.item x).queue (t ∷ []))) | no p ↦ rw (updated-other w.item x queuedItem z p) (omega arith) ]

      pub queued-other : (a z : ℕ) → t ≢ a → occurs a (afterQueued.item z).queue ≡ occurs a (w.item z).queue
      unfolding grant_or_queue
      queued-other a z ne = elim (same? x z) [ yes p ↦ rw (← p, updated-same) (occurs-last-other a t (w.item x).queue ne) | no p ↦ rw (updated-other w.item x queuedItem z p) ]

      pub queued-edge : (a b : ℕ) → Edge R w a b → Edge R afterQueued a b
      queued-edge a b d = record { item = d.item; low = d.low; high = d.high; stands = omega (arith, d.stands, queued-le a d.item); held = queued-holder d.item ∙ d.held }

      pub queued-edge-back : (a b : ℕ) → t ≢ a → Edge R afterQueued a b → Edge R w a b
      queued-edge-back a b ne d = record { item = d.item; low = d.low; high = d.high; stands = omega (arith, d.stands, queued-other a d.item ne); held = sym (queued-holder d.item) ∙ d.held }

      victim-not-requester : (v : ℕ) → VictimIn w v → t ≢ v
      victim-not-requester v i z = omega (arith, request-is-waiting, stage-facts (stage_of w t), ap (λ (y : ℕ). is_victim (stage_of w y)) z)

      queued-passed-back : (v a : ℕ) → Passed R afterQueued v a → Passed R w v a
      unfolding queued-edge-back
      queued-passed-back = passed-on-cycle known afterQueued (λ v. refl) (λ v k i d. (k, queued-edge-back v k (victim-not-requester v i) d))
          (λ v u b c d p _ k. let ne : t ≢ u = λ z. request-no-edge c (rw z p) in clear-before R queuedItem ar v u b k (queued-edge-back u b ne k.edge) refl (λ _ _. omega arith))

      queued-told : ToldTo R afterQueued x queuedSends
      unfolding grant_or_queue TellsTo cleans_sent
      queued-told = by-test (ToldTo R afterQueued x) (R.senior t h)
          (λ sn. every-cons (one-edge-probe R afterQueued x L t h lo hi (rw updated-same (omega (arith, occurs-last-same t (w.item x).queue))) (rw updated-same) sn (λ v b z. victim-not-requester v (victim-at v b) (sym z))) every-nil) (λ _. every-nil)
        where
          none_of : (v : ℕ) → cleans_sent v queuedSends ≡ 0
          none_of v = by-test (λ (k : Sends). cleans_sent v k ≡ 0) (R.senior t h) (λ _. omega arith) (λ _. refl)

          victim-at : (v : ℕ) → MustAvoid R afterQueued h x v → VictimIn w v
          victim-at v (inl p) = p.is-victim
          victim-at v (inr p) = omega (arith, stage-facts (stage_of w v), victim-of-down known v h x (omega (arith, ap (cleans_of v) (ar.down-at h), cleansOf-append v (w.down h x) (sent_to h queuedSends), cleansOf-sentTo v h queuedSends, none_of v)))

      queued-probes : Probes R w → Probes R afterQueued
      queued-probes tr = item-probes R queuedItem lo hi ar tr (record {
        keep-stored = λ a l i j c. told-map R w afterQueued c (path-map queued-edge c.path) (λ v. queued-passed-back v a);
        keep-up = λ a z _ _ s r b i j c. told-map R w afterQueued c (path-map queued-edge c.path) (λ v y. (y.0, queued-passed-back v a y.1));
        keep-down = λ a z l r p b y i j c. came-map R w afterQueued c (path-map queued-edge c.path) (omega (arith, c.stands, queued-le c.from z)) (queued-holder z ∙ c.held) (avoid-down-back R w afterQueued r p y (λ v. queued-passed-back v a));
        queue = λ a z _ _ s. in-queue a z s (same? t a) (same? x z);
        one-request = one-request-at known.links lo hi ar.head;
        sent-true = λ a l. told-behind R afterQueued x a queued-told;
      })
        where
          in-queue : (a z : ℕ) → Queued afterQueued a z → Dec (t ≡ a) → Dec (x ≡ z)
              → Queued w a z ⊎ ((t ≡ a) × (x ≡ z) × ((up request) ≡ (up request)))
          in-queue a z s (no p) d = inl (omega (arith, s, queued-other a z p))
          in-queue a z s (yes p) (yes y) = inr (p, y, refl)
          in-queue a z s (yes p) (no y) = inl (rw (updated-other w.item x queuedItem z y) at s)

      pub queued-stays : (v : ℕ) → FirstApart (Edge R w) v v → CycleStays known queuedItem lo hi ar v
      queued-stays v g = record {
        cycle = g;
        edge_stays = λ u b _ d. (omega (arith, d.stands, queued-le u d.item), queued-holder d.item ∙ d.held);
        edge-back = λ u b y d. let o = cycle-next (one-edge known.links) g y in queued-edge-back u b (λ z. request-no-edge o.next (subst (λ (a : ℕ). Edge R w a o.next) (sym z) o.out)) d;
      }

      queued-harmless : NoAborts queuedSends × ((v : ℕ) → cleans_sent v queuedSends ≡ 0)
      unfolding grant_or_queue cleans_sent
      queued-harmless = (by-test NoAborts (R.senior t h) (λ _. every-cons tt every-nil) (λ _. every-nil), λ v. by-test (λ (k : Sends). cleans_sent v k ≡ 0) (R.senior t h) (λ _. omega arith) (λ _. refl))

      queued-victims : ((v : ℕ) → mail.total v + 0 ≡ w.total v + cleans_sent v queuedSends) → Victims R afterQueued
      queued-victims tots = item-victims known queuedItem lo hi ar
          (λ v k i d. queued-stays v (known.victims.victim-on-cycle v k i (queued-edge-back v k (victim-not-requester v i) d)).cycle)
          (λ v i. let d = known.victims.victim-waits v i in queued-stays v
          (known.victims.victim-on-cycle v d.0 (omega (arith, i, stage-facts (stage_of w v))) d.1).cycle) (λ a _ r. queued-stays a r.cycle)
          tots (λ v. sym (queued-harmless.1 v)) (λ v a p. absurd (omega (arith, p, cleansOf-sentTo v a queuedSends, queued-harmless.1 v)))
          (λ a. noAborts-ofAbort R afterQueued a queued-harmless.0) (λ v z i p. omega (arith, p, queued-other v z (victim-not-requester v i)))

    -- t becomes holder of a free item
    module _ (e : (w.item x).holder ≡ none) (ar : ItemTakes w t x (up request) (grant_or_queue R t (w.item x).queue none).sends mail) where
      abbrev pub grantedItem : Item
      grantedItem = (grant_or_queue R t (w.item x).queue none).after

      abbrev pub grantedSends : Sends
      grantedSends = (grant_or_queue R t (w.item x).queue none).sends

      abbrev afterGranted : World
      afterGranted = worldAfterItem w x grantedItem mail

      granted-was-free : {b : ℕ} → HolderIs w x b → ⊥
      granted-was-free y = let z : ◌≡◌ {A = ℕ} 0 1 = cc in omega arith

      granted-empty : (w.item x).queue ≡ []
      unfolding FreeIsEmpty
      granted-empty = known.links.idle x e

      pub granted-edge : (a b : ℕ) → Edge R w a b → Edge R afterGranted a b
      granted-edge a b d =
          let p : x ≢ d.item = λ z. granted-was-free {b = b} (rw z d.held) in
          record { item = d.item; low = d.low; high = d.high; stands = rw (updated-other w.item x grantedItem d.item p) d.stands; held = rw (updated-other w.item x grantedItem d.item p) d.held }

      granted-le : (a z : ℕ) → occurs a (afterGranted.item z).queue ≤ occurs a (w.item z).queue
      unfolding grant_or_queue
      granted-le a z = elim (same? x z) [ yes p ↦ rw (← p, updated-same) (omega arith) | no p ↦ rw (updated-other w.item x grantedItem z p) (omega arith) ]

      granted-queue : (a z : ℕ) → Queued afterGranted a z → (x ≢ z) × Queued w a z
      unfolding occurs
      granted-queue a z s = let k : Queued w a z = omega (arith, s, granted-le a z) in (λ p. let k2 : Queued w a x = rw p k in omega (arith, ap (occurs a) granted-empty), k)

      pub granted-edge-back : (a b : ℕ) → Edge R afterGranted a b → Edge R w a b
      granted-edge-back a b d = let k = granted-queue a d.item d.stands in record { item = d.item; low = d.low; high = d.high; stands = k.1; held = rw (updated-other w.item x grantedItem d.item k.0) at d.held }

      granted-passed-back : (v a : ℕ) → Passed R afterGranted v a → Passed R w v a
      unfolding granted-edge-back
      granted-passed-back = passed-before R grantedItem ar (λ v a b c. clear-before R grantedItem ar v a b c (granted-edge-back a b c.edge) refl (λ _ _. omega arith))

      granted-told : ToldTo R afterGranted x grantedSends
      unfolding grant_or_queue TellsTo
      granted-told = every-cons tt every-nil

      granted-probes : Probes R w → Probes R afterGranted
      granted-probes h = item-probes R grantedItem lo hi ar h (record {
        keep-stored = λ a l i j c. told-map R w afterGranted c (path-map granted-edge c.path) (λ v. granted-passed-back v a);
        keep-up = λ a z _ _ s r b i j c. told-map R w afterGranted c (path-map granted-edge c.path) (λ v y. (y.0, granted-passed-back v a y.1));
        keep-down = λ a z l r p b y i j c.
            let k : x ≢ z = λ u. granted-was-free {b = a} (rw u c.held) in
            came-map R w afterGranted c (path-map granted-edge c.path) (rw (updated-other w.item x grantedItem z k) c.stands)
            (rw (updated-other w.item x grantedItem z k) c.held) (avoid-down-back R w afterGranted r p y (λ v. granted-passed-back v a));
        queue = λ a z _ _ s. inl (granted-queue a z s).1;
        one-request = one-request-at known.links lo hi ar.head;
        sent-true = λ a l. told-behind R afterGranted x a granted-told;
      })

      pub granted-stays : (v : ℕ) → FirstApart (Edge R w) v v → CycleStays known grantedItem lo hi ar v
      unfolding granted-edge
      granted-stays v g = record { cycle = g; edge_stays = λ u b _ d. let k = granted-edge u b d in (k.stands, k.held); edge-back = λ u b _. granted-edge-back u b }

      granted-harmless : NoAborts grantedSends × ((v : ℕ) → cleans_sent v grantedSends ≡ 0)
      unfolding grant_or_queue cleans_sent
      granted-harmless = (every-cons tt every-nil, λ v. omega arith)

      granted-victims : ((v : ℕ) → mail.total v + 0 ≡ w.total v + cleans_sent v grantedSends) → Victims R afterGranted
      granted-victims tots = item-victims known grantedItem lo hi ar
          (λ v k i d. granted-stays v (known.victims.victim-on-cycle v k i (granted-edge-back v k d)).cycle)
          (λ v i. let d = known.victims.victim-waits v i in granted-stays v
          (known.victims.victim-on-cycle v d.0 (omega (arith, i, stage-facts (stage_of w v))) d.1).cycle) (λ a _ r. granted-stays a r.cycle)
          tots (λ v. sym (granted-harmless.1 v)) (λ v a p. absurd (omega (arith, p, cleansOf-sentTo v a grantedSends, granted-harmless.1 v))) (λ a. noAborts-ofAbort R afterGranted a granted-harmless.0) (λ v z i p. (granted-queue v z p).1)

  -- ---- release
  module _ (q : List Message) (hd : w.up t x ≡ up release ∷ q) where
    release-may : 1 ≤ may_release (stage_of w t)
    unfolding count_kind
    release-may = let k = known.links.linked t x lo hi in omega (arith, ap (count_kind Kind.release) hd)

    release-not-live : (a : ℕ) → Live w a → a ≢ t
    release-not-live a l z = omega (arith, release-may, stage-facts (stage_of w t), ap bit (rw z at l))

    release-holds : 1 ≤ bit (held_by (w.item x).holder t)
    unfolding count_kind
    release-holds = let k = known.links.linked t x lo hi in omega (arith, ap (count_kind Kind.release) hd)

    release-awaits-none : (z : ℕ) → awaits (stage_of w t) z ≡ 0
    release-awaits-none z = omega (arith, release-may, seen-facts (stage_of w t) z)

    pub release-no-edge : (b : ℕ) → Edge R w t b → ⊥
    release-no-edge b e = let f = known.links.linked t e.item e.low e.high in omega (arith, e.stands, release-awaits-none e.item)

    pub release-holder : HolderIs w x t
    release-holder = is_held_by (w.item x).holder t (bit-one _ release-holds)

    -- whoever is the next holder, or nobody
    module _ (i' : Item) {out : Sends} (less : (a : ℕ) → occurs a i'.queue ≤ occurs a (w.item x).queue) (ar : ItemTakes w t x (up release) out mail) where
      abbrev afterReleased : World
      afterReleased = worldAfterItem w x i' mail

      released-edge : (a : ℕ) → Queued w a x → Edge R w a t
      released-edge a s = record { item = x; low = lo; high = hi; stands = s; held = release-holder }

      -- nobody in this queue is a victim
      pub released-no-victim : (a : ℕ) → Queued w a x → VictimIn w a → ⊥
      released-no-victim a s i = let e = released-edge a s in let g = cycle-next (one-edge known.links) (known.victims.victim-on-cycle a t i e).cycle (onward rest e) in release-no-edge g.next g.out

      released-le : (a z : ℕ) → occurs a (afterReleased.item z).queue ≤ occurs a (w.item z).queue
      released-le a z = elim (same? x z) [ yes p ↦ rw (← p, updated-same) (less a) | no p ↦ rw (updated-other w.item x i' z p) (omega arith) ]

      released-keep : (a b : ℕ) → b ≢ t → Edge R w a b → Edge R afterReleased a b
      released-keep a b ne d =
          let p : x ≢ d.item = λ z. ne (let k : HolderIs w x b = rw z d.held in let k2 = release-holder in cc) in
          record { item = d.item; low = d.low; high = d.high; stands = rw (updated-other w.item x i' d.item p) d.stands; held = rw (updated-other w.item x i' d.item p) d.held }

      released-far : (a b : ℕ) (d : Edge R afterReleased a b) → x ≢ d.item → Edge R w a b
      released-far a b d p = record { item = d.item; low = d.low; high = d.high; stands = rw (updated-other w.item x i' d.item p) at d.stands; held = rw (updated-other w.item x i' d.item p) at d.held }

      released-at : (a b : ℕ) (d : Edge R afterReleased a b) → x ≡ d.item → Queued w a x
      released-at a b d p = let k : Queued w a d.item = omega (arith, d.stands, released-le a d.item) in rw p k

      released-out : (v h : ℕ) → VictimIn w v → Edge R afterReleased v h → (k : ℕ) × Edge R w v k
      released-out v h i d = elim (same? x d.item) [ yes p ↦ (t, released-edge v (released-at v h d p)) | no p ↦ (h, released-far v h d p) ]

      released-clear-back : (v u b c d : ℕ) → Edge R w u c → Edge R w c d → ClearEdge R afterReleased v u b → ClearEdge R w v u b
      unfolding released-far
      released-clear-back v u b c d p q k = elim (same? x k.edge.item) [
        | yes y ↦ absurd (release-no-edge d (rw (one-edge known.links u c t p (released-edge u (released-at u b k.edge y))) at q))
        | no y ↦ clear-before R i' ar v u b k (released-far u b k.edge y) refl (λ _ _. omega arith)
      ]

      released-passed-back : (v a : ℕ) → Passed R afterReleased v a → Passed R w v a
      released-passed-back = passed-on-cycle known afterReleased (λ v. refl) released-out released-clear-back

      released-not-holder : (a z : ℕ) → 1 ≤ z → z ≤ R.M → Queued afterReleased a z ⊎ (1 ≤ count_kind Kind.request (mail.up a z)) → a ≢ t
      released-not-holder a z lo' hi' (inl s) y = let f = known.links.linked a z lo' hi' in omega (arith, s, released-le a z, release-awaits-none z, ap (λ (u : ℕ). awaits (stage_of w u) z) y)
      released-not-holder a z lo' hi' (inr s) y =
          let f = known.links.linked a z lo' hi' in
          omega (arith, s, up_le R i' lo hi ar Kind.request a z (same? t a) (same? x z), release-awaits-none z, ap (λ (u : ℕ). awaits (stage_of w u) z) y)

      released-probes : ToldTo R afterReleased x out → Probes R w → Probes R afterReleased
      unfolding count_kind
      released-probes nw h = item-probes R i' lo hi ar h (record {
        keep-stored = λ a l i j c. told-map R w afterReleased c (path-cut t release-no-edge released-keep (release-not-live a l) c.path) (λ v. released-passed-back v a);
        keep-up = λ a z lo' hi' s r b i j c. told-map R w afterReleased c (path-cut t release-no-edge released-keep (released-not-holder a z lo' hi' s) c.path) (λ v y. (y.0, released-passed-back v a y.1));
        keep-down = λ a z l r p b y i j c.
            let k : x ≢ z = λ u. release-not-live a l (let k1 : HolderIs w x a = rw u c.held in let k2 = release-holder in cc) in
            let d : Edge R w c.from a = record { item = z; low = c.low; high = c.high; stands = c.stands; held = c.held } in
            let nf : c.from ≢ t = λ u. release-no-edge a (rw u at d) in
            came-map R w afterReleased c (path-cut t release-no-edge released-keep nf c.path) (rw (updated-other w.item x i' z k) c.stands)
            (rw (updated-other w.item x i' z k) c.held) (avoid-down-back R w afterReleased r p y (λ v. released-passed-back v a));
        queue = λ a z _ _ s. inl (omega (arith, s, released-le a z));
        one-request = one-request-at known.links lo hi ar.head;
        sent-true = λ a l. told-behind R afterReleased x a nw;
      })

      -- the probes to the next holder
      hand-over-told : (k : ℕ) → i'.holder ≡ some k → ((v : ℕ) → cleans_sent v out ≡ 0) → (m : List ℕ) → ToldTo R afterReleased x (probes_anew R k i'.queue m)
      hand-over-told k e z m = told-probesAnew R afterReleased x k i'.queue m (λ a s sn. one-edge-probe R afterReleased x L a k lo hi (rw updated-same s) (rw updated-same e) sn (λ v b y. released-no-victim a (omega (arith, s, less a)) (rw y at (victim-at v b))))
        where
          victim-at : (v : ℕ) → MustAvoid R afterReleased k x v → VictimIn w v
          victim-at v (inl p) = p.is-victim
          victim-at v (inr p) = omega (arith, stage-facts (stage_of w v), victim-of-down known v k x (omega (arith, ap (cleans_of v) (ar.down-at k), cleansOf-append v (w.down k x) (sent_to k out), cleansOf-sentTo v k out, z v)))

      pub released-stays : (v : ℕ) → FirstApart (Edge R w) v v → CycleStays known i' lo hi ar v
      unfolding released-keep
      released-stays v g = record {
        cycle = g;
        edge_stays = λ u b y d. let o = cycle-next (one-edge known.links) g (onward y d) in let k = released-keep u b (λ z. release-no-edge o.next (subst (λ (a : ℕ). Edge R w a o.next) z o.out)) d in (k.stands, k.held);
        edge-back = λ u b y d. elim (same? x d.item) [ yes p ↦ absurd (let o = cycle-next (one-edge known.links) g (onward y (released-edge u (released-at u b d p))) in release-no-edge o.next o.out) | no p ↦ released-far u b d p ];
      }

      released-victims : NoAborts out → ((v : ℕ) → cleans_sent v out ≡ 0) → ((v : ℕ) → mail.total v + 0 ≡ w.total v + cleans_sent v out) → Victims R afterReleased
      released-victims sf z tots = item-victims known i' lo hi ar
          (λ v k i d. let o = released-out v k i d in released-stays v (known.victims.victim-on-cycle v o.0 i o.1).cycle)
          (λ v i. let d = known.victims.victim-waits v i in released-stays v
          (known.victims.victim-on-cycle v d.0 (omega (arith, i, stage-facts (stage_of w v))) d.1).cycle) (λ a _ r. released-stays a r.cycle)
          tots (λ v. sym (z v)) (λ v a p. absurd (omega (arith, p, cleansOf-sentTo v a out, z v))) (λ a. noAborts-ofAbort R afterReleased a sf) (λ v y i p. omega (arith, p, released-le v y))

  -- ---- both, as the item does them
  abbrev pub ItemDone : Message → ItemStep → Type 0
  ItemDone m o = ItemTakes w t x m o.sends mail → ((v : ℕ) → mail.total v + 0 ≡ w.total v + cleans_sent v o.sends) → Probes R w → Probes R (worldAfterItem w x o.after mail) × Victims R (worldAfterItem w x o.after mail)

  pub request-item : ItemDone (up request) (item_receives R t (w.item x) (up request))
  unfolding item_receives on_request count_kind
  request-item = by-test (ItemDone (up request)) (held_by (w.item x).holder t || member t (w.item x).queue)
      (λ e ar ts h. absurd (no_drop (mail.up t x) ar.head e)) (λ _. joins (w.item x).holder refl)
    where
      no_drop : (q : List Message) → w.up t x ≡ up request ∷ q → held_by (w.item x).holder t || member t (w.item x).queue ≡ true → ⊥
      no_drop q hd e =
          let k = known.links.linked t x lo hi in
          let s = seen-facts (stage_of w t) x in
          omega (
            arith,
            request-awaits q hd,
            request-is-waiting q hd,
            request-not-queued q hd,
            ap (count_kind Kind.request) hd,
            bit_or (held_by (w.item x).holder t) (member t (w.item x).queue) e,
            bit-member t (w.item x).queue,
            stage-facts (stage_of w t),
          )

      joins : (o : Option ℕ) → (w.item x).holder ≡ o → ItemDone (up request) (grant_or_queue R t (w.item x).queue o)
      joins none e ar ts h = (granted-probes (mail.up t x) ar.head e ar h, granted-victims (mail.up t x) ar.head e ar ts)
      joins (some k) e ar ts h = (queued-probes (mail.up t x) ar.head k e ar h, queued-victims (mail.up t x) ar.head k e ar ts)

  hands-over : (l : List ℕ) → (w.item x).queue ≡ l → ItemDone (up release) (hand_over R l)
  unfolding hand_over TellsTo occurs
  hands-over [] e ar ts h = (released-probes (mail.up t x) ar.head _ (λ a. omega arith) ar every-nil h, released-victims (mail.up t x) ar.head _ (λ a. omega arith) ar every-nil (λ v. unfold cleans_sent in refl) ts)
  hands-over (b ∷ l) e ar ts h =
      let k = R.next b l in
      let more = without k (b ∷ l) in
      let nx : Item = record { holder = some k; queue = more } in
      let less : (a : ℕ) → occurs a more ≤ occurs a (w.item x).queue = λ a. omega (arith, occurs-without-le a k (b ∷ l), ap (occurs a) e) in
      let z : (v : ℕ) → cleans_sent v (hand_over R (b ∷ l)).sends ≡ 0 = λ v. cleansSent-handOver R v k more _ in (
        released-probes (mail.up t x) ar.head nx less ar (every-cons tt (hand-over-told (mail.up t x) ar.head nx less ar k refl z _)) h,
        released-victims (mail.up t x) ar.head nx less ar (every-cons tt (noAborts-probesAnew R k more _)) z ts,
      )

  pub release-item : ItemDone (up release) (item_receives R t (w.item x) (up release))
  unfolding item_receives on_release
  release-item = by-test (ItemDone (up release)) (held_by (w.item x).holder t) (λ _. hands-over (w.item x).queue refl) (λ e ar ts h. absurd (omega (arith, release-holds (mail.up t x) ar.head, ap bit e)))
