-- What an item's step leaves of the clauses on victims, if it keeps the cycles of the victims.
use mathlib.Core.Path.{◌≡◌, ap}
use mathlib.Core.Bool.{true}
use mathlib.Core.Logic.{◌⊎◌, inl, inr}
use Prim.Native.Nat.{◌+◌, ◌≤◌, ℕ}
use native.Mathlib.Omega.{arith}
use Rattle.lists.proofs.Tests.{same?}
use Rattle.deadlock.specs.Machine.{abort, clean, down, growing, Item, Message, probe, releasing, Rules, Sends, Stage, up, victim, waiting}
use Rattle.message.specs.Kind
use Rattle.deadlock.specs.Counts.{clean_of, cleans_of, cleans_sent, Every, sent_to}
use Rattle.deadlock.specs.Walks.{FirstApart, onward, rest, Walk}
use Rattle.deadlock.specs.World.{AbortTo, CleanGoesDown, CleanGoesUp, CleanUnderWay, CycleOf, Edge, HolderIs, is_waiting, Known, Mail, OfAbort, Queued, stage_of, VictimIn, Victims, World}
use Rattle.deadlock.proofs.Laws.Lists.{zero-or-more}
use Rattle.deadlock.proofs.Laws.Counts.{cleansOf-append, every_append, every_map}
use Rattle.deadlock.proofs.Laws.Walks.{walk-append, walk-back, walk-keep}
use Rattle.deadlock.proofs.Victims.OneOnCycle.{queue-has-holder, victim-of-down, victim-of-up}
use Rattle.deadlock.proofs.Probes.PathsStay.{ItemTakes, up-behind, up_le, worldAfterItem}

pub abortTo-map : (R : Rules) (w w' : World) (a : ℕ) (s : Stage)
    → (1 ≤ is_waiting s → CycleOf R w a (λ u. R.senior u a ≡ true) → CycleOf R w' a (λ u. R.senior u a ≡ true)) → AbortTo R w a s → AbortTo R w' a s
unfolding AbortTo
abortTo-map R w w' a growing f k = k
abortTo-map R w w' a (waiting y) f k = f (omega arith) k
abortTo-map R w w' a (victim p y) f k = k
abortTo-map R w w' a (releasing p) f k = k

pub ofAbort-map : (R : Rules) (w w' : World) (a : ℕ) → (AbortTo R w a (stage_of w a) → AbortTo R w' a (stage_of w' a)) → (m : Message) → OfAbort R w a m
    → OfAbort R w' a m
ofAbort-map R w w' a f (up m) k = tt
ofAbort-map R w w' a f (down m) k = tt
ofAbort-map R w w' a f (probe i j) k = tt
ofAbort-map R w w' a f (clean u i) k = tt
ofAbort-map R w w' a f (abort u i) k = (k.0, f k.1)

module _ {R : Rules} {w : World} (known : Known R w)
    {t x : ℕ} {m : Message} (i : Item) {out : Sends} {mail : Mail} (lo : 1 ≤ x) (hi : x ≤ R.M) (ar : ItemTakes w t x m out mail) where
  abbrev pub after : World
  after = worldAfterItem w x i mail

  -- v lies on a cycle, and the edges on it stay
  pub record CycleStays (v : ℕ) : Type 0 where
    pub cycle : FirstApart (Edge R w) v v
    pub edge_stays : (u b : ℕ) → Walk (Edge R w) v u → (e : Edge R w u b) → Queued after u e.item × HolderIs after e.item b
    pub edge-back : (u b : ℕ) → Walk (Edge R w) v u → Edge R after u b → Edge R w u b

  module _ {v : ℕ} (k : CycleStays v) where
    stays-edge : (u b : ℕ) → Walk (Edge R w) v u → Edge R w u b → Edge R after u b
    stays-edge u b y e = let s = k.edge_stays u b y e in record { item = e.item; low = e.low; high = e.high; stands = s.0; held = s.1 }

    pub stays-walk : {u : ℕ} → Walk (Edge R w) v u → Walk (Edge R after) v u
    stays-walk = walk-keep stays-edge

    stays-walk-back : {u : ℕ} → Walk (Edge R after) v u → Walk (Edge R w) v u
    stays-walk-back = walk-back k.edge-back

    pub stays-cycle : FirstApart (Edge R after) v v
    stays-cycle =
        let g = k.cycle in
        let r0 : Walk (Edge R w) v v = rest in
        record { next = g.next; out = stays-edge v g.next r0 g.out; walk = walk-keep (λ u b y e. stays-edge u b (walk-append (onward r0 g.out) y) e) g.walk }

    pub stays-cycle-of : {P : ℕ → Type 0} → CycleOf R w v P → CycleOf R after v P
    stays-cycle-of r = record { cycle = stays-cycle; others = λ u y. r.others u (stays-walk-back y) }

  up-cleansOf-le : (v a z : ℕ) → Dec (t ≡ a) → Dec (x ≡ z) → cleans_of v (mail.up a z) ≤ cleans_of v (w.up a z)
  unfolding cleans_of
  up-cleansOf-le v a z (yes p) (yes q) = rw (← p, ← q) (omega (arith, ap (cleans_of v) ar.head))
  up-cleansOf-le v a z (no p) d = omega (arith, ap (cleans_of v) (ar.up-off a z (inl p)))
  up-cleansOf-le v a z (yes p) (no q) = omega (arith, ap (cleans_of v) (ar.up-off a z (inr q)))

  module _ (ok2 : (v h : ℕ) → VictimIn w v → Edge R after v h → CycleStays v) (ok4 : (v : ℕ) → CleanUnderWay w v → CycleStays v)
      (oka : (a : ℕ) → 1 ≤ is_waiting (stage_of w a) → CycleOf R w a (λ u. R.senior u a ≡ true) → CycleStays a)
      (tots : (v : ℕ) → mail.total v + clean_of v m ≡ w.total v + cleans_sent v out) (cleans : (v : ℕ) → clean_of v m ≡ cleans_sent v out)
      (newclean : (v a : ℕ) → 1 ≤ cleans_of v (sent_to a out) → CleanGoesDown R after v a x) (newabort : (a : ℕ) → Every (OfAbort R after a) (sent_to a out))
      (linev : (v z : ℕ) → VictimIn w v → Queued after v z → Queued w v z) where
    clean-up-kept : (v a z : ℕ) → 1 ≤ cleans_of v (mail.up a z) → CleanGoesUp R after v a z
    clean-up-kept v a z p =
        let p0 : 1 ≤ cleans_of v (w.up a z) = omega (arith, p, up-cleansOf-le v a z (same? t a) (same? x z)) in
        let c = known.victims.clean-up-on-cycle v a z p0 in
        let k = ok4 v (victim-of-up known v a z p0) in
        let h = queue-has-holder known.links a z c.stands in
        let e : Edge R w a h.0 = record { item = z; low = c.low; high = c.high; stands = c.stands; held = h.1 } in
        record { low = c.low; high = c.high; stands = (k.edge_stays a h.0 c.walk e).0; walk = stays-walk k c.walk }

    clean-down-old : (v a z : ℕ) → 1 ≤ cleans_of v (w.down a z) → CleanGoesDown R after v a z
    clean-down-old v a z p =
        let c = known.victims.clean-down-on-cycle v a z p in
        let k = ok4 v (victim-of-down known v a z p) in
        let e : Edge R w c.from a = record { item = z; low = c.low; high = c.high; stands = c.stands; held = c.held } in
        let s = k.edge_stays c.from a c.walk e in
        record { low = c.low; high = c.high; held = s.1; from = c.from; stands = s.0; walk = stays-walk k c.walk }

    clean-down-kept : (v a z : ℕ) → Dec (x ≡ z) → 1 ≤ cleans_of v (mail.down a z) → CleanGoesDown R after v a z
    clean-down-kept v a z (no q) p = clean-down-old v a z (omega (arith, p, ap (cleans_of v) (ar.down-off a z q)))
    clean-down-kept v a z (yes q) p = rw (← q) (cases (zero-or-more (cleans_of v (w.down a x))))
      where
        cases : (cleans_of v (w.down a x) ≡ 0) ⊎ (1 ≤ cleans_of v (w.down a x)) → CleanGoesDown R after v a x
        cases (inl k) = newclean v a (let p2 : 1 ≤ cleans_of v (mail.down a x) = rw q p in omega (arith, ap (cleans_of v) (ar.down-at a), cleansOf-append v (w.down a x) (sent_to a out)))
        cases (inr k) = clean-down-old v a x k

    abort-kept : (a : ℕ) → AbortTo R w a (stage_of w a) → AbortTo R after a (stage_of w a)
    abort-kept a = abortTo-map R w after a (stage_of w a) (λ s r. stays-cycle-of (oka a s r) r)

    aborts-kept : (a z : ℕ) → Dec (x ≡ z) → Every (OfAbort R after a) (mail.down a z)
    aborts-kept a z (no q) = rw (ar.down-off a z q) (every_map (ofAbort-map R w after a (abort-kept a)) (known.victims.aborts a z))
    aborts-kept a z (yes q) = rw (← q, ar.down-at a) (every_append (every_map (ofAbort-map R w after a (abort-kept a)) (known.victims.aborts a x)) (newabort a))

    pub item-victims : Victims R after
    item-victims = record {
      one-clean = λ v. omega (arith, tots v, cleans v, known.victims.one-clean v);
      victim-on-cycle = λ v h s e. let k = ok2 v h s e in let r0 : Walk (Edge R w) v v = rest in stays-cycle-of k (known.victims.victim-on-cycle v h s (k.edge-back v h r0 e));
      victim-waits = λ v s. let k = ok4 v s in let e = known.victims.victim-waits v s in (e.0, stays-edge k v e.0 rest e.1);
      clean-up-on-cycle = clean-up-kept;
      clean-down-on-cycle = λ v a z. clean-down-kept v a z (same? x z);
      aborts = λ a z. aborts-kept a z (same? x z);
      no_request = λ v z lo' hi' s. omega (arith, known.victims.no_request v z lo' hi' s, up_le R i lo hi ar Kind.request v z (same? t v) (same? x z));
      clean-behind-probes = λ v z lo' hi' s p. up-behind R i lo hi ar v z (same? t v) (same? x z) (known.victims.clean-behind-probes v z lo' hi' s (linev v z s p));
    }
