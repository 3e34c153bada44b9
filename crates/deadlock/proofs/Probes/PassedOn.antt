-- An item that stays as it is: which victims a probe that it passes on has to avoid.
use mathlib.Core.Path.{◌∙◌, ◌≡◌, ap, refl, sym}
use mathlib.Core.Bool.{false, true, true≢false}
use mathlib.Core.List.{[], ◌∷◌, List, map}
use mathlib.Core.Logic.{◌≢◌, ◌⊎◌, inl, inr}
use Prim.Native.Nat.{◌+◌, ◌≤◌, ℕ}
use native.Mathlib.Omega.{arith}
use lib.Dec.{eqb}
use Rattle.lists.specs.Lists.{filter}
use Rattle.lists.proofs.Tests.{by-test, eqb_self, same?}
use borrow.Author.Tests.{ne_eqb}
use Rattle.deadlock.specs.Lists.{bit, occurs}
use Rattle.deadlock.specs.Machine.{Item, Laws, Message, probe, probes_anew, probes_to, resends, Rules, Sends}
use Rattle.message.specs.Kind
use Rattle.deadlock.specs.Counts.{clean_of, cleans_of, count_kind, EachBehind, Every, every-cons, every-nil, kind_of, OfProbe, sent_to}
use Rattle.deadlock.specs.Walks.{FirstApart, LastApart, onward, rest, rest_path, Walk}
use Rattle.deadlock.specs.World.{CameTo, CleanUnderWay, ClearEdge, CycleMate, Edge, HolderIs, is_victim, Known, Mail, MustAvoidUp, Passed, Probes, Queued, stage_of, TellsDown, ToldOf, VictimIn, World}
use Rattle.deadlock.proofs.Laws.Lists.{updated-unchanged, zero-or-more}
use Rattle.deadlock.proofs.Laws.Stages.{stage-facts}
use Rattle.deadlock.proofs.Laws.Seniority.{not-senior-refl, senior-not-senior}
use Rattle.deadlock.proofs.Laws.Counts.{behind-head, cleansOf-append, every_append, every-behind, every-sentTo, ofProbe-map, TellsTo}
use Rattle.deadlock.proofs.Laws.Walks.{cycle-one-way-in, first-edge-of, path-map, path-walk-from, walk-lastApart, walk-map}
use Rattle.deadlock.proofs.Victims.OneOnCycle.{avoid-down-back, came-map, clean-up-is, clear-edges, edge-against, edge-along, one-edge, one-request-at, same-item-edge, told-map, victim-of-down}
use Rattle.deadlock.proofs.Probes.PathsStay.{item-probes, ItemTakes, worldAfterItem}
use Rattle.deadlock.proofs.Probes.KeptByWithdraw.{clear-before, passed-before}

-- the victims that the path of a probe from item x to a has to avoid where no clean is behind it
abbrev pub MustAvoid : (R : Rules) (w : World) → ℕ → ℕ → ℕ → Type 0
MustAvoid R w a x v = Passed R w v a ⊎ (1 ≤ cleans_of v (w.down a x))

abbrev pub ToldTo : (R : Rules) (w : World) (x : ℕ) → Sends → Type 0
ToldTo R w x out = Every (TellsTo (λ a i j. CameTo R w i j a x (MustAvoid R w a x))) out

came-weaken : (R : Rules) (w : World) {i j a x : ℕ} {B B' : ℕ → Type 0} → ((v : ℕ) → B' v → B v) → CameTo R w i j a x B → CameTo R w i j a x B'
came-weaken R w f c = record { from = c.from; places = c.places; path = c.path; low = c.low; high = c.high; stands = c.stands; held = c.held; avoid = λ v b. c.avoid v (f v b); ranks = c.ranks }

pub told-behind : (R : Rules) (w : World) (x a : ℕ) {out : Sends} → ToldTo R w x out → EachBehind (TellsDown R w a x) (sent_to a out)
told-behind R w x a h = every-behind (λ m r. ofProbe-map (λ i j c. came-weaken R w (λ v b. b.1) c) m) (every-sentTo (λ b i j. CameTo R w i j b x (MustAvoid R w b x)) a h)

module _ (R : Rules) (w : World) (x : ℕ) where
  told-resends : (l : List ℕ) → ToldTo R w x (resends l)
  unfolding resends TellsTo
  told-resends [] = every-nil
  told-resends (b ∷ l) = every-cons tt (told-resends l)

  told-probesTo : (h : ℕ) (l : List ℕ) → ((a : ℕ) → 1 ≤ occurs a l → R.senior a h ≡ true → CameTo R w a h h x (MustAvoid R w h x)) → ToldTo R w x (probes_to R h l)
  unfolding probes_to filter TellsTo occurs
  told-probesTo h [] k = every-nil
  told-probesTo h (b ∷ l) k =
      let ih = told-probesTo h l (λ a p q. k a (omega arith) q) in
      by-test (λ (q : List ℕ). ToldTo R w x (map (λ (a : ℕ). (h, probe a h)) q)) (R.senior b h) (λ e. every-cons (k b (omega (arith, ap bit (eqb_self b))) e) ih) (λ _. ih)

  pub told-probesAnew : (h : ℕ) (l m : List ℕ) → ((a : ℕ) → 1 ≤ occurs a l → R.senior a h ≡ true → CameTo R w a h h x (MustAvoid R w h x)) → ToldTo R w x (probes_anew R h l m)
  unfolding probes_anew
  told-probesAnew h l m k = every_append (told-probesTo h l k) (told-resends m)

  -- a probe that tells of one edge
  pub one-edge-probe : (L : Laws R) (a h : ℕ) → 1 ≤ x → x ≤ R.M → Queued w a x → HolderIs w x h → R.senior a h ≡ true
      → ((v : ℕ) → MustAvoid R w h x v → v ≢ a) → CameTo R w a h h x (MustAvoid R w h x)
  unfolding occurs
  one-edge-probe L a h lo hi s e q f = record {
    from = a;
    places = [];
    path = rest_path;
    low = lo;
    high = hi;
    stands = s;
    held = e;
    avoid = λ v b. omega (arith, ap bit (ne_eqb a v (λ z. f v b (sym z))));
    ranks = record { junior_to_all = every-cons (senior-not-senior R L a h q) every-nil; senior_to_all = every-cons (not-senior-refl R L a) every-nil; has-junior = omega (arith, ap bit (eqb_self h)); end-not-senior = senior-not-senior R L a h q };
  }

module _ {R : Rules} (L : Laws R) {w : World} (known : Known R w) (t x : ℕ) (lo : 1 ≤ x) (hi : x ≤ R.M) where
  -- no victim waits for somebody more junior
  no-victim-before-junior : (a h : ℕ) → Queued w a x → HolderIs w x h → R.senior a h ≡ true → VictimIn w a → ⊥
  no-victim-before-junior a h s e q i =
      let edge-up : Edge R w a h = record { item = x; low = lo; high = hi; stands = s; held = e } in
      cases ((known.victims.victim-on-cycle a h i edge-up).others h (onward rest edge-up))
    where
      cases : (h ≡ a) ⊎ CycleMate R w a h → ⊥
      cases (inl z) = true≢false (sym (rw z at q) ∙ L.irreflexive a)
      cases (inr k) = true≢false (sym (L.transitive a h a q k.1) ∙ L.irreflexive a)

  -- ---- the victims that the path of a probe that is passed on has to avoid
  module _ (i j h : ℕ) (q : List Message) (hd : w.up t x ≡ probe i j ∷ q) (s : Queued w t x) (e : HolderIs w x h)
      (l3 : EachBehind (λ m r. OfProbe (λ _ _. 1 ≤ count_kind Kind.clean r) m) (w.up t x) ⊎ (is_victim (stage_of w t) ≡ 0)) (c : ToldOf R w i j t (MustAvoidUp R w t q)) where
    edge-up : Edge R w t h
    edge-up = record { item = x; low = lo; high = hi; stands = s; held = e }

    -- t is reached from a victim that has no clean on its way from t: then no clean is behind the probe
    no-clean-behind : (v : ℕ) → VictimIn w v → (k : ℕ) → Edge R w v k → Walk (Edge R w) v t → cleans_of v (w.up t x) ≡ 0 → count_kind Kind.clean q ≡ 0
    unfolding count_kind
    no-clean-behind v iv k ev p z = cases (zero-or-more (count_kind Kind.clean q))
      where
        cases : (count_kind Kind.clean q ≡ 0) ⊎ (1 ≤ count_kind Kind.clean q) → count_kind Kind.clean q ≡ 0
        cases (inl y) = y
        cases (inr y) = absurd (omega (arith, clean-up-is known v t x iv ev p (omega (arith, ap (count_kind Kind.clean) hd))))

    -- t is no victim, then
    not-a-victim : count_kind Kind.clean q ≡ 0 → is_victim (stage_of w t) ≡ 0
    not-a-victim z = cases l3
      where
        cases : EachBehind (λ m r. OfProbe (λ _ _. 1 ≤ count_kind Kind.clean r) m) (w.up t x) ⊎ (is_victim (stage_of w t) ≡ 0) → is_victim (stage_of w t) ≡ 0
        cases (inl y) = let k : EachBehind (λ m r. OfProbe (λ _ _. 1 ≤ count_kind Kind.clean r) m) (probe i j ∷ q) = rw hd at y in absurd (omega (arith, behind-head k))
        cases (inr y) = y

    avoids-passed : (v : ℕ) → VictimIn w v → count_kind Kind.clean q ≡ 0 → Walk (ClearEdge R w v) v t → occurs v (t ∷ c.places) ≡ 0
    unfolding occurs
    avoids-passed v iv z p = cases (walk-lastApart p)
      where
        ne : t ≢ v
        ne y = omega (arith, not-a-victim z, ap (λ (u : ℕ). is_victim (stage_of w u)) y)

        cases : (v ≡ t) ⊎ LastApart (ClearEdge R w v) v t → bit (eqb t v) + occurs v c.places ≡ 0
        cases (inl y) = absurd (ne (sym y))
        cases (inr y) = omega (arith, ap bit (ne_eqb t v ne), c.avoid v (z, record { is-victim = iv; past = y }))

    -- a victim whose clean has passed the holder
    avoids-by-passed : (v : ℕ) → Passed R w v h → Walk (Edge R w) v t → occurs v (t ∷ c.places) ≡ 0
    unfolding edge-up
    avoids-by-passed v p r =
        let f = first-edge-of (clear-edges R w v h p.past) in
        let cycle = (known.victims.victim-on-cycle v f.0 p.is-victim f.1).cycle in
        let u = p.past.from in
        let z : u ≡ t = cycle-one-way-in (one-edge known.links) cycle (walk-map (λ a b k. k.edge) p.past.walk) r p.past.last.edge edge-up in
        let k : ClearEdge R w v t h = rw z at p.past.last in
        let y : k.edge.item ≡ x = same-item-edge known.links t h h k.edge edge-up in
        let g : cleans_of v (w.up t x) ≡ 0 = rw y at k.above in
        avoids-passed v p.is-victim (no-clean-behind v p.is-victim f.0 f.1 r g) (rw z at p.past.walk)

    -- a victim whose clean is before the probe on its way to the holder
    avoids-by-clean : (v : ℕ) → 1 ≤ cleans_of v (w.down h x) → Walk (Edge R w) v t → occurs v (t ∷ c.places) ≡ 0
    avoids-by-clean v b r =
        let f4 = victim-of-down known v h x b in
        let o = known.victims.victim-waits v f4 in
        let iv : VictimIn w v = omega (arith, stage-facts (stage_of w v)) in
        avoids-passed v iv (no-clean-behind v iv o.0 o.1 r (omega (arith, known.mail.up-and-down v t x h x, known.victims.one-clean v, stage-facts (stage_of w v)))) (both (clear-to f4 (known.victims.victim-on-cycle v o.0 iv o.1).cycle r))
      where
        both : Walk (ClearEdge R w v) v t ⊎ Walk (ClearEdge R w v) v t → Walk (ClearEdge R w v) v t
        both (inl k) = k
        both (inr k) = k

        step : CleanUnderWay w v → FirstApart (Edge R w) v v → {a u : ℕ} → Walk (Edge R w) v a → (d : Edge R w a u) → Dec (x ≡ d.item)
            → Walk (ClearEdge R w v) v a ⊎ Walk (ClearEdge R w v) v t → Walk (ClearEdge R w v) v u ⊎ Walk (ClearEdge R w v) v t
        step f4 cycle wa d y (inr k) = inr k
        step f4 cycle {a} {u} wa d (no y) (inl k) =
            inl (onward k (record {
              edge = d;
              above = omega (arith, known.mail.up-and-down v a d.item h x, known.victims.one-clean v, stage-facts (stage_of w v));
              under = omega (arith, known.mail.two_downs v h x u d.item y, known.victims.one-clean v, stage-facts (stage_of w v));
            }))
        step f4 cycle {a} {u} wa d (yes y) (inl k) =
            let g : HolderIs w x u = rw y d.held in
            let z : u ≡ h = cc in
            let d' : Edge R w a h = rw z at d in
            inr (rw (cycle-one-way-in (one-edge known.links) cycle wa r d' edge-up) at k)

        clear-to : CleanUnderWay w v → FirstApart (Edge R w) v v → {u : ℕ} → Walk (Edge R w) v u → Walk (ClearEdge R w v) v u ⊎ Walk (ClearEdge R w v) v t
        clear-to f4 cycle rest = inl rest
        clear-to f4 cycle (onward {u = a} {t = u} p d) = step f4 cycle p d (same? x d.item) (clear-to f4 cycle p)

    pub passes-avoiding : (v : ℕ) → MustAvoid R w h x v → occurs v (t ∷ c.places) ≡ 0
    passes-avoiding v b = cases (zero-or-more (occurs v (t ∷ c.places))) b
      where
        cases : (occurs v (t ∷ c.places) ≡ 0) ⊎ (1 ≤ occurs v (t ∷ c.places)) → MustAvoid R w h x v → occurs v (t ∷ c.places) ≡ 0
        cases (inl z) b = z
        cases (inr z) (inl p) = avoids-by-passed v p (path-walk-from v c.path z)
        cases (inr z) (inr p) = avoids-by-clean v p (path-walk-from v c.path z)

-- ---- an item that stays as it is
module _ {R : Rules} (L : Laws R) {w : World} (known : Known R w) {t x : ℕ} (lo : 1 ≤ x) (hi : x ≤ R.M)
    {m : Message} {out : Sends} {mail : Mail} (ar : ItemTakes w t x m out mail)
    (passed_on : (v b : ℕ) → Queued w t x → HolderIs w x b → clean_of v m ≤ cleans_of v (sent_to b out)) where
  abbrev pub after : World
  after = worldAfterItem w x (w.item x) mail

  same-items : (z : ℕ) → after.item z ≡ w.item z
  same-items = updated-unchanged w.item x

  pub same-edge : (a b : ℕ) → Edge R w a b → Edge R after a b
  same-edge = edge-along R w.item after.item same-items

  same-clear-back : (v a b : ℕ) → ClearEdge R after v a b → ClearEdge R w v a b
  unfolding edge-against
  same-clear-back v a b c =
      let f = edge-against R w.item after.item same-items a b c.edge in
      clear-before R (w.item x) ar v a b c f refl
      (λ p q. passed_on v b (let k : Queued w a f.item = f.stands in rw (p, q) k) (rw q f.held))

  pub same-passed-back : (v a : ℕ) → Passed R after v a → Passed R w v a
  same-passed-back = passed-before R (w.item x) ar same-clear-back

  pub same-probes : eqb (kind_of m) Kind.request ≡ false → ToldTo R after x out → Probes R w → Probes R after
  unfolding count_kind
  same-probes nr nw h = item-probes R (w.item x) lo hi ar h (record {
    keep-stored = λ a l i j c. told-map R w after c (path-map same-edge c.path) (λ v. same-passed-back v a);
    keep-up = λ a z _ _ s r b i j c. told-map R w after c (path-map same-edge c.path) (λ v q. (q.0, same-passed-back v a q.1));
    keep-down = λ a z l r p b e i j c. came-map R w after c (path-map same-edge c.path) (rw (same-items z) c.stands) (ap (λ (y : Item). y.holder) (same-items z) ∙ c.held) (avoid-down-back R w after r p e (λ v. same-passed-back v a));
    queue = λ a z _ _ s. inl (rw (same-items z) at s);
    one-request = one-request-at known.links lo hi ar.head;
    sent-true = λ a l. told-behind R after x a nw;
  })

  -- the probes of the sessions in the queue
  pub told-queue : (h : ℕ) (m : List ℕ) → HolderIs w x h → ((v : ℕ) → 1 ≤ cleans_of v (sent_to h out) → VictimIn w v)
      → ToldTo R after x (probes_anew R h (w.item x).queue m)
  told-queue h m e f = told-probesAnew R after x h (w.item x).queue m (λ a s q.
      one-edge-probe R after x L a h lo hi (rw (same-items x) s) (ap (λ (y : Item). y.holder) (same-items x) ∙ e) q (λ v b z. no-victim-before-junior L known t x lo hi a h s e q (rw z at (victim-at v b))))
    where
      victim-at : (v : ℕ) → MustAvoid R after h x v → VictimIn w v
      victim-at v (inl p) = p.is-victim
      victim-at v (inr p) = cases (zero-or-more (cleans_of v (w.down h x)))
        where
          cases : (cleans_of v (w.down h x) ≡ 0) ⊎ (1 ≤ cleans_of v (w.down h x)) → VictimIn w v
          cases (inl z) = f v (omega (arith, ap (cleans_of v) (ar.down-at h), cleansOf-append v (w.down h x) (sent_to h out)))
          cases (inr z) = omega (arith, victim-of-down known v h x z, stage-facts (stage_of w v))
