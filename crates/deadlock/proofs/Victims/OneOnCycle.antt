-- What follows from the clauses on victims: one edge from each session, one victim on a cycle, and where its clean is.
use mathlib.Core.Path.{◌∙◌, ◌≡◌, ap, refl, sym}
use mathlib.Core.List.{◌++◌, ◌∷◌, List}
use mathlib.Core.Logic.{◌⊎◌, inl, inr}
use Prim.Native.Nat.{◌≤◌, ℕ}
use native.Mathlib.Omega.{arith}
use mathlib.Core.Option.{none, Option, some}
use Rattle.lists.proofs.Tests.{eqb_self}
use Rattle.deadlock.specs.Machine.{down, grant, held_by, Item, Message, Rules}
use Rattle.message.specs.Kind
use Rattle.deadlock.specs.Counts.{cleans_of, count_kind}
use Rattle.deadlock.specs.Links.{awaits}
use Rattle.deadlock.specs.Walks.{LastApart, onward, Path, Walk}
use Rattle.deadlock.specs.World.{CameTo, CleanGoesDown, CleanUnderWay, ClearEdge, CycleMate, Edge, FreeIsEmpty, HolderIs, Known, Links, Live, Passed, Queued, stage_of, ToldOf, VictimIn, WaitEdge, World}
use Rattle.deadlock.specs.Lists.{bit, occurs}
use Rattle.deadlock.proofs.Laws.Lists.{zero-or-more}
use Rattle.deadlock.proofs.Laws.Routes.{countKind-append}
use Rattle.deadlock.proofs.Laws.Stages.{awaits-item, awaits-one, seen-facts, stage-facts}
use Rattle.deadlock.proofs.Laws.Counts.{cleansOf-append, cleansOf-le, cleansOf-some}
use Rattle.deadlock.proofs.Laws.Walks.{cycle-back, walk-append, walk-map}

-- items that say the same have the same edges
module _ (R : Rules) (I J : ℕ → Item) (same : (z : ℕ) → J z ≡ I z) where
  unfoldable pub edge-along : (a b : ℕ) → WaitEdge R I a b → WaitEdge R J a b
  edge-along a b e = record { item = e.item; low = e.low; high = e.high; stands = rw (same e.item) e.stands; held = ap (λ (y : Item). y.holder) (same e.item) ∙ e.held }

  unfoldable pub edge-against : (a b : ℕ) → WaitEdge R J a b → WaitEdge R I a b
  edge-against a b e = record { item = e.item; low = e.low; high = e.high; stands = rw (same e.item) at e.stands; held = sym (ap (λ (y : Item). y.holder) (same e.item)) ∙ e.held }

module _ {R : Rules} {w : World} (lk : Links R w) where
  -- a session stands in one queue
  pub one-queue : (a x y : ℕ) → 1 ≤ x → x ≤ R.M → 1 ≤ y → y ≤ R.M → Queued w a x → Queued w a y → x ≡ y
  one-queue a x y lo hi lo' hi' p q =
      let f = lk.linked a x lo hi in
      let g = lk.linked a y lo' hi' in
      awaits-one (awaits-item (stage_of w a) x (omega arith)) (awaits-item (stage_of w a) y (omega arith))

  pub one-edge : (a b c : ℕ) → Edge R w a b → Edge R w a c → b ≡ c
  one-edge a b c p q =
      let z = one-queue a p.item q.item p.low p.high q.low q.high p.stands q.stands in
      let h : HolderIs w q.item b = rw z at p.held in
      let k = q.held in
      cc

  pub same-item-edge : (a b c : ℕ) (p : Edge R w a b) (q : Edge R w a c) → p.item ≡ q.item
  same-item-edge a b c p q = one-queue a p.item q.item p.low p.high q.low q.high p.stands q.stands

  -- an item with somebody in its queue is held
  pub queue-has-holder : (a x : ℕ) → Queued w a x → (h : ℕ) × HolderIs w x h
  unfolding FreeIsEmpty occurs
  queue-has-holder a x s = cases (w.item x).holder refl
    where
      cases : (o : Option ℕ) → (w.item x).holder ≡ o → (h : ℕ) × HolderIs w x h
      cases none e = absurd (omega (arith, s, ap (occurs a) (lk.idle x e)))
      cases (some h) e = (h, e)

  -- one request at most is on its way from a session to an item
  pub one-request-at : {t x : ℕ} {q : List Message} → 1 ≤ x → x ≤ R.M → w.up t x ≡ q → count_kind Kind.request q ≤ 1
  one-request-at {t} {x} lo hi e = let k = lk.linked t x lo hi in let s = seen-facts (stage_of w t) x in omega (arith, ap (count_kind Kind.request) e)

  -- a live session does not wait for itself
  pub no-self-edge : (t : ℕ) → Edge R w t t → Live w t → ⊥
  unfolding held_by
  no-self-edge t e l =
      let k = lk.linked t e.item e.low e.high in
      omega (
        arith,
        e.stands,
        ap (λ (b : Option ℕ). bit (held_by b t)) e.held,
        ap bit (eqb_self t),
        stage-facts (stage_of w t),
        stage-facts (stage_of w t),
        ap bit l,
        seen-facts (stage_of w t) e.item,
      )

  -- a session that stands in a queue has no grant on its way
  pub waits-no-grant : (a b x : ℕ) → Edge R w a b → 1 ≤ x → x ≤ R.M → count_kind Kind.grant (w.down a x) ≡ 0
  waits-no-grant a b x e lo hi =
      let f = lk.linked a x lo hi in
      let g = lk.linked a e.item e.low e.high in
      elim (zero-or-more (awaits (stage_of w a) x)) [
        | inl z ↦ omega (arith, f.one_place, z)
        | inr z ↦
            let q : e.item ≡ x = awaits-one (awaits-item (stage_of w a) e.item (omega (arith, g.one_place, e.stands))) (awaits-item (stage_of w a) x z) in
            let stands : Queued w a x = rw q at e.stands in
            omega (arith, f.one_place, stands, seen-facts (stage_of w a) x)
      ]

  pub no-grant-queued : {t x : ℕ} {d : List Message} → 1 ≤ x → x ≤ R.M → w.down t x ≡ down grant ∷ d → (h : ℕ) → Edge R w t h → ⊥
  unfolding count_kind
  no-grant-queued {t} {x} lo hi e h k = omega (arith, ap (count_kind Kind.grant) e, waits-no-grant t h x k lo hi)

module _ {R : Rules} {w : World} (known : Known R w) where
  -- one victim on a cycle
  pub one-victim : (v v' u : ℕ) → VictimIn w v → VictimIn w v' → {h h' : ℕ} → Edge R w v h → Edge R w v' h'
      → Walk (Edge R w) v u → Walk (Edge R w) v' u → v ≡ v'
  one-victim v v' u i i' {h} {h'} e e' p p' =
      let k = walk-append p (cycle-back (one-edge known.links) (known.victims.victim-on-cycle v' h' i' e').cycle p') in
      cases ((known.victims.victim-on-cycle v h i e).others v' k)
    where
      cases : (v' ≡ v) ⊎ CycleMate R w v v' → v ≡ v'
      cases (inl q) = sym q
      cases (inr q) = absurd (omega (arith, q.0, stage-facts (stage_of w v')))

  pub victim-of-up : (v t x : ℕ) → 1 ≤ cleans_of v (w.up t x) → CleanUnderWay w v
  victim-of-up v t x h = omega (arith, known.mail.up_le v t x, known.victims.one-clean v)

  pub victim-of-down : (v t x : ℕ) → 1 ≤ cleans_of v (w.down t x) → CleanUnderWay w v
  victim-of-down v t x h = omega (arith, known.mail.down_le v t x, known.victims.one-clean v)

  -- a clean on its way from t, or to t, is of the victim on whose cycle t lies
  pub clean-up-is : (v t x : ℕ) → VictimIn w v → {h : ℕ} → Edge R w v h → Walk (Edge R w) v t → 1 ≤ count_kind Kind.clean (w.up t x)
      → 1 ≤ cleans_of v (w.up t x)
  clean-up-is v t x i e p h =
      let c = cleansOf-some (w.up t x) h in
      let f = victim-of-up c.0 t x c.1 in
      let o = known.victims.victim-waits c.0 f in
      let z = one-victim c.0 v t (omega (arith, stage-facts (stage_of w c.0))) i o.1 e (known.victims.clean-up-on-cycle c.0 t x c.1).walk p in
      rw z at c.1

  clean-down-walk : (v t x : ℕ) → CleanGoesDown R w v t x → Walk (Edge R w) v t
  clean-down-walk v t x c = onward c.walk (record { item = x; low = c.low; high = c.high; stands = c.stands; held = c.held })

  pub clean-down-is : (v t x : ℕ) → VictimIn w v → {h : ℕ} → Edge R w v h → Walk (Edge R w) v t → 1 ≤ count_kind Kind.clean (w.down t x)
      → 1 ≤ cleans_of v (w.down t x)
  clean-down-is v t x i e p h =
      let c = cleansOf-some (w.down t x) h in
      let f = victim-of-down c.0 t x c.1 in
      let o = known.victims.victim-waits c.0 f in
      let z = one-victim c.0 v t (omega (arith, stage-facts (stage_of w c.0))) i o.1 e (clean-down-walk c.0 t x (known.victims.clean-down-on-cycle c.0 t x c.1)) p in
      rw z at c.1

-- clear edges are edges
abbrev pub clear-edges : (R : Rules) (w : World) (v t : ℕ) → LastApart (ClearEdge R w v) v t → LastApart (Edge R w) v t
clear-edges R w v t p = record { from = p.from; walk = walk-map (λ a b c. c.edge) p.walk; last = p.last.edge }

module _ (R : Rules) (w w' : World) where
  pub told-map : {i j a : ℕ} {B B' : ℕ → Type 0} (c : ToldOf R w i j a B) → Path (Edge R w') i a c.places → ((v : ℕ) → B' v → B v) → ToldOf R w' i j a B'
  told-map c p f = record { places = c.places; path = p; avoid = λ v b. c.avoid v (f v b); ranks = c.ranks; last = c.last }

  pub came-map : {i j a x : ℕ} {B B' : ℕ → Type 0} (c : CameTo R w i j a x B) → Path (Edge R w') i c.from c.places
      → Queued w' c.from x → HolderIs w' x a → ((v : ℕ) → B' v → B v) → CameTo R w' i j a x B'
  came-map c p s h f = record { from = c.from; places = c.places; path = p; low = c.low; high = c.high; stands = s; held = h; avoid = λ v b. c.avoid v (f v b); ranks = c.ranks }

  -- what an old probe must avoid, with p sent behind it
  pub avoid-down-back : {a x : ℕ} (r p : List Message) → w'.down a x ≡ w.down a x ++ p → ((v : ℕ) → Passed R w' v a → Passed R w v a) → (v : ℕ)
      → (count_kind Kind.clean (r ++ p) ≡ 0) × (Passed R w' v a ⊎ (1 ≤ cleans_of v (w'.down a x)))
      → (count_kind Kind.clean r ≡ 0) × (Passed R w v a ⊎ (1 ≤ cleans_of v (w.down a x)))
  avoid-down-back {a} {x} r p e f v b = (omega (arith, b.0, countKind-append Kind.clean r p), cases b.1)
    where
      cases : Passed R w' v a ⊎ (1 ≤ cleans_of v (w'.down a x)) → Passed R w v a ⊎ (1 ≤ cleans_of v (w.down a x))
      cases (inl q) = inl (f v q)
      cases (inr q) = inr (omega (arith, b.0, countKind-append Kind.clean r p, cleansOf-le v p, ap (cleans_of v) e, cleansOf-append v (w.down a x) p))
