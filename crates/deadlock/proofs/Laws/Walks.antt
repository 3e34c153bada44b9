-- Laws of walks: along a cycle every walk leads back, and one edge leads into each of its places.
use mathlib.Core.Path.{◌≡◌, ap, refl, subst, sym}
use mathlib.Core.List.{[], ◌∷◌, List}
use mathlib.Core.Logic.{◌≢◌, ◌⊎◌, inl, inr}
use Prim.Native.Nat.{◌+◌, ◌-◌, ◌<◌, ◌≤◌, suc, zero, ℕ}
use native.Mathlib.Omega.{arith}
use lib.Dec.{eqb}
use borrow.Author.Tests.{ne_eqb}
use Rattle.lists.proofs.Tests.{eqb_self, same?}
use Rattle.deadlock.specs.Lists.{bit, occurs}
use Rattle.deadlock.specs.Walks.{FirstApart, LastApart, onward, onward_path, Path, rest, rest_path, Walk}

module _ {E F : ℕ → ℕ → Type 0} where
  pub walk-map : ((a b : ℕ) → E a b → F a b) → {a t : ℕ} → Walk E a t → Walk F a t
  walk-map f rest = rest
  walk-map f (onward {u} {t} w e) = onward (walk-map f w) (f u t e)

  -- edge by edge, each with the walk that leads to it
  pub walk-keep : {a : ℕ} → ((u b : ℕ) → Walk E a u → E u b → F u b) → {t : ℕ} → Walk E a t → Walk F a t
  walk-keep f rest = rest
  walk-keep f (onward {u} {t} w e) = onward (walk-keep f w) (f u t w e)

  pub walk-back : {a : ℕ} → ((u b : ℕ) → Walk E a u → F u b → E u b) → {t : ℕ} → Walk F a t → Walk E a t
  walk-back f rest = rest
  walk-back f (onward {u} {t} w e) = let k = walk-back f w in onward k (f u t k e)

  pub path-map : ((a b : ℕ) → E a b → F a b) → {i t : ℕ} {ps : List ℕ} → Path E i t ps → Path F i t ps
  path-map f rest_path = rest_path
  path-map f (onward_path {u} {t} p e) = onward_path (path-map f p) (f u t e)

  -- a path that never leaves v
  pub path-avoid : (v : ℕ) → ((a b : ℕ) → a ≢ v → E a b → F a b) → {i t : ℕ} {ps : List ℕ} → Path E i t ps → occurs v ps ≡ 0 → Path F i t ps
  unfolding occurs
  path-avoid v f rest_path z = rest_path
  path-avoid v f (onward_path {u} {t} p e) z = onward_path (path-avoid v f p (omega arith)) (f u t (λ q. absurd (omega (arith, ap (λ (y : ℕ). bit (eqb y v)) q, ap bit (eqb_self v)))) e)

  -- the edges into d are lost, and none leads out of it
  pub path-cut : (d : ℕ) → ((b : ℕ) → E d b → ⊥) → ((a b : ℕ) → b ≢ d → E a b → F a b) → {i t : ℕ} {ps : List ℕ} → t ≢ d → Path E i t ps → Path F i t ps
  path-cut d dead keep ne rest_path = rest_path
  path-cut d dead keep ne (onward_path {u} {t} p e) = onward_path (path-cut d dead keep (λ q. dead t (rw q at e)) p) (keep u t ne e)

module _ {E : ℕ → ℕ → Type 0} where
  pub walk-append : {a b c : ℕ} → Walk E a b → Walk E b c → Walk E a c
  walk-append v rest = v
  walk-append v (onward w e) = onward (walk-append v w) e

  pub lastApart-walk : {a t : ℕ} → LastApart E a t → Walk E a t
  lastApart-walk p = onward p.walk p.last

  pub firstApart-walk : {a t : ℕ} → FirstApart E a t → Walk E a t
  firstApart-walk g = walk-append (onward rest g.out) g.walk

  pub path-walk : {i t : ℕ} {ps : List ℕ} → Path E i t ps → Walk E i t
  path-walk rest_path = rest
  path-walk (onward_path p e) = onward (path-walk p) e

  pub walkLength : {a t : ℕ} → Walk E a t → ℕ
  walkLength rest = 0
  walkLength (onward w e) = suc (walkLength w)

  -- from a place that a path leaves
  pub path-suffix : (v : ℕ) {i t : ℕ} {ps : List ℕ} → Path E i t ps → 1 ≤ occurs v ps → LastApart E v t
  unfolding occurs
  path-suffix v rest_path h = absurd (omega arith)
  path-suffix v (onward_path {u} {t} {ps} p e) h = cases (same? u v) (path-suffix v p)
    where
      cases : Dec (u ≡ v) → (1 ≤ occurs v ps → LastApart E v u) → LastApart E v t
      cases (yes q) ih = record { from = u; walk = rw (← q) rest; last = e }
      cases (no q) ih = record { from = u; walk = lastApart-walk (ih (omega (arith, ap bit (ne_eqb u v q)))); last = e }

  -- the first edge of a walk, and the shorter walk that follows
  pub record FirstStep (a c : ℕ) (w : Walk E a c) : Type 0 where
    pub next : ℕ
    pub out : E a next
    pub walk : Walk E next c
    pub less : walkLength walk < walkLength w

  pub first_step : {a c : ℕ} (w : Walk E a c) → (a ≡ c) ⊎ FirstStep a c w
  unfolding walkLength
  first_step rest = inl refl
  first_step {a} (onward {u} {t} w e) = cases (first_step w)
    where
      cases : (a ≡ u) ⊎ FirstStep a u w → (a ≡ t) ⊎ FirstStep a t (onward w e)
      cases (inl q) = inr (record { next = t; out = rw q e; walk = rest; less = omega arith })
      cases (inr f) = inr (record { next = f.next; out = f.out; walk = onward f.walk e; less = omega (arith, f.less) })

  -- a walk from a place that no edge leaves stays there
  pub walk-still : {a t : ℕ} → ((b : ℕ) → E a b → ⊥) → Walk E a t → t ≡ a
  walk-still {a} {t} still w = cases (first_step w)
    where
      cases : (a ≡ t) ⊎ FirstStep a t w → t ≡ a
      cases (inl q) = sym q
      cases (inr f) = absurd (still f.next f.out)

  module _ (det : (a b c : ℕ) → E a b → E a c → b ≡ c) where
    record Shorter (u t k : ℕ) : Type 0 where
      pub walk : Walk E u t
      pub less : walkLength walk ≤ k

    walk_split : {a u t : ℕ} (p : Walk E a u) (q : Walk E a t) → Shorter u t (walkLength q) ⊎ Shorter t u (walkLength p)
    unfolding walkLength
    walk_split {a} {t = t} rest q = inl (record { walk = q; less = omega arith })
    walk_split {t = t} (onward {u = b} {t = u} p e) q = cases (walk_split p q)
      where
        cases : Shorter b t (walkLength q) ⊎ Shorter t b (walkLength p) → Shorter u t (walkLength q) ⊎ Shorter t u (suc (walkLength p))
        cases (inr r) = inr (record { walk = onward r.walk e; less = omega (arith, r.less) })
        cases (inl r) = more (first_step r.walk)
          where
            more : (b ≡ t) ⊎ FirstStep b t r.walk → Shorter u t (walkLength q) ⊎ Shorter t u (suc (walkLength p))
            more (inl z) = inr (record { walk = rw (← z) (onward rest e); less = omega arith })
            more (inr f) = inl (let k : Shorter f.next t (walkLength q) = record { walk = f.walk; less = omega (arith, f.less, r.less) } in rw (det b f.next u f.out e) at k)

    -- two walks from one place are on one way
    pub walk-either : {a u t : ℕ} → Walk E a u → Walk E a t → Walk E u t ⊎ Walk E t u
    walk-either {u = u} {t = t} p q = cases (walk_split p q)
      where
        cases : Shorter u t (walkLength q) ⊎ Shorter t u (walkLength p) → Walk E u t ⊎ Walk E t u
        cases (inl r) = inl r.walk
        cases (inr r) = inr r.walk

    -- two walks from h, each to a place with an edge to h
    walk-meet : (f : ℕ) {h u t : ℕ} (p : Walk E h u) (q : Walk E h t) → E u h → E t h → walkLength p + walkLength q < f → u ≡ t
    walk-meet zero p q eu et l = absurd (omega arith)
    walk-meet (suc f) {h} {u} {t} p q eu et l = cases (walk_split p q) (λ p' q'. walk-meet f p' q' eu et)
      where
        cases : Shorter u t (walkLength q) ⊎ Shorter t u (walkLength p) → ((p : Walk E h u) (q : Walk E h t) → walkLength p + walkLength q < f → u ≡ t) → u ≡ t
        cases (inl r) ih = more (first_step r.walk)
          where
            more : (u ≡ t) ⊎ FirstStep u t r.walk → u ≡ t
            more (inl z) = z
            more (inr s) =
                let k : Shorter s.next t (walkLength q - 1) = record { walk = s.walk; less = omega (arith, s.less, r.less) } in
                let k2 : Shorter h t (walkLength q - 1) = rw (det u s.next h s.out eu) at k in
                ih p k2.walk (omega (arith, k2.less, s.less, r.less))
        cases (inr r) ih = more (first_step r.walk)
          where
            more : (t ≡ u) ⊎ FirstStep t u r.walk → u ≡ t
            more (inl z) = sym z
            more (inr s) =
                let k : Shorter s.next u (walkLength p - 1) = record { walk = s.walk; less = omega (arith, s.less, r.less) } in
                let k2 : Shorter h u (walkLength p - 1) = rw (det t s.next h s.out et) at k in
                ih k2.walk q (omega (arith, k2.less, s.less, r.less))

    module _ {v : ℕ} (loop : FirstApart E v v) where
      -- what is reached from a cycle lies on it
      pub cycle-back : {u : ℕ} → Walk E v u → Walk E u v
      cycle-back rest = rest
      cycle-back (onward {u = b} {t = u} w e) = cases (cycle-back w) (first_step (cycle-back w))
        where
          cases : (k : Walk E b v) → (b ≡ v) ⊎ FirstStep b v k → Walk E u v
          cases k (inl q) = rw (det v u loop.next (rw q at e) loop.out) loop.walk
          cases k (inr f) = rw (det b u f.next e f.out) f.walk

      pub cycle-next : {u : ℕ} → Walk E v u → FirstApart E u v
      cycle-next {u} w = cases (first_step (cycle-back w))
        where
          cases : (u ≡ v) ⊎ FirstStep u v (cycle-back w) → FirstApart E u v
          cases (inl q) = rw q loop
          cases (inr f) = record { next = f.next; out = f.out; walk = f.walk }

      -- the cycle from another of its places
      pub cycle-turned : {u : ℕ} → Walk E v u → FirstApart E u u
      cycle-turned w = let g = cycle-next w in record { next = g.next; out = g.out; walk = walk-append g.walk w }

      -- one edge into each place
      pub cycle-one-way-in : {u t h : ℕ} → Walk E v u → Walk E v t → E u h → E t h → u ≡ t
      cycle-one-way-in {u} {t} {h} p q eu et = let k = cycle-back (onward p eu) in walk-meet (suc (walkLength (walk-append k p) + walkLength (walk-append k q))) (walk-append k p) (walk-append k q) eu et (omega arith)

pub walk-lastApart : {D : ℕ → ℕ → Type 0} {a b : ℕ} → Walk D a b → (a ≡ b) ⊎ LastApart D a b
walk-lastApart rest = inl refl
walk-lastApart (onward w e) = inr (record { from = _; walk = w; last = e })

pub first-edge-of : {D : ℕ → ℕ → Type 0} {a b : ℕ} → LastApart D a b → (h : ℕ) × D a h
first-edge-of {D} {a} {b} p = cases (first_step p.walk)
  where
    cases : (a ≡ p.from) ⊎ FirstStep a p.from p.walk → (h : ℕ) × D a h
    cases (inl z) = (b, rw z p.last)
    cases (inr f) = (f.next, f.out)

-- a place that a path leaves, or ends at
pub path-walk-from : {D : ℕ → ℕ → Type 0} (v : ℕ) {i t : ℕ} {ps : List ℕ} → Path D i t ps → 1 ≤ occurs v (t ∷ ps) → Walk D v t
unfolding occurs
path-walk-from {D} v {t = t} p h = elim (same? t v) [ yes q ↦ rw q rest | no q ↦ lastApart-walk (path-suffix v p (omega (arith, ap bit (ne_eqb t v q)))) ]

pub lastApart-firstApart : {D : ℕ → ℕ → Type 0} {a b : ℕ} → LastApart D a b → FirstApart D a b
lastApart-firstApart {D} {a} {b} p = cases (first_step p.walk)
  where
    cases : (a ≡ p.from) ⊎ FirstStep a p.from p.walk → FirstApart D a b
    cases (inl z) = record { next = b; out = rw z p.last; walk = rest }
    cases (inr f) = record { next = f.next; out = f.out; walk = onward f.walk p.last }

module _ {D : ℕ → ℕ → Type 0} where
  pub path-has-start : {i t : ℕ} {ps : List ℕ} → Path D i t ps → 1 ≤ occurs i (t ∷ ps)
  unfolding occurs
  path-has-start {i} rest_path = omega (arith, ap bit (eqb_self i))
  path-has-start (onward_path p e) = omega (arith, path-has-start p)

  pub path-prefix : (j : ℕ) {i t : ℕ} {ps : List ℕ} → Path D i t ps → 1 ≤ occurs j (t ∷ ps) → Walk D i j
  unfolding occurs
  path-prefix j {i} rest_path h = elim (same? i j) [ yes q ↦ subst (λ (z : ℕ). Walk D i z) q rest | no q ↦ absurd (omega (arith, ap bit (ne_eqb i j q))) ]
  path-prefix j {i} (onward_path {u} {t} {ps} p e) h = cases (same? t j) (path-prefix j p)
    where
      cases : Dec (t ≡ j) → (1 ≤ occurs j (u ∷ ps) → Walk D i j) → Walk D i j
      cases (yes q) ih = subst (λ (z : ℕ). Walk D i z) q (onward (path-walk p) e)
      cases (no q) ih = ih (omega (arith, ap bit (ne_eqb t j q)))

  module _ (dt : (a b c : ℕ) → D a b → D a c → b ≡ c) where
    path-has-next : {i t : ℕ} {ps : List ℕ} (a b : ℕ) → Path D i t ps → 1 ≤ occurs a ps → D a b → 1 ≤ occurs b (t ∷ ps)
    unfolding occurs
    path-has-next a b rest_path h e = absurd (omega arith)
    path-has-next a b (onward_path {u} {t} {ps} p d) h e = elim (same? u a) [
      | yes q ↦ omega (arith, ap (λ (z : ℕ). bit (eqb z b)) (dt a t b (rw q at d) e), ap bit (eqb_self b))
      | no q ↦ omega (arith, path-has-next a b p (omega (arith, ap bit (ne_eqb u a q))) e)
    ]

    pub path-has-cycle : {i t : ℕ} {ps : List ℕ} → Path D i t ps → D t i → (u : ℕ) → Walk D i u → 1 ≤ occurs u (t ∷ ps)
    unfolding occurs
    path-has-cycle p c u rest = path-has-start p
    path-has-cycle {i} {t} {ps} p c u (onward {u = a} {t = b} k e) = cases (same? t a) (path-has-cycle p c a k)
      where
        cases : Dec (t ≡ a) → 1 ≤ bit (eqb t a) + occurs a ps → 1 ≤ bit (eqb t b) + occurs b ps
        cases (yes q) h = omega (arith, ap (λ (z : ℕ). bit (eqb t z) + occurs z ps) (dt t i b c (rw (← q) at e)), path-has-start p)
        cases (no q) h = path-has-next a b p (omega (arith, ap bit (ne_eqb t a q))) e

pub walk-path : {down_route : ℕ → ℕ → Type 0} {a b : ℕ} → Walk down_route a b → (ps : List ℕ) × Path down_route a b ps
walk-path rest = ([], rest_path)
walk-path (onward {u} w e) = let r = walk-path w in (u ∷ r.0, onward_path r.1 e)
