-- In a state where the invariant holds, the relation of waits and the function `waits_for` say the same; so do walks and `reached`, cycles and `on_cycle`.
use mathlib.Core.Path.{◌∙◌, ◌≡◌, ap, refl, subst, sym}
use mathlib.Core.Bool.{◌&&◌, Bool, cond, false, not, true}
use mathlib.Core.Option.{none, Option, some}
use mathlib.Core.Logic.{◌⊎◌, inl, inr}
use Prim.Native.Nat.{◌+◌, ◌≤◌, suc, zero, ℕ}
use native.Mathlib.Omega.{arith}
use lib.Dec.{eqb}
use borrow.Author.Tests.{eqb-false, ne_eqb}
use Rattle.lists.specs.Lists.{lowest, member}
use Rattle.lists.proofs.Searches.{lowest-found, lowest_le, lowest-passes}
use Rattle.lists.proofs.Tests.{and_both}
use Rattle.waits.specs.Waits
use Rattle.waits.proofs.Reached.{Graph, on-cycle-back, on-cycle-found, reached_add}
use Rattle.deadlock.specs.Machine.{holder_or0, on_cycle, reached, Rules, State, waits_for}
use Rattle.deadlock.specs.Walks.{FirstApart, onward, rest, Walk}
use Rattle.deadlock.specs.World.{Edge, Links}
use Rattle.deadlock.specs.Invariant.{InRange, world_of}
use Rattle.deadlock.proofs.Laws.Lists.{member-occurs, occurs-member, zero-or-more}
use Rattle.deadlock.proofs.Laws.Walks.{cycle-next, lastApart-firstApart}
use Rattle.deadlock.proofs.Victims.OneOnCycle.{one-edge, one-queue}

holder-some : (o : Option ℕ) → 1 ≤ holder_or0 o → o ≡ some (holder_or0 o)
holder-some none h = absurd (omega arith)
holder-some (some k) h = refl

module _ (R : Rules) (s : State) (lk : Links R (world_of s)) (rg : (x : ℕ) → InRange R (s.item x)) where
  abbrev queued : ℕ → ℕ → Bool
  queued a x = not (eqb (holder_or0 (s.item x).holder) 0) && member a (s.item x).queue

  edge_in_range : (a b : ℕ) → Edge R (world_of s) a b → ((1 ≤ a) × (a ≤ R.S)) × ((1 ≤ b) × (b ≤ R.S))
  edge_in_range a b e = ((rg e.item).queue a e.stands, (rg e.item).holder b e.held)

  edge-queued : (a b : ℕ) (e : Edge R (world_of s) a b) → queued a e.item ≡ true
  edge-queued a b e =
      let p : eqb b 0 ≡ false = ne_eqb b 0 (λ z. absurd (omega (arith, (edge_in_range a b e).1.0))) in
      rw (e.held, p) (occurs-member a (s.item e.item).queue e.stands)

  edge_at : (a b : ℕ) (e : Edge R (world_of s) a b) → lowest R.M (queued a) ≡ e.item
  edge_at a b e =
      let p = lowest-found R.M (queued a) e.item e.low e.high (edge-queued a b e) in
      let r = lowest-passes R.M (queued a) (omega arith) in
      one-queue lk a (lowest R.M (queued a)) e.item p.0 (lowest_le R.M (queued a)) e.low e.high
      (member-occurs a _ (and_both (not (eqb (holder_or0 (s.item (lowest R.M (queued a))).holder) 0)) _ r).1) e.stands

  pub edge-waits_for : (a b : ℕ) → Edge R (world_of s) a b → waits_for R s a ≡ b
  unfolding waits_for Waits.waits_for Waits.waits_at Waits.queued_at
  edge-waits_for a b e = rw (edge_at a b e, ne_eqb e.item 0 (λ z. absurd (omega (arith, e.low))), e.held)

  pub waits_for-edge : (a : ℕ) → 1 ≤ waits_for R s a → Edge R (world_of s) a (waits_for R s a)
  unfolding waits_for Waits.waits_for Waits.waits_at Waits.queued_at
  waits_for-edge a h = cases (lowest R.M (queued a)) refl (eqb (lowest R.M (queued a)) 0) refl h
    where
      cases : (k : ℕ) → lowest R.M (queued a) ≡ k → (b : Bool) → eqb k 0 ≡ b → 1 ≤ cond b 0 (holder_or0 (s.item k).holder)
          → Edge R (world_of s) a (cond b 0 (holder_or0 (s.item k).holder))
      cases k e true f h = absurd (omega arith)
      cases k e false f h =
          let lo : 1 ≤ k = omega (arith, eqb-false k 0 f) in
          let q : queued a k ≡ true = rw e at (lowest-passes R.M (queued a) (omega (arith, e, lo))) in
          record {
            item = k;
            low = lo;
            high = omega (arith, e, lowest_le R.M (queued a));
            stands = member-occurs a (s.item k).queue (and_both (not (eqb (holder_or0 (s.item k).holder) 0)) _ q).1;
            held = holder-some (s.item k).holder h;
          }

  -- whoever waits and whoever is waited for is a session of the machine
  pub graph_of : Graph (waits_for R s) R.S
  graph_of = record { none = at_none (zero-or-more (waits_for R s 0)); inside = λ t. inside t (zero-or-more (waits_for R s t)) }
    where
      at_none : (waits_for R s 0 ≡ 0) ⊎ (1 ≤ waits_for R s 0) → waits_for R s 0 ≡ 0
      at_none (inl z) = z
      at_none (inr h) = let r = edge_in_range _ _ (waits_for-edge 0 h) in absurd (omega (arith, r.0.0))

      inside : (t : ℕ) → (waits_for R s t ≡ 0) ⊎ (1 ≤ waits_for R s t) → waits_for R s t ≤ R.S
      inside t (inl z) = omega arith
      inside t (inr h) = (edge_in_range _ _ (waits_for-edge t h)).1.1

  -- ---- walks
  pub walk-reached : {a b : ℕ} → Walk (Edge R (world_of s)) a b → (n : ℕ) × (reached R s n a ≡ b)
  unfolding Waits.reached
  walk-reached rest = (0, refl)
  walk-reached (onward {u} {t} y e) = let r = walk-reached y in (suc r.0, ap (waits_for R s) r.1 ∙ edge-waits_for u t e)

  reached-walk : (n t : ℕ) → 1 ≤ reached R s n t → Walk (Edge R (world_of s)) t (reached R s n t)
  unfolding Waits.reached
  reached-walk zero t h = rest
  reached-walk (suc n) t h = let e = waits_for-edge (reached R s n t) h in onward (reached-walk n t (edge_in_range _ _ e).0.0) e

  -- ---- cycles
  -- from a session on a cycle every number of waits leads on
  pub cycle-reached : (t : ℕ) → FirstApart (Edge R (world_of s)) t t → (n : ℕ) → Walk (Edge R (world_of s)) t (reached R s n t)
  unfolding Waits.reached
  cycle-reached t g zero = rest
  cycle-reached t g (suc n) =
      let y = cycle-reached t g n in
      let d = cycle-next (one-edge lk) g y in
      subst (λ (z : ℕ). Walk (Edge R (world_of s)) t z) (sym (edge-waits_for (reached R s n t) d.next d.out)) (onward y d.out)

  pub cycle-on_cycle : (t : ℕ) → FirstApart (Edge R (world_of s)) t t → on_cycle R s t ≡ true
  unfolding Waits.reached
  cycle-on_cycle t g =
      let m = walk-reached g.walk in
      let q : reached R s 1 t ≡ g.next = edge-waits_for t g.next g.out in
      let back = reached_add (waits_for R s) m.0 1 t ∙ (ap (Waits.reached (waits_for R s) m.0) q ∙ m.1) in
      on-cycle-found graph_of t (edge_in_range t g.next g.out).0.0 (m.0 + 1) (omega arith) back

  pub on_cycle-cycle : (t : ℕ) → 1 ≤ t → on_cycle R s t ≡ true → FirstApart (Edge R (world_of s)) t t
  unfolding Waits.reached
  on_cycle-cycle t lo h = let r = on-cycle-back (waits_for R s) R.S t h in close r.0 r.1 r.2
    where
      close : (k : ℕ) → 1 ≤ k → reached R s k t ≡ t → FirstApart (Edge R (world_of s)) t t
      close zero l q = absurd (omega arith)
      close (suc m) l q =
          let h : 1 ≤ reached R s (suc m) t = omega (arith, q, lo) in
          let e = waits_for-edge (reached R s m t) h in
          lastApart-firstApart (record { from = reached R s m t; walk = reached-walk m t (edge_in_range _ _ e).0.0; last = subst (Edge R (world_of s) (reached R s m t)) q e })
