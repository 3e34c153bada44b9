-- How the number of standing cycles changes from one state to another, from what becomes of the edges.
use mathlib.Core.Path.{◌∙◌, ◌≡◌, sym}
use mathlib.Core.Bool.{cond, true}
use mathlib.Core.Logic.{◌≢◌, ◌⊎◌, inl, inr}
use Prim.Native.Nat.{◌+◌, ◌≤◌, ℕ}
use Rattle.lists.proofs.Orders.{StrictTotal}
use Rattle.waits.proofs.Reached.{Graph}
use Rattle.waits.proofs.Members.{next-on-cycle, next_positive}
use Rattle.waits.proofs.Changes.{cycles_add, cycles-same}
use Rattle.deadlock.specs.Machine.{Laws, on_cycle, Rules, State, waits_for}
use Rattle.deadlock.specs.World.{Edge}
use Rattle.deadlock.specs.Invariant.{Invariant, standing, world_of}
use Rattle.deadlock.proofs.Laws.Lists.{zero-or-more}
use Rattle.deadlock.proofs.Victims.OneOnCycle.{edge-against, edge-along}
use Rattle.deadlock.proofs.StateWaits.{edge-waits_for, graph_of, waits_for-edge}
use Rattle.deadlock.proofs.Core.Kept.{links-of}

module _ (R : Rules) (L : Laws R) where
  seniority-of : StrictTotal R.senior
  seniority-of = record { irreflexive = L.irreflexive; transitive = L.transitive; total = L.total }

  -- ---- one state
  module _ (s : State) (k : Invariant R s) where
    abbrev pub EdgeIn : ℕ → ℕ → Type 0
    EdgeIn = Edge R (world_of s)

    graph : Graph (waits_for R s) R.S
    graph = graph_of R s (links-of R L s k.core) k.is_in_range

    waits : (a b : ℕ) → EdgeIn a b → waits_for R s a ≡ b
    waits = edge-waits_for R s (links-of R L s k.core) k.is_in_range

    edge : (a : ℕ) → 1 ≤ waits_for R s a → EdgeIn a (waits_for R s a)
    edge = waits_for-edge R s (links-of R L s k.core) k.is_in_range

    waits-none : (a : ℕ) → ((b : ℕ) → EdgeIn a b → ⊥) → waits_for R s a ≡ 0
    waits-none a h = elim (zero-or-more (waits_for R s a)) [ inl z ↦ z | inr p ↦ absurd (h (waits_for R s a) (edge a p)) ]

    -- from a session on a cycle an edge leads to a session from which an edge leads on
    on-cycle-edge : (a : ℕ) → 1 ≤ a → on_cycle R s a ≡ true → EdgeIn a (waits_for R s a) × EdgeIn (waits_for R s a) (waits_for R s (waits_for R s a))
    on-cycle-edge a lo on =
        let p = next_positive graph a lo on in
        (edge a p, edge (waits_for R s a) (next_positive graph (waits_for R s a) p (next-on-cycle graph a lo on)))

  -- ---- two states
  module _ (s r : State) (ks : Invariant R s) (kr : Invariant R r) where
    waits-same : (a : ℕ) → ((b : ℕ) → EdgeIn s ks a b → EdgeIn r kr a b) → ((b : ℕ) → EdgeIn r kr a b → EdgeIn s ks a b)
        → waits_for R r a ≡ waits_for R s a
    waits-same a f g = cases (zero-or-more (waits_for R s a)) (zero-or-more (waits_for R r a))
      where
        cases : (waits_for R s a ≡ 0) ⊎ (1 ≤ waits_for R s a) → (waits_for R r a ≡ 0) ⊎ (1 ≤ waits_for R r a) → waits_for R r a ≡ waits_for R s a
        cases (inr p) d = waits r kr a (waits_for R s a) (f _ (edge s ks a p))
        cases (inl z) (inr p) = sym (waits s ks a (waits_for R r a) (g _ (edge r kr a p)))
        cases (inl z) (inl y) = y ∙ sym z

    -- the edges are the same
    pub standing-kept : ((a b : ℕ) → EdgeIn s ks a b → EdgeIn r kr a b) → ((a b : ℕ) → EdgeIn r kr a b → EdgeIn s ks a b) → standing R s ≡ standing R r
    unfolding standing
    standing-kept f g = cycles-same (graph s ks) (graph r kr) (λ a _ _ _. waits-same a (f a) (g a)) (λ a _ _ _. sym (waits-same a (f a) (g a))) R.senior

    -- the items say the same
    pub standing-same : ((z : ℕ) → r.item z ≡ s.item z) → standing R s ≡ standing R r
    standing-same same = standing-kept (edge-along R s.item r.item same) (edge-against R s.item r.item same)

    -- the edges at one item come, go or turn, and lead only to sessions from which no edge leads on
    pub standing-turned : (x : ℕ) → ((z : ℕ) → x ≢ z → r.item z ≡ s.item z)
        → ((a b c : ℕ) (e : EdgeIn s ks a b) → x ≡ e.item → EdgeIn s ks b c → ⊥)
        → ((a b c : ℕ) (e : EdgeIn r kr a b) → x ≡ e.item → EdgeIn r kr b c → ⊥) → standing R s ≡ standing R r
    unfolding standing
    standing-turned x same dead dead' = cycles-same (graph s ks) (graph r kr) keep keep' R.senior
      where
        keep : (a : ℕ) → 1 ≤ a → a ≤ R.S → on_cycle R s a ≡ true → waits_for R r a ≡ waits_for R s a
        keep a lo hi on =
            let p = on-cycle-edge s ks a lo on in
            let e = p.0 in
            let ne : x ≢ e.item = λ q. dead a (waits_for R s a) _ e q p.1 in
            waits r kr a (waits_for R s a) (record { item = e.item; low = e.low; high = e.high; stands = rw (same e.item ne) e.stands; held = rw (same e.item ne) e.held })

        keep' : (a : ℕ) → 1 ≤ a → a ≤ R.S → on_cycle R r a ≡ true → waits_for R s a ≡ waits_for R r a
        keep' a lo hi on =
            let p = on-cycle-edge r kr a lo on in
            let e = p.0 in
            let ne : x ≢ e.item = λ q. dead' a (waits_for R r a) _ e q p.1 in
            waits s ks a (waits_for R r a) (record { item = e.item; low = e.low; high = e.high; stands = rw (same e.item ne) at e.stands; held = rw (same e.item ne) at e.held })

    -- a session from which no edge led comes to wait
    pub standing-more : (t : ℕ) → 1 ≤ t → ((b : ℕ) → EdgeIn s ks t b → ⊥) → ((a b : ℕ) → t ≢ a → EdgeIn s ks a b → EdgeIn r kr a b)
        → ((a b : ℕ) → t ≢ a → EdgeIn r kr a b → EdgeIn s ks a b) → standing R r ≡ standing R s + cond (on_cycle R r t) 1 0
    unfolding standing
    standing-more t lo free f g =
        cycles_add (graph s ks) (graph r kr) seniority-of t lo (waits-none s ks t free)
        (λ a _ _ ne. waits-same a (λ b. f a b (λ q. ne (sym q))) (λ b. g a b (λ q. ne (sym q))))
