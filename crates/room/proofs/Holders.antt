-- Who holds an item now, and, while the victim is one, in the snapshot, since nothing is handed over until it releases; who is the victim, and what an abort tells.
use mathlib.Core.Path.{◌∙◌, ◌≡◌, ap, subst, sym}
use mathlib.Core.Bool.{false, true}
use mathlib.Core.List.{◌∷◌, List}
use mathlib.Core.Logic.{◌⊎◌, inl, inr}
use mathlib.Core.Option.{some}
use Prim.Native.Nat.{◌+◌, ◌≤◌, ℕ}
use native.Mathlib.Omega.{arith}
use Rattle.lists.proofs.Tests.{same?}
use Rattle.deadlock.specs.Lists.{bit}
use Rattle.deadlock.specs.Machine.{abort, Entry, growing, held_by, releasing, route, Rules, Stage, State, take_first, taken, victim, waiting}
use Rattle.deadlock.specs.Counts.{Every}
use Rattle.deadlock.specs.Links.{may_release}
use Rattle.deadlock.specs.World.{AbortTo, CycleOf, Edge, is_victim, OfAbort}
use Rattle.deadlock.specs.Invariant.{down_route, Invariant, world_of}
use Rattle.deadlock.proofs.Laws.Counts.{every-head, is_held_by}
use Rattle.deadlock.proofs.Laws.Lists.{bit-one}
use Rattle.deadlock.proofs.Laws.Routes.{take_same}
use Rattle.room.specs.Snapshot.{Snapshot}
use Rattle.room.specs.Phases.{Clearing, HandedOver}

-- a victim does not release
victim_or_releases : (a : Stage) → is_victim a + may_release a ≤ 1
victim_or_releases growing = omega arith
victim_or_releases (waiting y) = omega arith
victim_or_releases (victim q y) = omega arith
victim_or_releases (releasing q) = omega arith

-- whoever holds an item is its holder
pub held-now : (R : Rules) (s : State) → Invariant R s → (t y : ℕ) → 1 ≤ y → y ≤ R.M → (s.session t).held y ≡ true → (s.item y).holder ≡ some t
held-now R s i t y lo hi h =
    let f = i.core.links.linked t y lo hi in
    is_held_by (s.item y).holder t (bit-one (held_by (s.item y).holder t) (omega (arith, f.own_if, ap bit h)))

-- an abort to a waiting session tells of a cycle, of which the session is the most junior
pub told-cycle : (R : Rules) (s : State) → Invariant R s → (t x v i y : ℕ) (l : List Entry) → take_first false t x s.mailbox ≡ taken (abort v i) l → (s.session t).stage ≡ waiting y
    → CycleOf R (world_of s) t (λ u. R.senior u t ≡ true)
unfolding down_route AbortTo
told-cycle R s k t x v i y l e q =
    let f : Every (OfAbort R (world_of s) t) (route false t x s.mailbox) = k.core.victims.aborts t x in
    let g : Every (OfAbort R (world_of s) t) (abort v i ∷ route false t x l) = rw (take_same false t x s.mailbox (abort v i) l e) at f in
    subst (AbortTo R (world_of s) t) q (every-head g).1

-- nobody but the snapshot's victim is one
pub the_victim : (R : Rules) (p : Snapshot) (s : State) → Clearing p R s → (v : ℕ) → 1 ≤ is_victim (s.session v).stage → v ≡ p.victim
the_victim R p s c v h = elim (same? v p.victim) [ yes q ↦ q | no q ↦ absurd (omega (arith, h, c.only-victim v q)) ]

module _ (R : Rules) (p : Snapshot) (s : State) (c : Clearing p R s) (v : 1 ≤ is_victim (s.session p.victim).stage) where
  pub holder_then : (y : ℕ) → (s.item y).holder ≡ (p.state.item y).holder
  holder_then y = cases (c.holders y)
    where
      cases : ((s.item y).holder ≡ (p.state.item y).holder) ⊎ HandedOver p s y → (s.item y).holder ≡ (p.state.item y).holder
      cases (inl q) = q
      cases (inr h) = absurd (omega (arith, v, h.over, victim_or_releases (s.session p.victim).stage))

  pub held_then : Invariant R s → (t y : ℕ) → 1 ≤ y → y ≤ R.M → (s.session t).held y ≡ true → (p.state.item y).holder ≡ some t
  held_then i t y lo hi h = sym (holder_then y) ∙ held-now R s i t y lo hi h

  pub edge_then : (a b : ℕ) → Edge R (world_of s) a b → Edge R (world_of p.state) a b
  edge_then a b e = record {
    item = e.item;
    low = e.low;
    high = e.high;
    stands = omega (arith, e.stands, c.queues a e.item);
    held = sym (holder_then e.item) ∙ e.held;
  }
