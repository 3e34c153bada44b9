-- A probe on its way to a live session: what it tells, and that it names sessions of the machine.
use mathlib.Core.Path.{◌≡◌, ap, subst}
use mathlib.Core.Bool.{false}
use mathlib.Core.List.{◌∷◌, List}
use Prim.Native.Nat.{◌≤◌, ℕ}
use native.Mathlib.Omega.{arith}
use borrow.Author.Tests.{ne_eqb}
use Rattle.lists.proofs.Tests.{by-test, same?}
use Rattle.deadlock.specs.Lists.{bit, occurs}
use Rattle.deadlock.specs.Machine.{Entry, junior, probe, route, Rules, State, take_first, taken}
use Rattle.deadlock.specs.Counts.{EachBehind}
use Rattle.deadlock.specs.World.{CameTo, Live, MustAvoidDown, TellsDown}
use Rattle.deadlock.specs.Invariant.{down_route, Invariant, world_of}
use Rattle.deadlock.proofs.Laws.Counts.{behind-head}
use Rattle.deadlock.proofs.Laws.Routes.{take_same}
use Rattle.deadlock.proofs.Laws.Walks.{first-edge-of, path-has-start, path-walk-from}

module _ (R : Rules) (s : State) (k : Invariant R s)
    (t x i j : ℕ) (l : List Entry) (e : take_first false t x s.mailbox ≡ taken (probe i j) l) (live : Live (world_of s) t) where
  abbrev Range : ℕ → Type 0
  Range a = (1 ≤ a) × (a ≤ R.S)

  pub came : CameTo R (world_of s) i j t x (MustAvoidDown R (world_of s) t x (route false t x l))
  unfolding down_route
  came =
      let c : EachBehind (TellsDown R (world_of s) t x) (route false t x s.mailbox) = k.core.probes.down-true t x live in
      let d : EachBehind (TellsDown R (world_of s) t x) (probe i j ∷ route false t x l) = rw (take_same false t x s.mailbox (probe i j) l e) at c in
      behind-head d

  -- whoever the path of the probe leaves stands in a queue
  left-range : (u : ℕ) → 1 ≤ occurs u (came.from ∷ came.places) → Range u
  left-range u h =
      let d = first-edge-of (record {
        from = came.from;
        walk = path-walk-from u came.path h;
        last = record { item = x; low = came.low; high = came.high; stands = came.stands; held = came.held };
      }) in
      (k.is_in_range d.1.item).queue u d.1.stands

  pub initiator-range : Range i
  initiator-range = left-range i (path-has-start came.path)

  pub junior-range : Range t → Range (junior R j t)
  unfolding junior occurs
  junior-range g = by-test Range (R.senior j t) (λ _. g)
      (λ _. elim (same? t j) [ yes q ↦ subst Range q g | no q ↦ left-range j (omega (arith, came.ranks.has-junior, ap bit (ne_eqb t j q))) ])
