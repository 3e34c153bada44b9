-- What stays fixed while a cycle is dissolved, or an item is handed over: the state when the victim was told of the cycle, or before the release, and what it shows.
use Rattle.std.specs.Prelude.{◌≡◌, ◌&&◌, ◌||◌, Bool, cond, false, not, true, ◌⊎◌, ◌+◌, ◌≤◌, ℕ, eqb, ltb}
use Rattle.std.proofs.Math.Option.{none, Option, some}
use Rattle.lists.specs.Lists.{sum_up_to}
use Rattle.deadlock.specs.Machine.{held_by, holder_or0, Rules, State}
use Rattle.deadlock.specs.Counts.{is_stored}
use Rattle.deadlock.specs.Walks.{FirstApart, Walk}
use Rattle.deadlock.specs.World.{Edge, HolderIs, is_victim, Queued}
use Rattle.deadlock.specs.Invariant.{Invariant, world_of}

-- the state; the victim, or the session that releases; which sessions are members, the victim and those on its cycle; how many waits lead from a member
-- to the victim; the item at which the member before the victim waits, or 0
pub record Snapshot : Type 0 where
  pub state : State
  pub victim : ℕ
  pub member : ℕ → Bool
  pub far : ℕ → ℕ
  pub closing : ℕ

-- how many initiators a session stores a probe of
unfoldable pub stored_count : Rules → (ℕ → ℕ) → ℕ
stored_count R f = sum_up_to R.S (is_stored f)

module _ (p : Snapshot) where
  -- the waits that remain when a clean comes to session u: none at the victim
  unfoldable pub remaining : ℕ → ℕ
  remaining u = cond (eqb u p.victim) 0 (p.far u)

  -- this holder is a member
  abbrev pub held_by_member : Option ℕ → Bool
  held_by_member none = false
  held_by_member (some h) = p.member h

  -- item y is held by a member
  unfoldable pub of_member : ℕ → Bool
  of_member y = held_by_member (p.state.item y).holder

  -- item y is held by the victim
  unfoldable pub of_victim : ℕ → Bool
  of_victim y = held_by (p.state.item y).holder p.victim

  -- the holder of item y, or 0
  unfoldable pub holder_at : ℕ → ℕ
  holder_at y = holder_or0 (p.state.item y).holder

  -- the items ahead of a clean from t: those whose holders are nearer to the victim
  unfoldable pub ahead_up : ℕ → ℕ → Bool
  ahead_up t y = ltb (remaining (holder_at y)) (p.far t)

  -- the items ahead of a clean from item x to u: also the others that u holds
  unfoldable pub ahead_down : ℕ → ℕ → ℕ → Bool
  ahead_down u x y = ltb (remaining (holder_at y)) (remaining u) || (eqb (holder_at y) u && not (eqb y x))

-- nobody is a victim
abbrev pub NoVictim : State → Type 0
NoVictim s = (t : ℕ) → is_victim (s.session t).stage ≡ 0

-- what holds of a snapshot
pub record Sound (R : Rules) (p : Snapshot) : Type 0 where
  -- there is a session
  pub sessions : 1 ≤ R.S
  -- the invariant holds in it
  pub invariant : Invariant R p.state
  -- nobody stores a probe of its own
  pub no_own-probe : (t : ℕ) → (p.state.session t).stored t ≡ 0
  -- nobody is a victim yet
  pub no_victim : NoVictim p.state
  -- the members are the sessions that are reached from the victim
  pub member-reached : (u : ℕ) → p.member u ≡ true → Walk (Edge R (world_of p.state)) p.victim u
  pub reached-member : (u : ℕ) → Walk (Edge R (world_of p.state)) p.victim u → p.member u ≡ true
  -- the victim lies on a cycle, or waits for nobody
  pub cycle_or_still : FirstApart (Edge R (world_of p.state)) p.victim p.victim ⊎ ((b : ℕ) → Edge R (world_of p.state) p.victim b → ⊥)
  -- there is no other cycle
  pub one-cycle : (t : ℕ) → FirstApart (Edge R (world_of p.state)) t t → p.member t ≡ true
  -- the victim is the most junior member
  pub most-junior : (u : ℕ) → p.member u ≡ true → (u ≡ p.victim) ⊎ (R.senior u p.victim ≡ true)
  -- each wait leaves fewer waits
  pub far-falls : (t h : ℕ) → p.member t ≡ true → Edge R (world_of p.state) t h → remaining p h + 1 ≤ p.far t
  -- a member that waits for the victim waits at the closing item
  pub closes : (t y : ℕ) → 1 ≤ y → y ≤ R.M → p.member t ≡ true → Queued (world_of p.state) t y → HolderIs (world_of p.state) y p.victim → y ≡ p.closing
