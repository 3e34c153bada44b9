-- What a snapshot shows of the members of its cycle. A star marks what is read in the snapshot.
use mathlib.Core.Path.{◌∙◌, ◌≡◌, ap, refl, subst, sym}
use mathlib.Core.Bool.{false≢true, true}
use mathlib.Core.Option.{none, Option, some}
use mathlib.Core.Logic.{◌≢◌, ◌⊎◌, inl, inr}
use Prim.Native.Nat.{◌≤◌, ℕ}
use native.Mathlib.Omega.{arith}
use Rattle.deadlock.specs.Machine.{Laws, Rules, waiting}
use Rattle.deadlock.specs.Lists.{occurs}
use Rattle.deadlock.specs.Walks.{FirstApart, onward, rest, Walk}
use Rattle.deadlock.specs.World.{Edge, HolderIs, Links}
use Rattle.deadlock.specs.Invariant.{world_of}
use Rattle.deadlock.proofs.Laws.Stages.{Awaits, awaits-item, awaits-one, awaitsWaiting}
use Rattle.deadlock.proofs.Laws.Walks.{cycle-back, cycle-one-way-in, cycle-turned, walk-append, walk-still}
use Rattle.deadlock.proofs.Victims.OneOnCycle.{one-edge, queue-has-holder}
use Rattle.deadlock.proofs.Core.Kept.{links-of}
use Rattle.room.specs.Snapshot.{held_by_member, of_member, Snapshot, Sound}

module _ (R : Rules) (L : Laws R) (p : Snapshot) (k : Sound R p) where
  abbrev pub Edge★ : ℕ → ℕ → Type 0
  Edge★ = Edge R (world_of p.state)

  pub links★ : Links R (world_of p.state)
  links★ = links-of R L p.state k.invariant.core

  pub victim-member : p.member p.victim ≡ true
  victim-member = k.reached-member p.victim rest

  -- whoever a member leads to is a member, and so is whoever it waits for
  pub member-walk : (t u : ℕ) → p.member t ≡ true → Walk Edge★ t u → p.member u ≡ true
  member-walk t u m w = k.reached-member u (walk-append (k.member-reached t m) w)

  pub member-next : (t h : ℕ) → p.member t ≡ true → Edge★ t h → p.member h ≡ true
  member-next t h m e = member-walk t h m (onward rest e)

  -- the victim waits for nobody
  abbrev Still : Type 0
  Still = (b : ℕ) → Edge★ p.victim b → ⊥

  -- where it does so it is the only member
  still_alone : Still → (t : ℕ) → p.member t ≡ true → t ≡ p.victim
  still_alone q t m = walk-still q (k.member-reached t m)

  -- a member other than the victim lies on a cycle
  member-cycle : (t : ℕ) → p.member t ≡ true → t ≢ p.victim → FirstApart Edge★ t t
  member-cycle t m ne = cases k.cycle_or_still
    where
      cases : FirstApart Edge★ p.victim p.victim ⊎ Still → FirstApart Edge★ t t
      cases (inl c) = cycle-turned (one-edge links★) c (k.member-reached t m)
      cases (inr q) = absurd (ne (still_alone q t m))

  -- every member leads to the victim
  pub member_back : (t : ℕ) → p.member t ≡ true → Walk Edge★ t p.victim
  member_back t m = cases k.cycle_or_still
    where
      cases : FirstApart Edge★ p.victim p.victim ⊎ Still → Walk Edge★ t p.victim
      cases (inl c) = cycle-back (one-edge links★) c (k.member-reached t m)
      cases (inr q) = rw (still_alone q t m) rest

  -- two members do not wait for the same session
  pub one-before : (t u h : ℕ) → p.member t ≡ true → p.member u ≡ true → Edge★ t h → Edge★ u h → t ≡ u
  one-before t u h m n e f = cases k.cycle_or_still
    where
      cases : FirstApart Edge★ p.victim p.victim ⊎ Still → t ≡ u
      cases (inl c) = cycle-one-way-in (one-edge links★) c (k.member-reached t m) (k.member-reached u n) e f
      cases (inr q) = still_alone q t m ∙ sym (still_alone q u n)

  -- an item held by a member
  pub is_of_member : (x h : ℕ) → HolderIs (world_of p.state) x h → p.member h ≡ true → of_member p x ≡ true
  unfolding of_member
  is_of_member x h e m = ap (held_by_member p) e ∙ m

  pub member-holds : (x : ℕ) → of_member p x ≡ true → (h : ℕ) × HolderIs (world_of p.state) x h × (p.member h ≡ true)
  unfolding of_member
  member-holds x e = cases (p.state.item x).holder refl e
    where
      cases : (o : Option ℕ) → (p.state.item x).holder ≡ o → held_by_member p o ≡ true → (h : ℕ) × HolderIs (world_of p.state) x h × (p.member h ≡ true)
      cases none q m = absurd (false≢true m)
      cases (some h) q m = (h, q, m)

  -- two members do not stand in one queue
  pub one_in_queue : (t u x : ℕ) → 1 ≤ x → x ≤ R.M → p.member t ≡ true → p.member u ≡ true → 1 ≤ occurs t (p.state.item x).queue → 1 ≤ occurs u (p.state.item x).queue → t ≡ u
  one_in_queue t u x lo hi m n a b =
      let h = queue-has-holder links★ t x a in
      one-before t u h.0 m n (record { item = x; low = lo; high = hi; stands = a; held = h.1 }) (record { item = x; low = lo; high = hi; stands = b; held = h.1 })

  -- the item that a waiting member awaits is held by a member
  pub awaited_of_member : (t y : ℕ) → p.member t ≡ true → t ≢ p.victim → (p.state.session t).stage ≡ waiting y → of_member p y ≡ true
  awaited_of_member t y m ne e =
      let g = (member-cycle t m ne).out in
      let f = links★.linked t g.item g.low g.high in
      let w : Awaits g.item (waiting y) = subst (Awaits g.item) e (awaits-item (p.state.session t).stage g.item (omega (arith, g.stands))) in
      rw (awaits-one {s = waiting y} awaitsWaiting w) (is_of_member g.item _ g.held (member-next t _ m g))
