-- A waiting session is told that it is the victim of a cycle: the snapshot that shows the cycle is sound, and the clearing begins.
use mathlib.Core.Path.{◌∙◌, ◌≡◌, ap, refl, subst, sym}
use mathlib.Core.Bool.{◌&&◌, Bool, true}
use mathlib.Core.List.{[], ◌∷◌, List}
use mathlib.Core.Logic.{◌⊎◌, inl, inr}
use mathlib.Core.Option.{some}
use Prim.Native.Nat.{◌+◌, ◌≤◌, ℕ}
use native.Mathlib.Omega.{arith}
use lib.Dec.{leb}
use lib.ListN.{length}
use borrow.Author.Tests.{le-leb, leb-true}
use Rattle.lists.proofs.Tests.{and_both, and_intro}
use Rattle.deadlock.specs.Machine.{after_session, clean, cleaning, Entry, from_session, Laws, Message, on_cycle, Rules, SessionStep, Stage, State, victim, waiting}
use Rattle.deadlock.specs.Counts.{Every, every-cons, every-nil}
use Rattle.deadlock.specs.Links.{awaits}
use Rattle.deadlock.specs.Walks.{FirstApart, LastApart, onward, rest, Walk}
use Rattle.deadlock.specs.World.{CycleOf, Edge, HolderIs, Links, Queued}
use Rattle.deadlock.specs.Invariant.{Invariant, world_of}
use Rattle.deadlock.proofs.Laws.Counts.{every_append, every_map}
use Rattle.deadlock.proofs.Laws.Lists.{bit-eqb}
use Rattle.deadlock.proofs.Laws.Walks.{cycle-back, cycle-one-way-in, cycle-turned, walk-append, walk-lastApart}
use Rattle.deadlock.proofs.Victims.OneOnCycle.{one-edge, one-queue}
use Rattle.deadlock.proofs.StateWaits.{cycle-on_cycle, edge-waits_for, on_cycle-cycle}
use Rattle.deadlock.proofs.Core.Kept.{links-of}
use Rattle.bound.specs.Potential.{distance_in, mail_sum, waits_left}
use Rattle.bound.proofs.Distance.{distance_some, one_less}
use Rattle.bound.proofs.Mail.{sum-append}
use Rattle.room.specs.Capacity.{capacity_bound}
use Rattle.room.specs.Snapshot.{ahead_up, of_member, remaining, Snapshot, Sound}
use Rattle.room.specs.Weights.{entry_weight, mail_weight, weight}
use Rattle.room.specs.Phases.{Allowed, AllowedMessage, clearing, HeldFrom, Phase, Probing, Single, single_abort, single_grant, single_probe, Tidy}
use Rattle.room.proofs.Members.{is_of_member}
use Rattle.room.proofs.ClearingBegins.{clean-light, clears_from}

-- the last edge of a cycle
last-edge : {E : ℕ → ℕ → Type 0} {t : ℕ} → FirstApart E t t → LastApart E t t
last-edge {E} {t} c = cases (walk-lastApart c.walk)
  where
    cases : (c.next ≡ t) ⊎ LastApart E c.next t → LastApart E t t
    cases (inl q) = record { from = t; walk = rest; last = subst (E t) q c.out }
    cases (inr p) = record { from = p.from; walk = walk-append (onward rest c.out) p.walk; last = p.last }

-- messages that send one message at the most are allowed, and weigh 1
allowed-single : (p : Snapshot) (t x : ℕ) (m : Message) → Single m → AllowedMessage p t x m
allowed-single p t x _ single_probe = tt
allowed-single p t x _ single_abort = tt
allowed-single p t x _ single_grant = tt

module _ (R : Rules) (p : Snapshot) where
  weight-single : (d : Bool) (t x : ℕ) (m : Message) → Single m → weight R p d t x m ≡ 1
  unfolding weight
  weight-single d t x _ single_probe = refl
  weight-single d t x _ single_abort = refl
  weight-single d t x _ single_grant = refl

  singles_weigh : {Q : Entry → Type 0} {l : List Entry} → Every (λ (e : Entry). Single e.message × Q e) l → mail_sum (entry_weight R p) l ≡ length l
  unfolding mail_sum
  singles_weigh every-nil = refl
  singles_weigh (every-cons {a} h k) = omega (arith, weight-single a.to_item a.session a.item a.message h.0, singles_weigh k)

module _ (R : Rules) (L : Laws R) (s : State) (k : Invariant R s) (d : Tidy R s) (a : Probing R s)
    (t : ℕ) (tlo : 1 ≤ t) (thi : t ≤ R.S) (o : CycleOf R (world_of s) t (λ u. R.senior u t ≡ true)) where
  abbrev E : ℕ → ℕ → Type 0
  E = Edge R (world_of s)

  lk : Links R (world_of s)
  lk = links-of R L s k.core

  back : LastApart E t t
  back = last-edge o.cycle

  abbrev told : Snapshot
  told = record { state = s; victim = t; member = λ u. leb 1 u && on_cycle R s u; far = λ u. distance_in R s u t; closing = back.last.item }

  member-cycle : (u : ℕ) → told.member u ≡ true → FirstApart E u u
  member-cycle u m = let q = and_both (leb 1 u) (on_cycle R s u) m in on_cycle-cycle R s lk k.is_in_range u (leb-true 1 u q.0) q.1

  cycle-member : (u : ℕ) → FirstApart E u u → told.member u ≡ true
  cycle-member u c = and_intro (le-leb 1 u ((k.is_in_range c.out.item).queue u c.out.stands).0) (cycle-on_cycle R s lk k.is_in_range u c)

  -- the joining session lies on the victim's cycle
  to_from : Walk E t a.from
  to_from = a.one-cycle t o.cycle

  -- and so on every cycle
  on_this : (u : ℕ) → told.member u ≡ true → Walk E t u
  on_this u m = let c = member-cycle u m in walk-append to_from (cycle-back (one-edge lk) c (a.one-cycle u c))

  this_member : (u : ℕ) → Walk E t u → told.member u ≡ true
  this_member u w = cycle-member u (cycle-turned (one-edge lk) o.cycle w)

  falls : (u h : ℕ) → told.member u ≡ true → E u h → remaining told h + 1 ≤ told.far u
  unfolding remaining waits_left
  falls u h m e =
      let q : waits_left R (distance_in R s) h t + 1 ≤ distance_in R s u t =
      rw (edge-waits_for R s lk k.is_in_range u h e) at (one_less R s u t (distance_some R L s k t u o.cycle (on_this u m))) in
      q

  closes : (u y : ℕ) → 1 ≤ y → y ≤ R.M → told.member u ≡ true → Queued (world_of s) u y → HolderIs (world_of s) y t → y ≡ back.last.item
  closes u y lo hi m q h =
      let e : E u t = record { item = y; low = lo; high = hi; stands = q; held = h } in
      let z : u ≡ back.from = cycle-one-way-in (one-edge lk) o.cycle (on_this u m) back.walk e back.last in
      let f = back.last in
      one-queue lk u y f.item lo hi f.low f.high q (subst (λ (b : ℕ). Queued (world_of s) b f.item) (sym z) f.stands)

  told-sound : Sound R told
  told-sound = record {
    sessions = omega arith;
    invariant = k;
    no_own-probe = d.own-stored;
    no_victim = a.no_victim;
    member-reached = on_this;
    reached-member = this_member;
    cycle_or_still = inl o.cycle;
    one-cycle = cycle-member;
    most-junior = λ u m. o.others u (on_this u m);
    far-falls = falls;
    closes = closes;
  }

  of_reached : (z h : ℕ) → (s.item z).holder ≡ some h → Walk E t h → of_member told z ≡ true
  of_reached z h e w = is_of_member R L told told-sound z h e (this_member h w)

  -- what is on its way is at items of the cycle
  allowed : (e : Entry) → Single e.message × HeldFrom R s a.from e.item → Allowed told e
  allowed e h = (of_reached e.item h.1.holder h.1.held (walk-append to_from h.1.walk), allowed-single told e.session e.item e.message h.0)

  -- and so is the item that the victim awaits
  awaited-member : (y : ℕ) → (s.session t).stage ≡ waiting y → of_member told y ≡ true
  awaited-member y q =
      let c = o.cycle.out in
      let f = k.core.links.linked t c.item c.low c.high in
      let z : y ≡ c.item = bit-eqb y c.item (omega (arith, c.stands, ap (λ (b : Stage). awaits b c.item) q)) in
      of_reached y o.cycle.next (ap (λ (b : ℕ). (s.item b).holder) z ∙ c.held) (onward rest c)

  module _ (y v i : ℕ) (q : (s.session t).stage ≡ waiting y) (l : List Entry)
      (m : Every (λ (e : Entry). Single e.message × HeldFrom R s a.from e.item) l) (few : length l ≤ R.S) where
    abbrev victim_step : SessionStep
    victim_step = record { after = record { stage = victim cleaning y; held = (s.session t).held; stored = λ (_ : ℕ). 0 }; sends = (y, clean v i) ∷ [] }

    pub told-phase : Phase R (after_session s t l victim_step)
    unfolding from_session mail_weight weight capacity_bound mail_sum
    told-phase = clearing told told-sound (clears_from R told a.no_victim l victim_step (omega arith)
        (every_append (every_map allowed m) (every-cons (awaited-member y q, tt) every-nil))
        (omega (
          arith,
          sum-append (entry_weight R told) l (from_session t ((y, clean v i) ∷ [])),
          singles_weigh R told m,
          clean-light R L told told-sound (ahead_up told t),
        )))
