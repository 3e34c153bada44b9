-- Where a clearing begins: the session that becomes a victim or releases, and what its clean or its release weighs at the most.
use mathlib.Core.Path.{◌≡◌, ap, refl, sym}
use mathlib.Core.Bool.{◌&&◌, Bool, cond, false, false≢true, not, true}
use mathlib.Core.List.{◌++◌, List}
use mathlib.Core.Logic.{inl}
use Prim.Native.Nat.{◌*◌, ◌+◌, ◌≤◌, ℕ}
use native.Mathlib.Omega.{arith}
use lib.Dec.{eqb}
use borrow.Author.Tests.{eqb-true}
use Rattle.lists.proofs.Searches.{sum_add, sum_mono, sum-term}
use Rattle.lists.proofs.Tests.{by-test, eqb_self}
use Rattle.deadlock.specs.Lists.{bit, updated}
use Rattle.deadlock.specs.Machine.{after_session, Entry, from_session, Laws, Rules, Session, SessionStep, waiting}
use Rattle.deadlock.specs.Counts.{Every}
use Rattle.deadlock.specs.Links.{may_release}
use Rattle.deadlock.specs.World.{is_victim, is_waiting}
use Rattle.deadlock.proofs.Laws.Counts.{is_held_by}
use Rattle.deadlock.proofs.Laws.Stages.{stage-facts}
use Rattle.bound.proofs.Sums.{sum_le}
use Rattle.room.specs.Capacity.{capacity_bound}
use Rattle.room.specs.Snapshot.{NoVictim, of_member, of_victim, Snapshot, Sound, stored_count}
use Rattle.room.specs.Weights.{ahead_weight, mail_weight, pass_weight, queue_weight, releases_weight, release_weight}
use Rattle.room.specs.Phases.{Allowed, Clearing}
use Rattle.room.proofs.Members.{victim-member}
use Rattle.room.proofs.Entrances.{entrances}

-- an item with queue weight q, held by a member or not (m), ahead of the clean or not (f), held by the victim or not (v)
item_le : (m f v : Bool) (q : ℕ) → (v ≡ true → m ≡ true) → cond (m && f) (q + bit (not v)) 0 + cond v (1 + q) 0 ≤ (cond m q 0 + cond m q 0) + 1
item_le true true true q h = omega arith
item_le true true false q h = omega arith
item_le true false true q h = omega arith
item_le true false false q h = omega arith
item_le false f true q h = absurd (false≢true (h refl))
item_le false f false q h = omega arith

module _ (R : Rules) (L : Laws R) (p : Snapshot) (k : Sound R p) where
  -- the victim is a member
  victim_of_member : (y : ℕ) → of_victim p y ≡ true → of_member p y ≡ true
  unfolding of_victim of_member
  victim_of_member y e = rw (is_held_by (p.state.item y).holder p.victim e) (victim-member R L p k)

  -- a release of an item that a member held, other than the closing item
  pub release-light : (x : ℕ) → 1 ≤ x → x ≤ R.M → of_member p x ≡ true → eqb x p.closing ≡ false → release_weight R p x ≤ 1 + 2 * R.S
  unfolding release_weight
  release-light x lo hi m f =
      let g : ℕ → ℕ = λ y. cond (of_member p y) (queue_weight R p y) 0 in
      omega (
        arith,
        entrances R L p k,
        sum-term R.M x g lo hi,
        ap (λ (b : Bool). cond b (queue_weight R p x) 0) m,
        ap (λ (b : Bool). cond b R.S 0) f,
      )

  -- a clean, with any items ahead
  pub clean-light : (f : ℕ → Bool) → 1 + ahead_weight R p f + releases_weight R p ≤ 5 * R.S + R.M + 1
  unfolding ahead_weight pass_weight releases_weight
  clean-light f =
      let g : ℕ → ℕ = λ y. cond (of_member p y) (queue_weight R p y) 0 in
      let a : ℕ → ℕ = λ y. cond (of_member p y && f y) (pass_weight R p y) 0 in
      let r : ℕ → ℕ = λ y. cond (of_victim p y) (1 + queue_weight R p y) 0 in
      omega (
        arith,
        entrances R L p k,
        sum_add R.M a r,
        sum_mono R.M (λ y. a y + r y) (λ y. (g y + g y) + 1) (λ y _ _. item_le (of_member p y) (f y) (of_victim p y) (queue_weight R p y) (victim_of_member y)),
        sum_add R.M (λ y. g y + g y) (λ _. 1),
        sum_add R.M g g,
        sum_le R.M 1 (λ _. 1) (λ _. omega arith),
      )

-- the session of the snapshot becomes a victim or releases; nothing else changes but the mail
pub clears_from : (R : Rules) (p : Snapshot) → NoVictim p.state → (l : List Entry) (o : SessionStep) → 1 ≤ is_victim o.after.stage + may_release o.after.stage
    → Every (Allowed p) (l ++ from_session p.victim o.sends) → mail_weight R p (l ++ from_session p.victim o.sends) ≤ capacity_bound R.S R.M
    → Clearing p R (after_session p.state p.victim l o)
unfolding after_session updated
clears_from R p nv l o over m w = record {
  victim-stage = rw (eqb_self p.victim) over;
  only-victim = λ u ne. by-test (λ (r : Session). is_victim r.stage ≡ 0) (eqb p.victim u) (λ e. absurd (ne (sym (eqb-true p.victim u e)))) (λ _. nv u);
  waited = λ u y. by-test (λ (r : Session). r.stage ≡ waiting y → (p.state.session u).stage ≡ waiting y) (eqb p.victim u)
      (λ _ e. absurd (omega (arith, over, ap is_victim e, ap may_release e))) (λ _ e. e);
  queues = λ u x. omega arith;
  holders = λ x. inl refl;
  stores = λ u _. by-test (λ (r : Session). 1 ≤ is_waiting r.stage → stored_count R r.stored ≤ stored_count R (p.state.session u).stored) (eqb p.victim u)
      (λ _ e. absurd (omega (arith, e, over, stage-facts o.after.stage))) (λ _ _. omega arith);
  mail = m;
  light = w;
}
