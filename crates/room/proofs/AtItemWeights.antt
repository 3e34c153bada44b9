-- What an item sends anew weighs no more than the weights of its queue say; and a clean that passes an item has that item no longer ahead.
use mathlib.Core.Path.{◌≡◌, ap, refl}
use mathlib.Core.Bool.{◌&&◌, ◌||◌, Bool, cond, false, not, true}
use mathlib.Core.List.{List}
use Prim.Native.Nat.{◌+◌, ◌≤◌, ℕ}
use native.Mathlib.Omega.{arith}
use lib.Dec.{eqb, ltb}
use borrow.Author.Tests.{eqb-true, le-ltb, lt-ltb, ltb-true}
use Rattle.lists.specs.Lists.{member}
use Rattle.lists.proofs.Searches.{sum_add, sum_less, sum_mono, sum-single}
use Rattle.lists.proofs.Tests.{and_both, and_intro, by_answer, by-test, eqb_self}
use Rattle.deadlock.specs.Lists.{occurs, without}
use Rattle.deadlock.specs.Machine.{holder_or0, Laws, probes_anew, Rules, Sends}
use Rattle.deadlock.specs.Counts.{sum_over}
use Rattle.deadlock.specs.World.{HolderIs}
use Rattle.deadlock.specs.Invariant.{world_of}
use Rattle.deadlock.proofs.Laws.Lists.{member-occurs}
use Rattle.deadlock.proofs.Laws.Stages.{seen-facts}
use Rattle.bound.proofs.Sent.{sent_weight}
use Rattle.room.specs.Snapshot.{ahead_down, ahead_up, holder_at, of_member, remaining, Snapshot, Sound}
use Rattle.room.specs.Weights.{ahead_weight, own_weight, pass_weight, queue_weight, resend_weight, weight}
use Rattle.room.proofs.Members.{one_in_queue}
use Rattle.room.proofs.Sending.{sent-anew}
use Rattle.room.proofs.Sums.{list_sum, sum_over_add, sum_over-less}

-- ---- conditionals
cond_add : (b : Bool) (m n : ℕ) → cond b (m + n) 0 ≤ cond b m 0 + cond b n 0
cond_add true m n = omega arith
cond_add false m n = omega arith

cond-some : (b : Bool) (n : ℕ) → 1 ≤ cond b n 0 → (b ≡ true) × (1 ≤ n)
cond-some true n h = (refl, h)
cond-some false n h = absurd (omega arith)

module _ (R : Rules) (L : Laws R) (p : Snapshot) (k : Sound R p) (x : ℕ) (lo : 1 ≤ x) (hi : x ≤ R.M) where
  abbrev queue★ : List ℕ
  queue★ = (p.state.item x).queue

  once : (a : ℕ) → occurs a queue★ ≤ 1
  once a = let f = k.invariant.core.links.linked a x lo hi in omega (arith, seen-facts (p.state.session a).stage x)

  -- a resend to a member in the queue is weighed apart
  abbrev apart : ℕ → ℕ
  apart a = cond (p.member a) (resend_weight R p a) 0

  anew-one : (a : ℕ) → 1 + resend_weight R p a ≤ own_weight R p a + apart a
  unfolding own_weight
  anew-one a = by_answer (p.member a) (λ e. rw e (omega arith)) (λ e. rw e (omega arith))

  -- where a member stands in the queue, c is at least its resend
  abbrev MemberWithin : ℕ → Type 0
  MemberWithin c = (a : ℕ) → 1 ≤ occurs a queue★ → p.member a ≡ true → resend_weight R p a ≤ c

  abbrev sent : Sends → ℕ
  sent = sent_weight (λ u a. weight R p false u x a)

  module _ (l : List ℕ) (within : (a : ℕ) → occurs a l ≤ occurs a queue★) where
    -- one member at most stands in the queue
    anew-sum : (c : ℕ) → MemberWithin c → sum_over (λ _. 1) l + sum_over (resend_weight R p) l ≤ queue_weight R p x + c
    unfolding queue_weight
    anew-sum c h = omega (
      arith,
      sum_over_add (λ _. 1) (resend_weight R p) l,
      list_sum R.S l queue★ (λ a. 1 + resend_weight R p a) (λ a. own_weight R p a + apart a) within once (k.invariant.is_in_range x).queue (λ a _. anew-one a),
      sum_mono R.S (λ a. cond (member a queue★) (own_weight R p a + apart a) 0) (λ a. cond (member a queue★) (own_weight R p a) 0 + cond (member a queue★) (apart a) 0)
          (λ a _ _. cond_add (member a queue★) (own_weight R p a) (apart a)),
      sum_add R.S (λ a. cond (member a queue★) (own_weight R p a) 0) (λ a. cond (member a queue★) (apart a) 0),
      sum-single R.S c (λ a. cond (member a queue★) (apart a) 0)
          (λ a _ _. by-test (λ (n : ℕ). n ≤ c) (member a queue★)
          (λ e. by-test (λ (n : ℕ). n ≤ c) (p.member a) (λ m. h a (member-occurs a queue★ e) m) (λ _. omega arith)) (λ _. omega arith))
          (λ a b _ _ _ _ f g.
          let u = cond-some (member a queue★) (apart a) f in
          let v = cond-some (member b queue★) (apart b) g in
          one_in_queue R L p k a b x lo hi (cond-some (p.member a) (resend_weight R p a) u.1).0 (cond-some (p.member b) (resend_weight R p b) v.1).0 (member-occurs a queue★ u.0)
          (member-occurs b queue★ v.0)),
    )

    -- probes and resends for the whole list
    pub anew-all : (h c : ℕ) → MemberWithin c → sent (probes_anew R h l l) ≤ queue_weight R p x + c
    unfolding weight
    anew-all h c f = omega (arith, sent-anew (λ u a. weight R p false u x a) R h (λ i j. refl) l l, anew-sum c f)

    -- no resend to the member that stands in it
    pub anew-others : (h t : ℕ) → p.member t ≡ true → 1 ≤ occurs t l → sent (probes_anew R h l (without t l)) ≤ queue_weight R p x
    unfolding weight
    anew-others h t m o = omega (
      arith,
      sent-anew (λ u a. weight R p false u x a) R h (λ i j. refl) l (without t l),
      sum_over-less (resend_weight R p) t l o,
      anew-sum (resend_weight R p t) (λ a b n. rw (one_in_queue R L p k a t x lo hi n m b (omega (arith, o, within t))) (omega arith)),
    )

  -- ---- the items ahead of a clean
  abbrev part : ℕ → Bool → ℕ
  part y b = cond b (pass_weight R p y) 0

  part-more : (y : ℕ) (a b : Bool) → (a ≡ true → b ≡ true) → part y a ≤ part y b
  part-more y true b f = rw (f refl) (omega arith)
  part-more y false b f = omega arith

  module _ (t h : ℕ) (held : HolderIs (world_of p.state) x h) (near : remaining p h + 1 ≤ p.far t) where
    holder-here : holder_at p x ≡ h
    unfolding holder_at
    holder-here = ap holder_or0 held

    -- past item x: it is ahead of a clean from t, and not ahead of one to its holder
    here-before : ahead_up p t x ≡ true
    unfolding ahead_up
    here-before = lt-ltb (remaining p (holder_at p x)) (p.far t) (rw holder-here (omega (arith, near)))

    here-behind : ahead_down p h x x ≡ false
    unfolding ahead_down
    here-behind = rw (holder-here, le-ltb (remaining p h) (remaining p h) (omega arith), eqb_self x, eqb_self h) refl

    -- the others stay
    others-before : (y : ℕ) → ahead_down p h x y ≡ true → ahead_up p t y ≡ true
    unfolding ahead_down ahead_up
    others-before y e = cases (ltb (remaining p (holder_at p y)) (remaining p h)) refl e
      where
        cases : (b : Bool) → ltb (remaining p (holder_at p y)) (remaining p h) ≡ b → b || (eqb (holder_at p y) h && not (eqb y x)) ≡ true → ltb (remaining p (holder_at p y)) (p.far t) ≡ true
        cases true q f = lt-ltb (remaining p (holder_at p y)) (p.far t) (omega (arith, near, ltb-true (remaining p (holder_at p y)) (remaining p h) q))
        cases false q f = lt-ltb (remaining p (holder_at p y)) (p.far t) (omega (arith, near, ap (remaining p) (eqb-true (holder_at p y) h (and_both _ (not (eqb y x)) f).0)))

    pub ahead-less : of_member p x ≡ true → ahead_weight R p (ahead_down p h x) + queue_weight R p x ≤ ahead_weight R p (ahead_up p t)
    unfolding ahead_weight pass_weight
    ahead-less m =
        sum_less R.M x (queue_weight R p x) (λ y. part y (of_member p y && ahead_down p h x y)) (λ y. part y (of_member p y && ahead_up p t y)) lo hi
        (rw (m, here-before, here-behind) (omega arith))
        (λ y _ _. part-more y (of_member p y && ahead_down p h x y) (of_member p y && ahead_up p t y)
        (λ e. let q = and_both (of_member p y) (ahead_down p h x y) e in and_intro q.0 (others-before y q.1)))
