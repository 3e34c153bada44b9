-- What the queues at the items of the members weigh together: two for each session at the most, since each session's probes come in at one place.
use mathlib.Core.Path.{◌∙◌, ◌≡◌, ap, sym}
use mathlib.Core.Bool.{◌&&◌, Bool, cond, false, not, true, true≢false}
use mathlib.Core.Logic.{◌⊎◌, inl, inr}
use Prim.Native.Nat.{◌*◌, ◌+◌, ◌≤◌, zero-le, ℕ}
use native.Mathlib.Omega.{arith}
use lib.Dec.{eqb}
use borrow.Author.Tests.{ne_eqb}
use Rattle.lists.specs.Lists.{member, sum_up_to}
use Rattle.lists.proofs.Searches.{sum_less, sum_mono, sum-single, sum-some, sum_swap, sum-term}
use Rattle.lists.proofs.Tests.{and_both, by_answer, by-test, eqb_self, same?}
use Rattle.deadlock.specs.Lists.{bit}
use Rattle.deadlock.specs.Machine.{is_live, Laws, Rules}
use Rattle.deadlock.specs.Counts.{is_stored}
use Rattle.deadlock.specs.Walks.{rest, Walk}
use Rattle.deadlock.specs.World.{Live, Queued}
use Rattle.deadlock.specs.Invariant.{world_of}
use Rattle.deadlock.proofs.Laws.Lists.{bit-eqb, bit_le, bit-one, member-occurs}
use Rattle.deadlock.proofs.Laws.Stages.{seen-facts, stage-facts}
use Rattle.deadlock.proofs.Laws.Walks.{first_step, FirstStep, path-walk, walk-either}
use Rattle.deadlock.proofs.Victims.OneOnCycle.{one-edge, one-queue}
use Rattle.bound.proofs.Sums.{sum_le}
use Rattle.room.specs.Snapshot.{of_member, Snapshot, Sound, stored_count}
use Rattle.room.specs.Weights.{own_weight, queue_weight, resend_weight}
use Rattle.room.proofs.Members.{Edge★, links★, member-holds, member-walk}

module _ (R : Rules) (L : Laws R) (p : Snapshot) (k : Sound R p) where
  abbrev Waits★ : ℕ → ℕ → Type 0
  Waits★ = Edge★ R L p k

  -- what t weighs for initiator i
  abbrev part : ℕ → ℕ → ℕ
  part i t = cond (p.member t) (bit (eqb t i)) (2 * bit (eqb t i) + is_stored (p.state.session t).stored i)

  -- t stands in the queue of item y, which a member holds
  abbrev enters : ℕ → ℕ → Bool
  enters t y = of_member p y && member t (p.state.item y).queue

  -- what t weighs for initiator i at item y
  abbrev term : ℕ → ℕ → ℕ → ℕ
  term i y t = cond (enters t y) (part i t) 0

  -- ---- one initiator
  -- nobody stores a probe of its own
  part_le : (i t : ℕ) → part i t ≤ 2
  part_le i t = by-test (λ (n : ℕ). n ≤ 2) (p.member t) (λ _. omega (arith, bit_le (eqb t i))) (λ _. cases (same? t i))
    where
      cases : Dec (t ≡ i) → 2 * bit (eqb t i) + is_stored (p.state.session t).stored i ≤ 2
      cases (yes q) = omega (arith, bit_le (eqb t i), ap (λ (n : ℕ). bit (not (eqb n 0))) (ap (p.state.session t).stored (sym q) ∙ k.no_own-probe t))
      cases (no q) = omega (arith, ap bit (ne_eqb t i q), bit_le (not (eqb ((p.state.session t).stored i) 0)))

  -- whoever stands in a queue is live
  queued-live : (t y : ℕ) → 1 ≤ y → y ≤ R.M → Queued (world_of p.state) t y → Live (world_of p.state) t
  queued-live t y lo hi q =
      let a = (p.state.session t).stage in
      let f = (links★ R L p k).linked t y lo hi in
      bit-one (is_live a) (omega (arith, q, seen-facts a y, stage-facts a, k.no_victim t))

  -- i leads to t, which waits for a member at item y; if t itself is a member it is i
  record Enters (i t y : ℕ) : Type 0 where
    pub stands : Queued (world_of p.state) t y
    pub next : ℕ
    pub wait : Waits★ t next
    pub into : p.member next ≡ true
    pub walk : Walk Waits★ i t
    pub own : p.member t ≡ true → t ≡ i

  -- that is so where a term is not 0
  term-enters : (i t y : ℕ) → 1 ≤ y → y ≤ R.M → 1 ≤ term i y t → Enters i t y
  term-enters i t y lo hi = by-test (λ (n : ℕ). 1 ≤ n → Enters i t y) (enters t y) (λ e. some (and_both (of_member p y) _ e)) (λ _ h. absurd (omega arith))
    where
      own : 1 ≤ part i t → p.member t ≡ true → t ≡ i
      own h m = bit-eqb t i (rw m at h)

      walk : Queued (world_of p.state) t y → 1 ≤ part i t → Dec (t ≡ i) → Walk Waits★ i t
      walk q h (yes e) = rw e rest
      walk q h (no e) = by_answer (p.member t) (λ m. absurd (e (own h m)))
          (λ m.
          let s : 1 ≤ 2 * bit (eqb t i) + is_stored (p.state.session t).stored i = rw m at h in
          path-walk (k.invariant.core.probes.stored-true t (queued-live t y lo hi q) i
          (λ z. absurd (omega (arith, s, ap bit (ne_eqb t i e), ap (λ (n : ℕ). bit (not (eqb n 0))) z)))).path)

      some : (of_member p y ≡ true) × (member t (p.state.item y).queue ≡ true) → 1 ≤ part i t → Enters i t y
      some (o, m) h =
          let q = member-occurs t (p.state.item y).queue m in
          let g = member-holds R L p k y o in
          record {
            stands = q;
            next = g.0;
            wait = record { item = y; low = lo; high = hi; stands = q; held = g.1 };
            into = g.2;
            walk = walk q h (same? t i);
            own = own h;
          }

  -- this holds of one session only
  first-enters : {i t y u z : ℕ} → Enters i t y → Enters i u z → Walk Waits★ t u → t ≡ u
  first-enters {i} {t} {y} {u} {z} a b w = by_answer (p.member t) (λ m. a.own m ∙ sym (b.own (member-walk R L p k t u m w))) (λ m. cases m (first_step w))
    where
      cases : p.member t ≡ false → (t ≡ u) ⊎ FirstStep t u w → t ≡ u
      cases m (inl q) = q
      cases m (inr f) =
          let n : p.member f.next ≡ true = rw (one-edge (links★ R L p k) t f.next a.next f.out a.wait) a.into in
          let v = member-walk R L p k f.next u n f.walk in
          let j : p.member i ≡ true = rw (b.own v) at v in
          absurd (true≢false (sym (member-walk R L p k i t j a.walk) ∙ m))

  one-enters : {i t y u z : ℕ} → Enters i t y → Enters i u z → t ≡ u
  one-enters {i} {t} {y} {u} {z} a b = cases (walk-either (one-edge (links★ R L p k)) a.walk b.walk)
    where
      cases : Walk Waits★ t u ⊎ Walk Waits★ u t → t ≡ u
      cases (inl w) = first-enters a b w
      cases (inr w) = sym (first-enters b a w)

  -- an initiator weighs two at the most
  initiator_le : (i : ℕ) → sum_up_to R.M (λ y. sum_up_to R.S (term i y)) ≤ 2
  initiator_le i = sum-single R.M 2 (λ y. sum_up_to R.S (term i y))
      (λ y lo hi. sum-single R.S 2 (term i y) (λ t _ _. by-test (λ (n : ℕ). n ≤ 2) (enters t y) (λ _. part_le i t) (λ _. zero-le)) (λ t u _ _ _ _ a b. one-enters (term-enters i t y lo hi a) (term-enters i u y lo hi b)))
      one
    where
      one : (y z : ℕ) → 1 ≤ y → y ≤ R.M → 1 ≤ z → z ≤ R.M → 1 ≤ sum_up_to R.S (term i y) → 1 ≤ sum_up_to R.S (term i z) → y ≡ z
      one y z lo hi lo' hi' a b =
          let f = sum-some R.S (term i y) a in
          let g = sum-some R.S (term i z) b in
          let u = term-enters i f.0 y lo hi f.3 in
          let v = term-enters i g.0 z lo' hi' g.3 in
          one-queue (links★ R L p k) f.0 y z lo hi lo' hi' u.stands (rw (one-enters u v) v.stands)

  -- ---- all initiators
  -- a session's weight is spread over the initiators, and so is a queue's
  own_le : (t : ℕ) → 1 ≤ t → t ≤ R.S → own_weight R p t ≤ sum_up_to R.S (λ i. part i t)
  unfolding own_weight resend_weight stored_count
  own_le t lo hi =
      by_answer (p.member t)
      (λ e. rw e (omega (arith, sum-term R.S t (λ i. bit (eqb t i)) lo hi, ap bit (eqb_self t))))
      (λ e. rw e (omega (
        arith,
        sum_less R.S t 2 (is_stored (p.state.session t).stored) (λ i. 2 * bit (eqb t i) + is_stored (p.state.session t).stored i) lo hi (omega (arith, ap bit (eqb_self t))) (λ i _ _. omega arith),
      )))

  queue_le : (y : ℕ) → cond (of_member p y) (queue_weight R p y) 0 ≤ sum_up_to R.S (λ i. sum_up_to R.S (term i y))
  unfolding queue_weight
  queue_le y = rw (sum_swap R.S R.S (λ i t. term i y t)) (by-test (λ (n : ℕ). n ≤ sum_up_to R.S (λ t. sum_up_to R.S (λ i. term i y t))) (of_member p y) (λ o. sum_mono R.S _ _ (each o)) (λ _. zero-le))
    where
      each : of_member p y ≡ true → (t : ℕ) → 1 ≤ t → t ≤ R.S → cond (member t (p.state.item y).queue) (own_weight R p t) 0 ≤ sum_up_to R.S (λ i. term i y t)
      each o t lo hi = by-test (λ (n : ℕ). n ≤ sum_up_to R.S (λ i. term i y t)) (member t (p.state.item y).queue) (λ m. rw (o, m) (own_le t lo hi)) (λ _. zero-le)

  pub entrances : sum_up_to R.M (λ y. cond (of_member p y) (queue_weight R p y) 0) ≤ 2 * R.S
  entrances = omega (
    arith,
    sum_mono R.M (λ y. cond (of_member p y) (queue_weight R p y) 0) (λ y. sum_up_to R.S (λ i. sum_up_to R.S (term i y))) (λ y _ _. queue_le y),
    sum_swap R.M R.S (λ y i. sum_up_to R.S (term i y)),
    sum_le R.S 2 (λ i. sum_up_to R.M (λ y. sum_up_to R.S (term i y))) initiator_le,
  )
