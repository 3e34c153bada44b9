-- How many waits are before a clean: one less past each wait, and as many as before where its victim's cycle stays.
use mathlib.Core.Path.{◌∙◌, ◌≡◌, ap, refl, sym}
use mathlib.Core.Bool.{◌&&◌, Bool, beq, false, true}
use mathlib.Core.List.{[], ◌∷◌, List}
use Prim.Native.Nat.{◌*◌, ◌+◌, ◌≤◌, suc, zero, ℕ}
use native.Mathlib.Omega.{arith}
use lib.Dec.{eqb}
use borrow.Author.Tests.{eq-eqb, eqb-false, eqb-true}
use Rattle.lists.specs.Lists.{lowest}
use Rattle.lists.proofs.Searches.{lowest-found, lowest_le, lowest-passes, lowest-same}
use Rattle.lists.proofs.Tests.{by-test, eqb_self}
use Rattle.waits.specs.Waits
use Rattle.waits.proofs.Reached.{cycle-length_le, reached-same, reached-suc}
use Rattle.waits.proofs.Members.{member-within}
use Rattle.deadlock.specs.Lists.{bit}
use Rattle.deadlock.specs.Machine.{abort, clean, down, Entry, is_on_route, Laws, Message, probe, reached, route, Rules, State, up, waits_for}
use Rattle.deadlock.specs.Counts.{clean_of, cleans_of}
use Rattle.deadlock.specs.Walks.{FirstApart, onward, Walk}
use Rattle.deadlock.specs.World.{CleanUnderWay, Edge, HolderIs, Queued, stage_of}
use Rattle.deadlock.specs.Invariant.{down_route, Invariant, up_route, world_of}
use Rattle.deadlock.proofs.Laws.Stages.{stage-facts}
use Rattle.deadlock.proofs.Laws.Walks.{cycle-back, cycle-next, cycle-turned, walk-append}
use Rattle.deadlock.proofs.Victims.OneOnCycle.{one-edge, victim-of-down, victim-of-up}
use Rattle.deadlock.proofs.StateWaits.{cycle-on_cycle, cycle-reached, edge-waits_for, graph_of, walk-reached}
use Rattle.deadlock.proofs.Core.Kept.{known_of, links-of}
use Rattle.bound.specs.Formula.{hop_cost}
use Rattle.bound.specs.Potential.{distance_in, mail_sum, mail_weight, waits_left, weight}

module _ (R : Rules) (s : State) where
  abbrev arrives : ℕ → ℕ → ℕ → Bool
  arrives t v n = eqb (reached R s n t) v

  later : (a v : ℕ) → eqb a v ≡ false → (n : ℕ) → reached R s n a ≡ v → 1 ≤ n
  unfolding Waits.reached
  later a v f zero q = absurd (eqb-false a v f q)
  later a v f (suc n) q = omega arith

  -- from the next session on there is one wait less
  pub one_less : (t v : ℕ) → 1 ≤ distance_in R s t v → waits_left R (distance_in R s) (waits_for R s t) v + 1 ≤ distance_in R s t v
  unfolding distance_in waits_left
  one_less t v lo =
      by-test (λ (k : ℕ). k + 1 ≤ lowest R.S (arrives t v)) (eqb (waits_for R s t) v) (λ _. lo)
      (λ f. cases f (lowest R.S (arrives t v)) lo (lowest_le R.S (arrives t v)) (eqb-true _ _ (lowest-passes R.S (arrives t v) (λ z. absurd (omega arith)))))
    where
      cases : eqb (waits_for R s t) v ≡ false → (n : ℕ) → 1 ≤ n → n ≤ R.S → reached R s n t ≡ v → lowest R.S (arrives (waits_for R s t) v) + 1 ≤ n
      cases f zero a b q = absurd (omega arith)
      cases f (suc n) a b q =
          let p : reached R s n (waits_for R s t) ≡ v = sym (reached-suc (waits_for R s) n t) ∙ q in
          omega (arith, lowest-found R.S (arrives (waits_for R s t) v) n (later (waits_for R s t) v f n p) (omega arith) (eq-eqb _ _ p))

module _ (R : Rules) (L : Laws R) (s : State) (k : Invariant R s) where
  pub cycle_of : (v : ℕ) → CleanUnderWay (world_of s) v → FirstApart (Edge R (world_of s)) v v
  cycle_of v c =
      let e = k.core.victims.victim-waits v c in
      (k.core.victims.victim-on-cycle v e.0 (omega (arith, c, stage-facts (stage_of (world_of s) v))) e.1).cycle

  module _ (v t : ℕ) (loop : FirstApart (Edge R (world_of s)) v v) (w : Walk (Edge R (world_of s)) v t) where
    turned : FirstApart (Edge R (world_of s)) t t
    turned = cycle-turned (one-edge (links-of R L s k.core)) loop w

    -- a session on the cycle of v leads to v
    pub distance_some : 1 ≤ distance_in R s t v
    unfolding distance_in
    distance_some =
        let lk = links-of R L s k.core in
        let e = turned.out in
        let y = walk-reached R s lk k.is_in_range (cycle-back (one-edge lk) loop w) in
        let r = member-within (graph_of R s lk k.is_in_range) t ((k.is_in_range e.item).queue t e.stands).0 (cycle-on_cycle R s lk k.is_in_range t turned) y.0 in
        (lowest-found R.S (arrives R s t v) r.0 r.1 (omega (arith, r.2, cycle-length_le (waits_for R s) R.S t)) (eq-eqb _ _ (r.3 ∙ y.1))).0

  -- a clean of v on its way from t, or to t: v is a victim, and t lies on its cycle
  pub clean-up-walk : (v t x : ℕ) → 1 ≤ cleans_of v (up_route s t x) → CleanUnderWay (world_of s) v × Walk (Edge R (world_of s)) v t
  clean-up-walk v t x p = (victim-of-up (known_of R L s k.core) v t x p, (k.core.victims.clean-up-on-cycle v t x p).walk)

  clean-down-walk : (v t x : ℕ) → 1 ≤ cleans_of v (down_route s t x) → CleanUnderWay (world_of s) v × Walk (Edge R (world_of s)) v t
  clean-down-walk v t x p =
      let c = k.core.victims.clean-down-on-cycle v t x p in
      (victim-of-down (known_of R L s k.core) v t x p, onward c.walk (record { item = x; low = c.low; high = c.high; stands = c.stands; held = c.held }))

-- ---- two states
-- the edges on the cycles of the victims whose cleans are on their way are edges in the other state too
abbrev pub CyclesStay : Rules → State → State → Type 0
CyclesStay R s r =
    (v : ℕ) → CleanUnderWay (world_of s) v → (u b : ℕ) → Walk (Edge R (world_of s)) v u → (e : Edge R (world_of s) u b)
    → Queued (world_of r) u e.item × HolderIs (world_of r) e.item b

-- an entry is on its own route
own-route : (e : Entry) → is_on_route e.to_item e.session e.item e ≡ true
unfolding is_on_route
own-route e = rw (eqb_self e.session, eqb_self e.item) (beq_self e.to_item)
  where
    beq_self : (d : Bool) → beq d d && true ≡ true
    beq_self true = refl
    beq_self false = refl

-- messages weigh the same where the cleans have the same waits before them
module _ (R : Rules) (f g : ℕ → ℕ → ℕ) where
  weight-same : (d : Bool) (t : ℕ) (m : Message) → ((v : ℕ) → 1 ≤ clean_of v m → g t v ≡ f t v) → weight R g d t m ≡ weight R f d t m
  unfolding weight waits_left
  weight-same d t (up m) h = refl
  weight-same d t (down m) h = refl
  weight-same d t (probe i j) h = refl
  weight-same true t (clean v i) h = omega (arith, ap (λ (n : ℕ). hop_cost R.S R.M * n) (h v (omega (arith, ap bit (eqb_self v)))))
  weight-same false t (clean v i) h = rw (h v (omega (arith, ap bit (eqb_self v))))
  weight-same d t (abort v i) h = refl

  mail-same : (l : List Entry) → ((d : Bool) (t x v : ℕ) → 1 ≤ cleans_of v (route d t x l) → g t v ≡ f t v) → mail_weight R g l ≡ mail_weight R f l
  unfolding mail_weight mail_sum route cleans_of
  mail-same [] h = refl
  mail-same (e ∷ l) h = omega (
    arith,
    weight-same e.to_item e.session e.message (λ v p. h e.to_item e.session e.item v (rw (own-route e) (omega arith))),
    mail-same l (λ d t x v p. h d t x v (by-test (λ (q : List Message). 1 ≤ cleans_of v q) (is_on_route d t x e) (λ _. omega arith) (λ _. p))),
  )

module _ (R : Rules) (L : Laws R) (s r : State) (k : Invariant R s) (kr : Invariant R r) (stay : CyclesStay R s r) where
  pub stays-waits_for : (v u b : ℕ) → CleanUnderWay (world_of s) v → Walk (Edge R (world_of s)) v u → Edge R (world_of s) u b → waits_for R r u ≡ b
  stays-waits_for v u b c w e =
      let y = stay v c u b w e in
      edge-waits_for R r (links-of R L r kr.core) kr.is_in_range u b (record { item = e.item; low = e.low; high = e.high; stands = y.0; held = y.1 })

  pub distance-stays : (v t : ℕ) → CleanUnderWay (world_of s) v × Walk (Edge R (world_of s)) v t → distance_in R r t v ≡ distance_in R s t v
  unfolding distance_in
  distance-stays v t (c, w) = lowest-same R.S _ _ (λ n _ _. ap (λ (z : ℕ). eqb z v) (reached-same (waits_for R s) (waits_for R r) t each n))
    where
      each : (n : ℕ) → waits_for R r (reached R s n t) ≡ waits_for R s (reached R s n t)
      each n =
          let lk = links-of R L s k.core in
          let y = walk-append w (cycle-reached R s lk k.is_in_range t (turned R L s k v t (cycle_of R L s k v c) w) n) in
          let d = cycle-next (one-edge lk) (cycle_of R L s k v c) y in
          stays-waits_for v _ d.next c y d.out ∙ sym (edge-waits_for R s lk k.is_in_range _ d.next d.out)

  pub mail-stays : mail_weight R (distance_in R r) s.mailbox ≡ mail_weight R (distance_in R s) s.mailbox
  unfolding up_route down_route
  mail-stays = mail-same R (distance_in R s) (distance_in R r) s.mailbox each
    where
      each : (d : Bool) (t x v : ℕ) → 1 ≤ cleans_of v (route d t x s.mailbox) → distance_in R r t v ≡ distance_in R s t v
      each true t x v p = distance-stays v t (clean-up-walk R L s k v t x p)
      each false t x v p = distance-stays v t (clean-down-walk R L s k v t x p)
