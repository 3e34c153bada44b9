-- Each cycle has exactly one leader, its most senior member; the number of cycles is 0 exactly where no session lies on a cycle.
use mathlib.Core.Path.{◌≡◌, refl, sym, ap, ◌∙◌}
use mathlib.Core.Bool.{Bool, true, false, not, true≢false}
use mathlib.Core.List.{List}
use Prim.Native.Nat.{ℕ, ◌+◌, ◌≤◌, ◌<◌}
use native.Mathlib.Omega.{arith}
use lib.ListN.{length, get_or}
use borrow.Author.Tests.{not-true}
use Rattle.lists.specs.Lists.{member}
use Rattle.lists.proofs.Tests.{and_both, and_intro, fails, same?}
use Rattle.lists.proofs.Laws.{get_d_tabulate, length-tabulate, get_d_member}
use Rattle.lists.proofs.Searches.{count_none, count-some, every-at, every_intro}
use Rattle.lists.proofs.Orders.{StrictTotal, weak}
use Rattle.session.specs.MostSenior.{is_most_senior, most_senior}
use Rattle.session.proofs.MostSenior.{most-senior-inside, most-senior-passes, none-senior}
use Rattle.waits.specs.Waits.{reached, cycle_length, on_cycle, leads, cycles}
use Rattle.waits.specs.Cycle.{around, leader, cycle}
use Rattle.waits.proofs.Reached.{Graph, reached-sum, on-cycle_positive, cycle-returns}
use Rattle.waits.proofs.Members.{member_positive, member-inside, member-within, member_back, member-on-cycle, member-length}

module _ (next : ℕ → ℕ) (S : ℕ) (senior : ℕ → ℕ → Bool) (t : ℕ) where
  pub leads-on-cycle : leads next S senior t ≡ true → on_cycle next S t ≡ true
  unfolding leads
  leads-on-cycle e = (and_both (on_cycle next S t) _ e).0

  -- from the definition: all round the cycle none is senior to t
  pub leads_of : on_cycle next S t ≡ true → ((k : ℕ) → 1 ≤ k → k ≤ cycle_length next S t → senior (reached next k t) t ≡ false) → leads next S senior t ≡ true
  unfolding leads
  leads_of on h = and_intro on (every_intro (cycle_length next S t) _ (λ k a b. ap not (h k a b)))

  none-around : leads next S senior t ≡ true → (k : ℕ) → 1 ≤ k → k ≤ cycle_length next S t → senior (reached next k t) t ≡ false
  unfolding leads
  none-around e k a b = not-true _ (every-at (cycle_length next S t) (λ n. not (senior (reached next n t) t)) (and_both (on_cycle next S t) _ e).1 k a b)

-- no session lies on a cycle: no cycle is counted
pub cycles-none : (next : ℕ → ℕ) (S : ℕ) (senior : ℕ → ℕ → Bool) → ((t : ℕ) → 1 ≤ t → t ≤ S → on_cycle next S t ≡ false) → cycles next S senior ≡ 0
unfolding cycles
cycles-none next S senior h = count_none S _ (λ t a b. fails _ (λ e. true≢false (sym (leads-on-cycle next S senior t e) ∙ h t a b)))

module _ {next : ℕ → ℕ} {S : ℕ} (g : Graph next S) (senior : ℕ → ℕ → Bool) where
  -- no member is senior to the leader
  pub leads-all : (t : ℕ) → 1 ≤ t → leads next S senior t ≡ true → (k : ℕ) → senior (reached next k t) t ≡ false
  leads-all t low e k =
      let r = member-within g t low (leads-on-cycle next S senior t e) k in
      ap (λ (u : ℕ). senior u t) (sym r.3) ∙ none-around next S senior t e r.0 r.1 r.2

module _ {next : ℕ → ℕ} {S : ℕ} (g : Graph next S) {senior : ℕ → ℕ → Bool} (o : StrictTotal senior) where
  -- a cycle has one leader
  pub leader_unique : (t : ℕ) → 1 ≤ t → leads next S senior t ≡ true → (k : ℕ) → leads next S senior (reached next k t) ≡ true → reached next k t ≡ t
  leader_unique t low e k f =
      let on = leads-on-cycle next S senior t e in
      let u = reached next k t in
      let r = member_back g t low on k in
      o.total u t (leads-all g senior t low e k) (ap (λ (v : ℕ). senior v u) (sym r.2) ∙ leads-all g senior u (member_positive g t low on k) f r.0)

  -- two leaders of one cycle are one
  pub leaders_equal : (t : ℕ) → 1 ≤ t → on_cycle next S t ≡ true → (i j : ℕ) → leads next S senior (reached next i t) ≡ true
      → leads next S senior (reached next j t) ≡ true → reached next i t ≡ reached next j t
  leaders_equal t low on i j e f =
      let u = reached next i t in
      let r = member_back g t low on i in
      let q : reached next (j + r.0) u ≡ reached next j t = sym (reached-sum next j r.0 (j + r.0) u refl) ∙ ap (reached next j) r.2 in
      sym (leader_unique u (member_positive g t low on i) e (j + r.0) (rw q f)) ∙ q

-- the members, from t on
module _ (next : ℕ → ℕ) (S : ℕ) (t : ℕ) where
  pub around-length : length (around next S t) ≡ cycle_length next S t
  unfolding around
  around-length = length-tabulate (cycle_length next S t) (λ k. reached next k t)

  pub around-at : (k : ℕ) → k < cycle_length next S t → get_or (around next S t) k 0 ≡ reached next k t
  unfolding around
  around-at k h = get_d_tabulate (cycle_length next S t) (λ k. reached next k t) k 0 h

module _ {next : ℕ → ℕ} {S : ℕ} (g : Graph next S) {senior : ℕ → ℕ → Bool} (o : StrictTotal senior) where
  module _ (t : ℕ) (low : 1 ≤ t) (on : on_cycle next S t ≡ true) where
    abbrev sessions : List ℕ
    sessions = around next S t

    sessions-length : length sessions ≡ cycle_length next S t
    sessions-length = around-length next S t

    sessions-at : (k : ℕ) → k < cycle_length next S t → get_or sessions k 0 ≡ reached next k t
    sessions-at = around-at next S t

    sessions-some : 0 < length sessions
    sessions-some = omega (arith, sessions-length, on-cycle_positive next S t on)

    -- whoever is reached from t is one of them
    sessions-all : (k : ℕ) → member (reached next k t) sessions ≡ true
    unfolding reached
    sessions-all k = go (member-within g t low on k)
      where
        at_place : (j : ℕ) → j < cycle_length next S t → reached next j t ≡ reached next k t → member (reached next k t) sessions ≡ true
        at_place j h e = sym (ap (λ (u : ℕ). member u sessions) (sessions-at j h ∙ e)) ∙ get_d_member sessions j (omega (arith, sessions-length))

        go : (j : ℕ) × (1 ≤ j) × (j ≤ cycle_length next S t) × (reached next j t ≡ reached next k t) → member (reached next k t) sessions ≡ true
        go (j, a, b, e) = elim (same? j (cycle_length next S t)) [
          | yes z ↦ at_place 0 (omega arith) (sym (cycle-returns next S t on) ∙ ap (λ (n : ℕ). reached next n t) (sym z) ∙ e)
          | no z ↦ at_place j (omega arith) e
        ]

    -- the leader is reached from t
    pub leader-member : (k : ℕ) × (k < cycle_length next S t) × (leader next S senior t ≡ reached next k t)
    unfolding leader
    leader-member =
        let k = most_senior senior sessions in
        let inside : k < cycle_length next S t = omega (arith, sessions-length, most-senior-inside (weak o) sessions sessions-some) in
        (k, inside, sessions-at k inside)

    leader-passes : is_most_senior senior sessions (leader next S senior t) ≡ true
    unfolding leader
    leader-passes = most-senior-passes (weak o) sessions sessions-some

    -- the leader lies on the cycle, and none is senior to it
    pub leader-leads : leads next S senior (leader next S senior t) ≡ true
    leader-leads =
        let u = leader next S senior t in
        let r = leader-member in
        leads_of next S senior u (rw r.2 (member-on-cycle g t low on r.0))
        (λ k _ _. none-senior senior sessions u (reached next k u) leader-passes
        (ap (λ (v : ℕ). member (reached next k v) sessions) r.2 ∙ ap (λ (v : ℕ). member v sessions) (reached-sum next k r.0 (k + r.0) t refl)
        ∙ sessions-all (k + r.0)))

    -- so the cycle has one
    pub leader_of : (k : ℕ) × (leads next S senior (reached next k t) ≡ true)
    leader_of = let r = leader-member in (r.0, rw r.2 at leader-leads)

  module _ (t : ℕ) (low : 1 ≤ t) (on : on_cycle next S t ≡ true) (k : ℕ) where
    -- each member has the same leader
    leader-same : leader next S senior (reached next k t) ≡ leader next S senior t
    leader-same =
        let u = reached next k t in
        let a = leader-member u (member_positive g t low on k) (member-on-cycle g t low on k) in
        let b = leader-member t low on in
        let e = a.2 ∙ reached-sum next a.0 k (a.0 + k) t refl in
        let p = leader-leads u (member_positive g t low on k) (member-on-cycle g t low on k) in
        let q = leader-leads t low on in
        e
        ∙ leaders_equal g o t low on (a.0 + k) b.0 (rw (e) at p) (rw b.2 at q)
        ∙ sym b.2

    -- and the same cycle
    pub cycle-same : (at : ℕ → ℕ) → cycle at next S senior (reached next k t) ≡ cycle at next S senior t
    unfolding cycle
    cycle-same at = rw (member-length g t low on k, leader-same) refl

  -- no cycle is counted: no session lies on one
  pub none-on-cycle : cycles next S senior ≡ 0 → (t : ℕ) → 1 ≤ t → on_cycle next S t ≡ false
  unfolding cycles
  none-on-cycle z t low = fails _ (λ on. let r = leader_of t low on in
      omega (arith, count-some S (leads next S senior) (reached next r.0 t) (member_positive g t low on r.0) (member-inside g t low on r.0) r.1))
