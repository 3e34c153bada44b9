-- The members of a cycle: what is reached from a session on a cycle lies on the same cycle.
use mathlib.Core.Path.{◌≡◌, refl, sym, ap, ◌∙◌}
use mathlib.Core.Bool.{Bool, true, false}
use mathlib.Core.Logic.{◌≢◌, ◌⊎◌, inl, inr}
use Prim.Native.Nat.{ℕ, zero, suc, ◌+◌, ◌-◌, ◌≤◌, ◌<◌}
use native.Mathlib.Omega.{arith}
use lib.Dec.{eqb}
use borrow.Author.Tests.{eqb-true, eqb-false}
use Rattle.lists.proofs.Searches.{some_or_none}
use Rattle.waits.specs.Waits.{reached, cycle_length, on_cycle}
use Rattle.waits.proofs.Reached.{Graph, reached-sum, reached-suc, reached_swap, reached-past, within, returns, on-cycle_positive, cycle-returns, back_positive, back_inside, reached-inside, on-cycle-found, cycle-length_least}

module _ {next : ℕ → ℕ} {S : ℕ} (g : Graph next S) where
  -- whoever waits for none lies on no cycle
  pub off-cycle : (t : ℕ) → 1 ≤ t → next t ≡ 0 → on_cycle next S t ≡ true → ⊥
  off-cycle t low e on = let h = on-cycle_positive next S t on in omega (arith, sym (cycle-returns next S t on) ∙ reached-past g t e (cycle_length next S t) h)

  module _ (t : ℕ) (low : 1 ≤ t) (on : on_cycle next S t ≡ true) where
    around-length : ℕ
    around-length = cycle_length next S t

    once : 1 ≤ around-length
    unfolding around-length
    once = on-cycle_positive next S t on

    back : reached next around-length t ≡ t
    unfolding around-length
    back = cycle-returns next S t on

    pub on-cycle-inside : t ≤ S
    on-cycle-inside = back_inside g t low around-length once back

    pub member_positive : (k : ℕ) → 1 ≤ reached next k t
    member_positive k = back_positive g t low around-length once back k

    pub member-inside : (k : ℕ) → reached next k t ≤ S
    member-inside k = reached-inside g t on-cycle-inside k

    -- each member is reached by at most as many waits as the cycle is long
    pub member-within : (k : ℕ) → (j : ℕ) × (1 ≤ j) × (j ≤ cycle_length next S t) × (reached next j t ≡ reached next k t)
    unfolding around-length
    member-within k = within next t around-length once back k

    -- t is reached from each member
    pub member_back : (k : ℕ) → (j : ℕ) × (1 ≤ j) × (reached next j (reached next k t) ≡ t)
    member_back k = returns next t around-length once back k

    around : (k : ℕ) → reached next around-length (reached next k t) ≡ reached next k t
    around k = reached_swap next around-length k t ∙ ap (reached next k) back

    pub member-on-cycle : (k : ℕ) → on_cycle next S (reached next k t) ≡ true
    member-on-cycle k = on-cycle-found g (reached next k t) (member_positive k) around-length once (around k)

    member_shorter : (k : ℕ) → cycle_length next S (reached next k t) ≤ cycle_length next S t
    unfolding around-length
    member_shorter k = cycle-length_least g (reached next k t) (member_positive k) around-length once (around k)

    -- u is a member, or is not
    pub member_or_not : (u : ℕ) → ((k : ℕ) × (reached next k t ≡ u)) ⊎ ((k : ℕ) → reached next k t ≢ u)
    member_or_not u = go (some_or_none around-length test)
      where
        test : ℕ → Bool
        test k = eqb (reached next k t) u

        go : ((k : ℕ) × (1 ≤ k) × (k ≤ around-length) × (test k ≡ true)) ⊎ ((k : ℕ) → 1 ≤ k → k ≤ around-length → test k ≡ false)
            → ((k : ℕ) × (reached next k t ≡ u)) ⊎ ((k : ℕ) → reached next k t ≢ u)
        go (inl r) = inl (r.0, eqb-true _ u r.3)
        go (inr h) = inr (λ k e. let r = within next t around-length once back k in eqb-false _ u (h r.0 r.1 r.2) (r.3 ∙ e))

  module _ (t : ℕ) (low : 1 ≤ t) (on : on_cycle next S t ≡ true) where
    pub member-length : (k : ℕ) → cycle_length next S (reached next k t) ≡ cycle_length next S t
    member-length k =
        let u = reached next k t in
        let r = member_back t low on k in
        let s = member_shorter u (member_positive t low on k) (member-on-cycle t low on k) r.0 in
        omega (arith, member_shorter t low on k, ap (cycle_length next S) r.2)

    -- fewer waits than the cycle is long lead from a member to another
    pub members-differ : (i j : ℕ) → i < j → j < i + cycle_length next S t → reached next i t ≢ reached next j t
    members-differ i j h l e =
        let u = reached next i t in
        let back : reached next (j - i) u ≡ u = reached-sum next (j - i) i j t (omega arith) ∙ sym e in
        omega (arith, member-length i, cycle-length_least g u (member_positive t low on i) (j - i) (omega arith) back)

    -- whom t waits for
    pub next_positive : 1 ≤ next t
    unfolding reached
    next_positive = member_positive t low on 1

    pub next-on-cycle : on_cycle next S (next t) ≡ true
    unfolding reached
    next-on-cycle = member-on-cycle t low on 1

    pub next-length : cycle_length next S (next t) ≡ cycle_length next S t
    unfolding reached
    next-length = member-length 1

  -- on cycles each is waited for by one session only
  pub next_injective : (t u : ℕ) → 1 ≤ t → 1 ≤ u → on_cycle next S t ≡ true → on_cycle next S u ≡ true → next t ≡ next u → t ≡ u
  next_injective t u lt lu ot ou e = go (cycle_length next S t) refl
    where
      same : cycle_length next S t ≡ cycle_length next S u
      same = sym (next-length t lt ot) ∙ ap (cycle_length next S) e ∙ next-length u lu ou

      go : (k : ℕ) → cycle_length next S t ≡ k → t ≡ u
      go zero z = absurd (let h = on-cycle_positive next S t ot in omega arith)
      go (suc k) z =
          sym (cycle-returns next S t ot) ∙ ap (λ (n : ℕ). reached next n t) z ∙ reached-suc next k t ∙ ap (reached next k) e ∙ sym (reached-suc next k u)
          ∙ ap (λ (n : ℕ). reached next n u) (sym z ∙ same) ∙ cycle-returns next S u ou
