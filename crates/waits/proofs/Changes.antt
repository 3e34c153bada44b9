-- How the number of cycles changes with the waits: not at all where the waits on cycles stay, and by one where a session's wait closes a cycle.
use mathlib.Core.Path.{◌≡◌, refl, sym, ap, ap₂, ◌∙◌}
use mathlib.Core.Bool.{Bool, true, false, cond, not, ◌&&◌, true≢false}
use mathlib.Core.Logic.{◌≢◌, ◌⊎◌, inl, inr}
use Prim.Native.Nat.{ℕ, ◌+◌, ◌≤◌}
use native.Mathlib.Omega.{arith}
use lib.Dec.{eqb}
use Rattle.lists.specs.Lists.{every, count_up_to}
use Rattle.lists.proofs.Tests.{fails, tests_agree}
use Rattle.lists.proofs.Orders.{StrictTotal}
use Rattle.lists.proofs.Searches.{count-one-more, count_same, every-same, lowest-same}
use Rattle.waits.specs.Waits.{reached, cycle_length, on_cycle, leads, cycles}
use Rattle.waits.proofs.Reached.{Graph, reached-sum, reached-same, off-cycle-length}
use Rattle.waits.proofs.Members.{off-cycle, member_positive, member-inside, member_back, member-on-cycle, member_or_not}
use Rattle.waits.proofs.Leaders.{leads-on-cycle, leader_of, leader_unique}

-- ---- one session: from t the same sessions are reached

module _ (next next' : ℕ → ℕ) (S t : ℕ) (same : (k : ℕ) → reached next' k t ≡ reached next k t) where
  pub cycle-length-same : cycle_length next' S t ≡ cycle_length next S t
  unfolding cycle_length
  cycle-length-same = lowest-same S _ _ (λ k _ _. ap (λ (u : ℕ). eqb u t) (same k))

  pub on-cycle-same : on_cycle next' S t ≡ on_cycle next S t
  unfolding on_cycle
  on-cycle-same = ap (λ (n : ℕ). not (eqb n 0)) cycle-length-same

  pub leads-same : (senior : ℕ → ℕ → Bool) → leads next' S senior t ≡ leads next S senior t
  unfolding leads
  leads-same senior =
      ap₂ ◌&&◌ on-cycle-same
      (every-same (cycle_length next' S t) _ _ (λ k _ _. ap (λ (u : ℕ). not (senior u t)) (same k))
      ∙ ap (λ (n : ℕ). every n (λ k. not (senior (reached next k t) t))) cycle-length-same)

-- ---- all sessions: the waits of the sessions on cycles are the same

module _
    {next next' : ℕ → ℕ}
    {S : ℕ}
    (g : Graph next S)
    (g' : Graph next' S)
    (keep : (t : ℕ) → 1 ≤ t → t ≤ S → on_cycle next S t ≡ true → next' t ≡ next t)
    (keep' : (t : ℕ) → 1 ≤ t → t ≤ S → on_cycle next' S t ≡ true → next t ≡ next' t) where
  run : (t : ℕ) → 1 ≤ t → on_cycle next S t ≡ true → (k : ℕ) → reached next' k t ≡ reached next k t
  run t low on = reached-same next next' t (λ k. keep (reached next k t) (member_positive g t low on k) (member-inside g t low on k) (member-on-cycle g t low on k))

  run' : (t : ℕ) → 1 ≤ t → on_cycle next' S t ≡ true → (k : ℕ) → reached next' k t ≡ reached next k t
  run' t low on k =
      sym (reached-same next' next t (λ k. keep' (reached next' k t) (member_positive g' t low on k) (member-inside g' t low on k) (member-on-cycle g' t low on k)) k)

  either : (t : ℕ) → 1 ≤ t → ((k : ℕ) → reached next' k t ≡ reached next k t) ⊎ ((on_cycle next S t ≡ false) × (on_cycle next' S t ≡ false))
  either t low = go (on_cycle next S t) (on_cycle next' S t) refl refl
    where
      go : (a b : Bool) → on_cycle next S t ≡ a → on_cycle next' S t ≡ b → ((k : ℕ) → reached next' k t ≡ reached next k t) ⊎ ((on_cycle next S t ≡ false) × (on_cycle next' S t ≡ false))
      go true b e f = inl (run t low e)
      go false true e f = inl (run' t low f)
      go false false e f = inr (e, f)

  pub on-cycles-same : (t : ℕ) → 1 ≤ t → on_cycle next S t ≡ on_cycle next' S t
  on-cycles-same t low = elim (either t low) [ inl r ↦ sym (on-cycle-same next next' S t r) | inr r ↦ r.0 ∙ sym r.1 ]

  pub cycle_lengths_same : (t : ℕ) → 1 ≤ t → cycle_length next S t ≡ cycle_length next' S t
  cycle_lengths_same t low =
      elim (either t low) [ inl r ↦ sym (cycle-length-same next next' S t r) | inr r ↦ off-cycle-length next S t r.0 ∙ sym (off-cycle-length next' S t r.1) ]

  pub leaders_same : (senior : ℕ → ℕ → Bool) (t : ℕ) → 1 ≤ t → leads next S senior t ≡ leads next' S senior t
  unfolding leads
  leaders_same senior t low = elim (either t low) [ inl r ↦ sym (leads-same next next' S t r senior) | inr r ↦ rw (r.0, r.1) ]

  pub cycles-same : (senior : ℕ → ℕ → Bool) → cycles next S senior ≡ cycles next' S senior
  unfolding cycles
  cycles-same senior = count_same S _ _ (λ t low _. leaders_same senior t low)

-- ---- one wait more: t, which waits for none, comes to wait

module _
    {next next' : ℕ → ℕ}
    {S : ℕ}
    (g : Graph next S)
    (g' : Graph next' S)
    {senior : ℕ → ℕ → Bool}
    (o : StrictTotal senior)
    (t : ℕ)
    (low : 1 ≤ t)
    (free : next t ≡ 0)
    (keep : (u : ℕ) → 1 ≤ u → u ≤ S → u ≢ t → next' u ≡ next u) where
  off : (u : ℕ) → u ≡ t → on_cycle next S u ≡ true → ⊥
  off u e on = off-cycle g t low free (rw e at on)

  old : (u : ℕ) → 1 ≤ u → on_cycle next S u ≡ true → (k : ℕ) → reached next' k u ≡ reached next k u
  old u lo on =
      reached-same next next' u
      (λ k. keep (reached next k u) (member_positive g u lo on k) (member-inside g u lo on k) (λ e. off (reached next k u) e (member-on-cycle g u lo on k)))

  apart : (u : ℕ) → 1 ≤ u → on_cycle next' S u ≡ true → ((k : ℕ) → reached next' k u ≢ t) → (k : ℕ) → reached next k u ≡ reached next' k u
  apart u lo on h = reached-same next' next u (λ k. sym (keep (reached next' k u) (member_positive g' u lo on k) (member-inside g' u lo on k) (h k)))

  -- no cycle is closed
  none-closed : on_cycle next' S t ≡ false → cycles next' S senior ≡ cycles next S senior
  none-closed e =
      sym (cycles-same g g' (λ u a b on. keep u a b (λ q. off u q on)) (λ u a b on. sym (keep u a b (λ q. true≢false (sym on ∙ ap (on_cycle next' S) q ∙ e)))) senior)

  -- a cycle is closed: its leader leads, and every other session as before
  module _ (on : on_cycle next' S t ≡ true) where
    one-closed : cycles next' S senior ≡ cycles next S senior + 1
    unfolding cycles
    one-closed = go (leader_of g' o t low on)
      where
        go : (n : ℕ) × (leads next' S senior (reached next' n t) ≡ true) → count_up_to S (leads next' S senior) ≡ count_up_to S (leads next S senior) + 1
        go (n, e) = count-one-more S _ _ l (member_positive g' t low on n) (member-inside g' t low on n) e before other
          where
            l : ℕ
            l = reached next' n t

            before : leads next S senior l ≡ false
            before = fails _ (λ f.
                let lo = member_positive g' t low on n in
                let q = leads-on-cycle next S senior l f in
                let r = member_back g' t low on n in
                off (reached next r.0 l) (sym (old l lo q r.0) ∙ r.2) (member-on-cycle g l lo q r.0))

            other : (u : ℕ) → 1 ≤ u → u ≤ S → u ≢ l → leads next' S senior u ≡ leads next S senior u
            other u lo hi ne = tests_agree _ _ forth back
              where
                forth : leads next' S senior u ≡ true → leads next S senior u ≡ true
                forth f = more (member_or_not g' u lo q t)
                  where
                    q : on_cycle next' S u ≡ true
                    q = leads-on-cycle next' S senior u f

                    more : ((k : ℕ) × (reached next' k u ≡ t)) ⊎ ((k : ℕ) → reached next' k u ≢ t) → leads next S senior u ≡ true
                    more (inl (k, z)) =
                        let w : reached next' (n + k) u ≡ l = sym (reached-sum next' n k (n + k) u refl) ∙ ap (reached next' n) z in
                        absurd (ne (sym (leader_unique g' o u lo f (n + k) (rw w e)) ∙ w))
                    more (inr h) = leads-same next' next S u (apart u lo q h) senior ∙ f

                back : leads next S senior u ≡ true → leads next' S senior u ≡ true
                back f = leads-same next next' S u (old u lo (leads-on-cycle next S senior u f)) senior ∙ f

  pub cycles_add : cycles next' S senior ≡ cycles next S senior + cond (on_cycle next' S t) 1 0
  cycles_add = go (on_cycle next' S t) refl
    where
      go : (b : Bool) → on_cycle next' S t ≡ b → cycles next' S senior ≡ cycles next S senior + cond b 1 0
      go true e = one-closed e
      go false e = omega (arith, none-closed e)
