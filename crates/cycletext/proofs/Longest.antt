-- No text of a cycle is longer than the longest: the sessions differ, and so do the items and the holders, so that each of the three have at most the digits of 1 to 64.
use mathlib.Core.Path.{◌≡◌, refl, sym, ap, ◌∙◌}
use mathlib.Core.Bool.{true, false, cond}
use mathlib.Core.List.{List}
use mathlib.Core.Logic.{◌≢◌}
use Prim.Native.Nat.{ℕ, zero, suc, ◌+◌, ◌-◌, ◌*◌, ◌≤◌, zero-le}
use native.Mathlib.Omega.{arith}
use lib.Dec.{eqb}
use lib.ListN.{length}
use Rattle.lists.specs.Lists.{sum_up_to, tabulate}
use Rattle.lists.proofs.Laws.{tabulate-last}
use Rattle.lists.proofs.Tests.{by_answer}
use Rattle.lists.proofs.Searches.{sum_different}
use Rattle.text.specs.Text.{digits, decimal}
use Rattle.message.specs.Limits.{max_sessions, max_items, IsSession, IsItem}
use Rattle.table.specs.Layout.{Formed, sessions_of, items_of}
use Rattle.table.proofs.Laws.{sized-facts, senior-total}
use Rattle.waits.specs.Waits
use Rattle.waits.specs.Waits.{reached, cycle_length, on_cycle}
use Rattle.waits.specs.OnTable.{locks, waits_at, waits_for}
use Rattle.waits.proofs.Reached.{Graph, off-cycle-length, cycle-length_le}
use Rattle.waits.proofs.Leaders.{leader-member}
use Rattle.waits.proofs.Members.{member_positive, member-inside, member-on-cycle, member-length, members-differ}
use Rattle.waits.proofs.Laws.{waits_at_le, graph}
use Rattle.waits.specs.declared.Wait.{Wait}
use Rattle.waits.specs.Cycle.{wait, waits_from, cycle}
use Rattle.cycletext.specs.Text.{lines}
use Rattle.cycletext.specs.OnTable.{text}
use Rattle.cycletext.specs.Statement.{longest}
use Rattle.cycletext.proofs.Laws.{digits_of, length_line, length_more}

-- ---- lengths
-- the digits of 1 to 64
all_digits : sum_up_to 64 digits_of ≡ 119
unfolding sum_up_to decimal digits
all_digits = refl

lines-length : (n : ℕ) (m : ℕ → Wait)
    → length (lines (tabulate n m)) ≡ 42 * n + sum_up_to n (λ k. digits_of (m (k - 1)).session) + sum_up_to n (λ k. digits_of (m (k - 1)).item) + sum_up_to n (λ k. digits_of (m (k - 1)).holder)
unfolding lines tabulate sum_up_to
lines-length zero m = refl
lines-length (suc n) m =
    let last : suc n - 1 ≡ n = omega arith in
    rw (last) (omega (arith, ap (λ (l : List Wait). length (lines l)) (tabulate-last n m), length_more (tabulate n m) (m n), length_line (m n), lines-length n m))

-- ---- once round
module _ {next : ℕ → ℕ} {S : ℕ} (g : Graph next S) (t : ℕ) (low : 1 ≤ t) (on : on_cycle next S t ≡ true) where
  -- a number of each member, from 1 to 64, that tells for whom it waits: no two are the same, and all have at most the digits of 1 to 64
  numbers : (f : ℕ → ℕ) → ((k : ℕ) → (1 ≤ f (reached next k t)) × (f (reached next k t) ≤ 64)) → ((s u : ℕ) → f s ≡ f u → next s ≡ next u)
      → sum_up_to (cycle_length next S t) (λ k. digits_of (f (reached next (k - 1) t))) ≤ 119
  unfolding reached
  numbers f b tells =
      omega (
        arith,
        all_digits,
        sum_different 64 (cycle_length next S t) digits_of (λ k. f (reached next (k - 1) t)) (λ k _ _. b (k - 1)) (λ i j o h l e. members-differ g t low on (suc (i - 1)) (suc (j - 1)) (omega arith) (omega arith) (tells (reached next (i - 1) t) (reached next (j - 1) t) e)),
      )

  -- at most 64 sessions wait at items 1 to 64, each for the holder of its item
  module _ (few : S ≤ max_sessions) (at holder : ℕ → ℕ) (inside : (s : ℕ) → at s ≤ max_items) (held : (s : ℕ) → next s ≡ holder (at s)) (free : holder 0 ≡ 0) where
    session : (k : ℕ) → IsSession (reached next k t)
    session k = (member_positive g t low on k, omega (arith, member-inside g t low on k))

    item : (k : ℕ) → IsItem (at (reached next k t))
    unfolding reached
    item k =
        let s = reached next k t in
        let some : at s ≢ 0 = λ z. omega (arith, held s ∙ ap holder z ∙ free, session (suc k)) in
        (omega arith, inside s)

    once_round : length (lines (waits_from at next (cycle_length next S t) t)) ≤ longest
    unfolding reached
    once_round =
        omega (
          arith,
          lines-length (cycle_length next S t) (λ k. wait at next (reached next k t)),
          cycle-length_le next S t,
          numbers (λ s. s) session (λ s u e. ap next e),
          numbers at item (λ s u e. held s ∙ ap holder e ∙ sym (held u)),
          numbers next (λ k. session (suc k)) (λ s u e. e),
        )

-- ---- on tables
module _ (table : List ℕ) (f : Formed table) (t : ℕ) (low : 1 ≤ t) where
  fits_on : on_cycle (waits_for table) (sessions_of table) t ≡ true → length (text table t) ≤ longest
  unfolding cycle Waits.waits_for
  fits_on on =
      let g = graph table f in
      let b = sized-facts table f.sized in
      let r = leader-member g (senior-total table f.formed) t low on in
      rw (r.2, ← member-length g t low on r.0)
      (once_round g (reached (waits_for table) r.0 t) (member_positive g t low on r.0) (member-on-cycle g t low on r.0) b.max-sessions
      (waits_at table) (λ x. cond (eqb x 0) 0 (locks table x).holder) (λ s. omega (arith, b.max-items, waits_at_le (items_of table) (locks table) s)) (λ s. refl) refl)

  fits-off : on_cycle (waits_for table) (sessions_of table) t ≡ false → length (text table t) ≤ longest
  unfolding cycle lines tabulate
  fits-off off = rw (off-cycle-length (waits_for table) (sessions_of table) t off) zero-le

-- no text is longer than the longest
pub fits : (table : List ℕ) → Formed table → (t : ℕ) → 1 ≤ t → length (text table t) ≤ longest
fits table f t low = by_answer (on_cycle (waits_for table) (sessions_of table) t) (fits_on table f t low) (fits-off table f t low)
