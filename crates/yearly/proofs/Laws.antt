-- Laws of lists of days: what a list that is not refused is known to be, what is printed of it, and how long its lines are.
use mathlib.Core.Path.{◌≡◌, refl}
use mathlib.Core.Bool.{true, false, ◌&&◌}
use mathlib.Core.List.{List, [], ◌∷◌, ◌++◌}
use Prim.Native.Nat.{ℕ, ◌*◌, ◌≤◌, ◌<◌}
use native.Mathlib.Omega.{arith}
use borrow.Author.Tests.{eqb-true, eqb-false, eq-eqb, ne_eqb, leb-true}
use lib.Dec.{eqb}
use lib.ListN.{length}
use Rattle.lists.specs.Lists.{between}
use Rattle.lists.proofs.Tests.{and_both, within}
use Rattle.lists.proofs.Searches.{every-at, sum_mono}
use Rattle.refusal.specs.Refusal
use Rattle.refusal.specs.Refusal.{cause, first}
use Rattle.refusal.proofs.Causes.{unmet, unmet-not}
use Rattle.text.specs.Text.{line}
use Rattle.text.proofs.Laws.{line_short, spaced-longer, spaced-none}
use Rattle.yearly.specs.declared.Record.{Record}
use Rattle.yearly.specs.Input.{days_in, taken_part, rolled_back, max_days, size, sized, consistent_day, consistent}
use Rattle.yearly.specs.Rate.{rate}
use Rattle.yearly.specs.Printed.{sums, refusal, day_line, last_line, day_lines, statement, longest_line, longest_last}
use Rattle.yearly.specs.Parts.{Days, max_value}
use Rattle.yearly.proofs.Rounding.{rate_small}

-- ---- judging
pub days : (input : List ℕ) (n : ℕ) → n ≡ days_in input → sized input ≡ true → Days input n
unfolding sized
days input n e w =
    let d = days_in input in
    let both = and_both (between 1 max_days d) (eqb (length input) (size d)) w in
    let b = within 1 max_days d both.0 in
    record { count = e; some = omega (arith, b.0); few = omega (arith, b.1); whole = omega (arith, eqb-true (length input) (size d) both.1) }

-- what is answered, by the three tests
module _ (input : List ℕ) where
  pub not-sized : sized input ≡ false → refusal input ≡ Refusal.bad_list
  unfolding first
  not-sized e = rw (e) refl

  pub not-consistent : sized input ≡ true → consistent input ≡ false → refusal input ≡ Refusal.bad_list
  unfolding first
  not-consistent e f = rw (e, f) refl

  module _ (e : sized input ≡ true) (f : consistent input ≡ true) where
    pub no_sessions : (sums input).sessions ≡ 0 → refusal input ≡ Refusal.nobody
    unfolding first
    no_sessions z = rw (e, f, eq-eqb (sums input).sessions 0 z) refl

    pub some-sessions : ((sums input).sessions ≡ 0 → ⊥) → refusal input ≡ 0
    unfolding first
    some-sessions z = rw (e, f, ne_eqb (sums input).sessions 0 z) refl

-- a list that is not refused
pub record Accepted (input : List ℕ) : Type 0 where
  pub whole : sized input ≡ true
  pub some : 1 ≤ (sums input).sessions
  pub fewer : (sums input).rollbacks ≤ (sums input).sessions

pub accepted : (input : List ℕ) → refusal input ≡ 0 → Accepted input
unfolding consistent sums
accepted input e =
    let s = (sums input).sessions in
    let p = unmet-not (sized input && consistent input) 11 (cause (eqb s 0) Refusal.nobody ∷ []) e in
    let both = and_both (sized input) (consistent input) p.0 in
    let none = unmet (eqb s 0) 12 [] p.1 in
    record {
      whole = both.0;
      some = omega (arith, eqb-false s 0 none.0);
      fewer =
          sum_mono (days_in input) (rolled_back input) (taken_part input)
          (λ day lo hi. leb-true (rolled_back input day) (taken_part input day) (every-at (days_in input) (consistent_day input) both.1 day lo hi));
    }

-- ---- what is printed
module _ (input : List ℕ) where
  pub statement-accepted : refusal input ≡ 0 → statement input ≡ day_lines input (days_in input) ++ last_line (sums input)
  unfolding statement
  statement-accepted e = rw (e) refl

  pub statement-refused : (refusal input ≡ 0 → ⊥) → statement input ≡ line (refusal input) []
  unfolding statement
  statement-refused h = rw (ne_eqb (refusal input) 0 h) refl

-- ---- lengths
pub day_short : (day : ℕ) (r : Record) → day ≤ max_days → r.sessions ≤ max_value → r.rollbacks ≤ max_value → length (day_line day r) ≤ longest_line
unfolding day_line
day_short day r d s b =
    line_short 2 day (r.sessions ∷ r.rollbacks ∷ []) 12 (omega arith)
    (spaced-longer 4 r.sessions (r.rollbacks ∷ []) 6 (omega arith) (spaced-longer 4 r.rollbacks [] 0 (omega arith) spaced-none))

pub last_short : (r : Record) → 1 ≤ r.sessions → r.rollbacks ≤ r.sessions → r.sessions ≤ max_days * max_value → length (last_line r) ≤ longest_last
unfolding last_line
last_short r some few most =
    let q = rate r.rollbacks r.sessions in
    line_short 7 r.sessions (r.rollbacks ∷ q ∷ []) 14 (omega arith)
    (spaced-longer 7 r.rollbacks (q ∷ []) 5 (omega arith) (spaced-longer 3 q [] 0 (omega (arith, rate_small r.rollbacks r.sessions some few)) spaced-none))

pub refusal_short : (n : ℕ) → n < 256 → length (line n []) ≤ 4
refusal_short n h = line_short 2 n [] 0 (omega arith) spaced-none

-- what the code that judges a list goes by
pub ruleset causes_of = (not-sized, not-consistent, no_sessions, some-sessions)
