-- What is claimed of statements, but for what rounding is.
use mathlib.Core.Path.{◌≡◌, refl, sym, ap, ◌∙◌}
use mathlib.Core.List.{List, [], ◌∷◌, ◌++◌, append_assoc, append-nil}
use Prim.Native.Nat.{ℕ, zero, suc, ◌<◌}
use native.Mathlib.Omega.{arith}
use lib.ListN.{length}
use Rattle.lists.specs.Lists.{append_up_to}
use Rattle.lists.proofs.Tests.{fails}
use Rattle.refusal.specs.Refusal
use Rattle.text.specs.Text.{line}
use Rattle.text.specs.Reading.{numbers}
use Rattle.text.proofs.Reading.{numbers-line}
use Rattle.program.proofs.Laws.{refused-longer}
use Rattle.yearly.specs.Input.{days_in, taken_part, rolled_back, max_days, size, sized}
use Rattle.yearly.specs.Rate.{rate}
use Rattle.yearly.specs.Printed.{sums, day_line, day_lines, last_line, statement}
use Rattle.yearly.specs.Claims.{day_numbers, SumsPrinted, RatePrinted, Enough}
use Rattle.yearly.proofs.Rounding.{rounded}
use Rattle.yearly.proofs.Laws.{days, not-sized, accepted, statement-accepted, statement-refused}

-- the numbers of the lines of n days, before others
days-read : (input : List ℕ) (n : ℕ) (k : List ℕ) → numbers (day_lines input n ++ k) ≡ day_numbers input n ++ numbers k
unfolding append_up_to day_line
days-read input zero k = refl
days-read input (suc n) k =
    let now = taken_part input (suc n) ∷ rolled_back input (suc n) ∷ [] in
    ap numbers (append_assoc (day_lines input n) (line (suc n) now) k)
    ∙ days-read input n (line (suc n) now ++ k)
    ∙ ap (λ (l : List ℕ). day_numbers input n ++ l) (numbers-line (suc n) now k)
    ∙ sym (append_assoc (day_numbers input n) (suc n ∷ now) (numbers k))

pub sums-printed : SumsPrinted
unfolding sums last_line numbers
sums-printed input e =
    let r = sums input in
    let now = r.rollbacks ∷ rate r.rollbacks r.sessions ∷ [] in
    ap numbers (statement-accepted input e)
    ∙ days-read input (days_in input) (line r.sessions now)
    ∙ ap (λ (l : List ℕ). day_numbers input (days_in input) ++ l) (ap numbers (sym (append-nil (line r.sessions now))) ∙ numbers-line r.sessions now [])

pub rate-printed : RatePrinted
unfolding sums
rate-printed input e =
    let r = sums input in
    (rate r.rollbacks r.sessions, sums-printed input e, rounded r.rollbacks r.sessions (accepted input e).some)

-- a longer input is refused
longer-refused : (input : List ℕ) → size max_days < length input → statement input ≡ line Refusal.bad_list []
longer-refused input h =
    let e = not-sized input (fails (sized input) (λ w. let d = days input (days_in input) refl w in omega (arith, d.whole, d.few))) in
    statement-refused input (λ z. absurd (omega arith)) ∙ ap (λ (n : ℕ). line n []) e

pub enough : Enough
enough = refused-longer (size max_days) statement (line Refusal.bad_list []) longer-refused
