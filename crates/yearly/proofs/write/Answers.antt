-- `write` meets its contract: a short buffer is left; a refused list is its number; else the statement.
use mathlib.Core.Path.{◌≡◌, sym, ap, ◌∙◌}
use mathlib.Core.List.{List, []}
use Prim.Native.Nat.{ℕ, ◌≤◌}
use native.Mathlib.Omega.{arith}
use lib.ListN.{length}
use Rattle.buffer.specs.Bytes.{splice}
use Rattle.text.specs.Text.{line}
use Rattle.program.proofs.Laws.{at-start_short, at-start-long}
use Rattle.refusal.proofs.Outcome.{number-positive}
use Rattle.yearly.specs.Printed as Printed
use Rattle.yearly.specs.Printed.{longest}
use Rattle.yearly.proofs.Laws.{statement-refused, refusal_short}
use Rattle.yearly.proofs.write.Goals as goal

-- the line of a number with which the list is refused
refused : (input : List ℕ) {cause : ℕ} → cause ≤ 255 → cause ≡ Printed.refusal input → (cause ≡ 0 → ⊥)
    → (length (line cause []) ≤ 4) × (line cause [] ≡ Printed.statement input)
refused input {cause} few e z = (refusal_short cause (omega arith), rw e (sym (statement-refused input (λ n. z (e ∙ n)))))

pub returns-then-out-lt-LONGEST : goal.returns-then-out-lt-LONGEST
returns-then-out-lt-LONGEST c =
    let a = c.args in at-start_short longest (Printed.statement a.input.now) a.out.now (omega (arith, c.if-out-lt-LONGEST.true))

pub put_line-requires : goal.put_line-requires
put_line-requires c =
    let j = c.from-in-Err.ensures ∙ c.from.ensures ∙ c.in-Err.ensures in
    let e = refused c.args.input.now (omega arith) j (λ z. number-positive c.in-Err.cause (sym (c.from-in-Err.ensures ∙ c.from.ensures) ∙ z)) in omega (arith, e.0, c.if-out-lt-LONGEST.false)

pub returns-in-Err : goal.returns-in-Err
returns-in-Err c =
    let a = c.args in
    let w = c.put_line.ensures in
    let j = c.from-in-Err.ensures ∙ c.from.ensures ∙ c.in-Err.ensures in
    let e = refused c.args.input.now (omega arith) j (λ z. number-positive c.in-Err.cause (sym (c.from-in-Err.ensures ∙ c.from.ensures) ∙ z)) in
    at-start-long longest (Printed.statement a.input.now) a.out.now (omega (arith, c.if-out-lt-LONGEST.false)) (omega (arith, e.0, ap length e.1))
    (w.0 ∙ ap (splice a.out.now 0) e.1) (omega (arith, w.1, ap length e.1))

pub returns-in-Ok : goal.returns-in-Ok
returns-in-Ok c =
    let a = c.args in
    let w = c.put_statement.ensures in
    at-start-long longest (Printed.statement a.input.now) a.out.now (omega (arith, c.if-out-lt-LONGEST.false)) (omega (arith, w.1, w.2)) w.0 w.1
