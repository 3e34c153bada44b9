-- `put_statement` meets its contract: the lines of the days, and the last line right behind them.
use mathlib.Core.Path.{◌≡◌, refl, sym, ap, ◌∙◌}
use mathlib.Core.List.{List, [], ◌∷◌, ◌++◌}
use Prim.Native.Nat.{ℕ, ◌≤◌, ◌*◌}
use native.Mathlib.Omega.{arith}
use lib.ListN.{length, length-append}
use Rattle.buffer.specs.Bytes.{splice}
use Rattle.text.specs.Text.{line}
use Rattle.text.proofs.Laws.{splice_then}
use Rattle.yearly.specs.declared.Record.{Record}
use Rattle.yearly.specs.Input.{max_days}
use Rattle.yearly.specs.Rate.{rate}
use Rattle.yearly.specs.Printed as Printed
use Rattle.yearly.specs.Printed.{sums, day_lines, last_line, longest_last}
use Rattle.yearly.specs.Parts.{max_value}
use Rattle.yearly.proofs.Laws.{Accepted, accepted, statement-accepted, last_short}
use Rattle.yearly.proofs.put_statement.Goals as goal

-- the sums are those of a list that is not refused
total : {t : List ℕ} {r : Record} → Accepted t → r ≡ sums t → (1 ≤ r.sessions) × (r.rollbacks ≤ r.sessions)
total k e =
    let t = ap (λ (q : Record). q.sessions) e in
    let b = ap (λ (q : Record). q.rollbacks) e in
    (omega (arith, k.some), omega (arith, k.fewer))

-- the last line is short
short : {t : List ℕ} {r : Record} → Accepted t → r ≡ sums t → r.sessions ≤ max_days * max_value → length (last_line r) ≤ longest_last
short {r = r} k e h = last_short r (total k e).0 (total k e).1 h

-- and is the line of these sums
last : {q : ℕ} (r : Record) → q ≡ rate r.rollbacks r.sessions → line r.sessions (r.rollbacks ∷ q ∷ []) ≡ last_line r
unfolding last_line
last r e = rw e refl

pub of-days-requires : goal.of-days-requires
of-days-requires c = (accepted c.args.input.now c.requires.0).whole

pub rate-requires : goal.rate-requires
rate-requires c =
    let r = rw c.of-days.ensures at c.sums-total.ensures in
    let h = total (accepted c.args.input.now c.requires.0) r.0 in (h.0, h.1, r.1)

pub put_line-requires : goal.put_line-requires
put_line-requires c =
    let k = accepted c.args.input.now c.requires.0 in
    let d = c.put_days-at in
    let r = rw c.of-days.ensures at c.sums-total.ensures in
    omega (arith, ap length (last c.sums-total.result c.rate.ensures), short k r.0 r.1, d.ensures.2, d.auto.out, c.of-days.result.sized.few, c.requires.1)

pub returns : goal.returns
returns c =
    let input = c.args.input.now in
    let out = c.args.out.now in
    let k = accepted input c.requires.0 in
    let list = c.of-days.result.sized in
    let r = rw c.of-days.ensures at c.sums-total.ensures in
    let d = c.put_days-at in
    let w = c.put_line.ensures in
    let lines = day_lines c.of-days.result.input.now c.of-days.result.n in
    let end = last_line c.sums-total.result in
    let all : lines ++ end ≡ Printed.statement input = rw (list.count, c.of-days.ensures, r.0) (sym (statement-accepted input c.requires.0)) in
    let few = short k r.0 r.1 in
    let same = last c.sums-total.result c.rate.ensures in
    let line = ap length same in
    let len = length-append lines end in (
      splice_then out 0 lines end (omega (arith, d.ensures.1, d.ensures.2, list.few, c.requires.1)) d.ensures.0 (omega (arith, d.ensures.1)) (w.0 ∙ ap (splice d.new.out d.result) same) ∙ ap (splice out 0) all,
      omega (arith, w.1, d.ensures.1, ap length all),
      omega (arith, w.1, d.ensures.2, list.few),
    )
