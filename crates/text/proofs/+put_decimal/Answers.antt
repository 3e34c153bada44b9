-- `put_decimal` meets its contract: the digits before the last are those of a tenth.
use mathlib.Core.Path.{sym, ap, ◌∙◌}
use mathlib.Core.List.{[], ◌∷◌}
use Prim.Native.Nat.{◌/◌, ◌%◌}
use native.Mathlib.Omega.{arith}
use lib.ListN.{length}
use Rattle.buffer.specs.Bytes.{splice}
use Rattle.buffer.proofs.Laws.{set-splice}
use Rattle.text.specs.Text.{digit, decimal}
use Rattle.text.proofs.Laws.{splice_then, decimal_digit, decimal-more, length_decimal_more}
use Rattle.text.proofs.+put_decimal.Goals as goal

pub returns-then-v-lt10 : goal.returns-then-v-lt10
returns-then-v-lt10 t c =
    let a = c.args in
    let small = decimal_digit a.v (omega arith) in
    let len = ap length small in
    (set-splice a.out.now a.at (digit a.v) (omega arith) ∙ ap (splice a.out.now a.at) (sym small), omega arith)

pub returns : goal.returns
returns t c =
    let a = c.args in
    let d = c.put_decimal-next in
    let more = decimal-more a.v (omega arith) in
    let len = length_decimal_more a.v (omega arith) in
    let last = digit (a.v % 10) in (
      splice_then a.out.now a.at (decimal (a.v / 10)) (last ∷ []) (omega arith) d.ensures.0 d.ensures.1 (set-splice d.new.out d.result last (omega arith))
          ∙ ap (splice a.out.now a.at) (sym more),
      omega arith,
    )
