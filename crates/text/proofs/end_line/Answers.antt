-- `end_line` meets its contract: the line feed is written right behind the numbers.
use native.Mathlib.Omega.{arith}
use mathlib.Core.List.{[], ◌∷◌}
use lib.ListN.{length-append}
use Rattle.text.specs.Text.{line_feed, spaced}
use Rattle.text.proofs.Laws.{set_then}
use Rattle.text.proofs.end_line.Goals as goal

pub returns : goal.returns
returns c =
    let a = c.args in
    let p = c.put_spaced-next.ensures in
    let len = length-append (spaced a.numbers.now) (line_feed ∷ []) in
    (set_then a.out.now a.at (spaced a.numbers.now) line_feed (omega arith) p.0 p.1, omega arith)
