-- `put_line` meets its contract: the first number, and the rest of the line right behind it.
use native.Mathlib.Omega.{arith}
use lib.ListN.{length-append}
use Rattle.text.specs.Text.{decimal, rest}
use Rattle.text.proofs.Laws.{splice_then}
use Rattle.text.proofs.put_line.Goals as goal

pub returns : goal.returns
returns c =
    let a = c.args in
    let p = c.put_decimal-next.ensures in
    let e = c.end_line.ensures in
    let len = length-append (decimal a.first) (rest a.others.now) in
    (splice_then a.out.now a.at (decimal a.first) (rest a.others.now) (omega arith) p.0 p.1 e.0, omega (arith, p.1, e.1))
