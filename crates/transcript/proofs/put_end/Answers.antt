-- `put_end` meets its contract: the word, and the rest of the line right behind it.
use native.Mathlib.Omega.{arith}
use mathlib.Core.List.{[], ◌∷◌}
use lib.ListN.{length-append}
use Rattle.text.specs.Text.{ascii, rest}
use Rattle.text.proofs.Laws.{splice_then}
use Rattle.transcript.specs.Transcript.{end_line}
use Rattle.tally.specs.Steps.{tally_of}
use Rattle.transcript.proofs.Lines.{end_short}
use Rattle.transcript.proofs.put_end.Goals as goal

pub end_line-requires : goal.end_line-requires
end_line-requires c =
    let a = c.args in
    let p = c.put_bytes-next in
    let short = end_short a.left (tally_of a.t) c.requires.0 c.requires.1 c.requires.2 c.requires.3 in
    omega (arith, p.ensures.1, p.auto.t)

pub returns : goal.returns
unfolding end_line ascii
returns c =
    let a = c.args in
    let p = c.put_bytes-next in
    let e = c.end_line in
    let y = tally_of a.t in
    let l = a.left ∷ y.closed ∷ y.declared ∷ y.rolled_back ∷ [] in
    let len = length-append (ascii "end") (rest l) in
    let short = end_short a.left y c.requires.0 c.requires.1 c.requires.2 c.requires.3 in (
      splice_then a.out.now a.at (ascii "end") (rest l) (omega arith) p.ensures.0 p.ensures.1 e.ensures.0,
      omega (arith, p.ensures.1, e.ensures.1),
      omega (arith, p.ensures.1, e.ensures.1),
    )
