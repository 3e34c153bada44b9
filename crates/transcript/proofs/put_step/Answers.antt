-- `put_step` meets its contract: a line of nine numbers.
use mathlib.Core.Path.{◌≡◌}
use native.Mathlib.Omega.{arith}
use Rattle.std.proofs.Common.{rules}
use Rattle.std.proofs.lemmas.List.{same_lists}
use Rattle.transcript.specs.Transcript.{step_line}
use Rattle.tally.specs.Steps.{step_of}
use Rattle.transcript.proofs.Lines.{numbers, step_short}
use Rattle.transcript.proofs.put_step.Goals.{After-map-numbers}
use Rattle.transcript.proofs.put_step.Goals as goal

the-numbers : (c : After-map-numbers) → c.map-numbers.result ≡ numbers (step_of c.args.c) c.args.a
the-numbers c = same_lists _ _ c.map-numbers.ensures.items.long (λ k d h. let at = c.map-numbers.ensures.items.at k d d (omega (arith, h, c.map-numbers.ensures.items.long)) in search (rules, at))

pub put_line-requires : goal.put_line-requires
unfolding step_line
put_line-requires c =
    let a = c.args in
    let e = the-numbers (goal.at.put_line-requires c).After-map-numbers in
    rw e (omega (arith, step_short a.index (step_of a.c) a.a c.requires.0 (omega arith) (omega arith) (omega arith) (omega arith) (omega arith) (omega arith) (omega arith) (omega arith)))

pub returns : goal.returns
unfolding step_line
returns c =
    let a = c.args in
    let e = rw (the-numbers (goal.at.returns c).After-map-numbers) at c.put_line.ensures in
    (e.0, e.1, omega (arith, e.1, step_short a.index (step_of a.c) a.a c.requires.0 (omega arith) (omega arith) (omega arith) (omega arith) (omega arith) (omega arith) (omega arith) (omega arith)))
