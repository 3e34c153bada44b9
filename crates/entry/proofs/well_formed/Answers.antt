-- `well_formed` meets its contract. The invariant: the entries passed are well-formed.
use mathlib.Core.Path.{refl, sym, ◌∙◌}
use Rattle.lists.proofs.Laws.{below_false, below_more}
use Rattle.entry.proofs.Cells.{form_at}
use native.Mathlib.Omega.{arith}
use Rattle.entry.proofs.well_formed.Goals as goal

pub loop-i-preserved : goal.loop-i-preserved
loop-i-preserved c = (omega arith, rw (below_more, c.loop-i.invariant.1, ← c.entry.ensures, c.if-not-entry.false) refl)

pub returns-then-not-entry : goal.returns-then-not-entry
returns-then-not-entry c =
    let a = c.args in
    let l = c.loop-i in
    sym (below_false a.n l.i (form_at a.m.now a.s a.x a.at a.to) (omega arith) (sym c.entry.ensures ∙ c.if-not-entry.true))
