-- `off` meets its contract: what was not looked at does not matter.
use mathlib.Core.Path.{refl, sym, ◌∙◌}
use Rattle.entry.specs.Cells.{differs}
use native.Mathlib.Omega.{arith}
use borrow.Author.Tests.{eq-eqb, ne_eqb}
use Rattle.entry.proofs.off.Goals.{then-m-at, else-m-at}
use Rattle.entry.proofs.off.Goals as goal

pub returns-then-m-at-2 : goal.returns-then-m-at-2
unfolding differs
returns-then-m-at-2 c =
    elim c.if-m-at.branch [
      | then-m-at w ↦ rw (w.value-is, ne_eqb _ _ w.if-m-at.true) refl
      | else-m-at w ↦ rw (c.if-m-at-2.true, eq-eqb _ _ w.if-m-at.false, sym w.value-is ∙ c.if-m-at-2.true) refl
    ]

pub returns-else-m-at-2 : goal.returns-else-m-at-2
unfolding differs
returns-else-m-at-2 c =
    elim c.if-m-at.branch [
      | then-m-at w ↦ grind (arith, w.value-is, c.if-m-at-2.false)
      | else-m-at w ↦ rw (eq-eqb _ _ w.if-m-at.false, sym w.value-is ∙ c.if-m-at-2.false) refl
    ]
