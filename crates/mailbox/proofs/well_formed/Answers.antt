-- `well_formed` meets its contract: the entries first, then the two runs of zeros.
use mathlib.Core.Path.{refl, sym, ◌∙◌}
use native.Mathlib.Omega.{arith}
use borrow.Author.Tests.{le-leb, lt-leb}
use Rattle.mailbox.proofs.Tests.{whole-test}
use Rattle.mailbox.proofs.well_formed.Goals.{then-well_formed, else-well_formed}
use Rattle.mailbox.proofs.well_formed.Goals as goal

pub returns-then-n-c : goal.returns-then-n-c
returns-then-n-c c =
    let a = c.args in
    sym (whole-test a.sessions a.items a.m.now c.capacity-c.ensures c.count-n.ensures ∙ rw (lt-leb _ _ c.if-n-c.true) refl)

pub returns-then-is_zero : goal.returns-then-is_zero
returns-then-is_zero c =
    let a = c.args in
    let test = whole-test a.sessions a.items a.m.now c.capacity-c.ensures c.count-n.ensures in
    elim c.if-well_formed.branch [
      | then-well_formed w ↦
          rw (c.is_zero-then-is_zero.ensures, c.body_place.ensures)
          (sym (test ∙ rw (le-leb _ _ c.if-n-c.false, ← c.route_place.ensures, ← c.well_formed-2.ensures, w.if-well_formed.true, ← w.route_place-then-well_formed.ensures, ← w.is_zero.ensures, ← w.value-is, c.if-is_zero.true) refl))
      | else-well_formed w ↦ grind (arith, w.value-is, c.if-is_zero.true)
    ]

pub returns-else-is_zero : goal.returns-else-is_zero
returns-else-is_zero c =
    let a = c.args in
    let test = whole-test a.sessions a.items a.m.now c.capacity-c.ensures c.count-n.ensures in
    c.if-is_zero.false
    ∙ sym (test ∙ elim c.if-well_formed.branch [
      | then-well_formed w ↦
          rw (le-leb _ _ c.if-n-c.false, ← c.route_place.ensures, ← c.well_formed-2.ensures, w.if-well_formed.true, ← w.route_place-then-well_formed.ensures, ← w.is_zero.ensures, ← w.value-is, c.if-is_zero.false) refl
      | else-well_formed w ↦ rw (le-leb _ _ c.if-n-c.false, ← c.route_place.ensures, ← c.well_formed-2.ensures, w.if-well_formed.false) refl
    ])
