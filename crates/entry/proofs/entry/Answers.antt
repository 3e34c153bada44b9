-- `entry` meets its contract: its tests, in another order, are those of the definition.
use Rattle.entry.proofs.Cells.{tests_entry}
use Rattle.entry.proofs.entry.Goals as goal

pub returns : goal.returns
returns c =
    let a = c.args in
    rw c.cell.ensures (tests_entry a.s a.x a.m.now a.at a.to)
