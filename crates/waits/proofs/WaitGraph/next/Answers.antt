-- `next` meets its contract.
use mathlib.Core.Path.{◌∙◌}
use Rattle.waits.proofs.Laws.{waits-at-item, place_of, wait-none, wait-some}
use Rattle.waits.proofs.WaitGraph.next.Goals as goal

pub returns-then-item-eq0 : goal.returns-then-item-eq0
returns-then-item-eq0 c =
    let a = c.args in wait-none a.self.now.table.now a.s (place_of a.self.now.read a.s c.requires c.from-k.ensures) c.if-item-eq0.true

pub holder-requires : goal.holder-requires
holder-requires c =
    let g = c.args.self.now in
    let place = place_of g.read c.args.s c.requires c.from-k.ensures in
    rw (place) (waits-at-item g.table.now g.read.formed c.args.s (λ z. c.if-item-eq0.false (place ∙ z)))

pub returns : goal.returns
returns c =
    let a = c.args in
    wait-some a.self.now.table.now a.s (place_of a.self.now.read a.s c.requires c.from-k.ensures) c.if-item-eq0.false c.holder.ensures
