-- `first` meets its contract. The invariant: the entries passed are not on the route.
use mathlib.Core.Path.{◌≡◌, refl}
use native.Mathlib.Omega.{arith}
use Rattle.lists.specs.Lists.{every_below}
use Rattle.lists.proofs.Laws.{below_more}
use Rattle.entry.proofs.first.Goals as goal

pub passed-by_item-requires : goal.passed-by_item-requires
unfolding every_below
passed-by_item-requires c = (c.requires, c.thrice-skips.ensures, omega arith, refl)

pub loop-i-preserved : goal.loop-i-preserved
loop-i-preserved c = (omega arith, rw (below_more, c.loop-i.invariant.1, ← c.off.ensures, c.if-not-off.false) refl)

pub returns : goal.returns
returns c =
    let end : c.loop-i.i ≡ c.args.n = omega arith in
    rw (← end) c.loop-i.invariant.1
