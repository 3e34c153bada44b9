-- `DayList::of` meets its contract: what is known of an input that is sized.
use mathlib.Core.Path.{refl}
use native.Mathlib.Omega.{arith}
use Rattle.yearly.specs.Input.{days_in}
use Rattle.yearly.proofs.Laws.{days}
use Rattle.yearly.proofs.DayList.of.Goals as goal

pub value-requires : goal.value-requires
value-requires c = let t = c.args.input.now in let d = days t (days_in t) refl c.requires in omega (arith, d.whole)

pub invariant_of-result : goal.invariant_of-result
invariant_of-result c = record { sized = days c.args.input.now c.value.result c.value.ensures.0 c.requires }
