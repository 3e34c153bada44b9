-- `places` meets its contract. The invariant: the places are those among the items before x.
use mathlib.Core.Path.{◌≡◌}
use Prim.Native.Nat.{◌-◌}
use Rattle.waits.specs.Places.{places_among}
use Rattle.waits.proofs.places.Given as goal

abbrev pub invariant-loop-x : goal.invariant-loop-x
invariant-loop-x l = l.at ≡ places_among (l.x - 1) l.t
