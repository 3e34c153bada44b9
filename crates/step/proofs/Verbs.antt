-- Laws of the numbers of the verbs.
use Prim.Native.Nat.{◌≤◌}
use native.Mathlib.Omega.{arith}
use Rattle.step.specs.declared.Verb.{Verb}
use Rattle.step.specs.declared.Verb.TheVariants.{Request, Release, DeliverToItem, DeliverToSession}
use Rattle.step.specs.Verb.{verb_number}

pub verb-bounds : (v : Verb) → (1 ≤ verb_number v) × (verb_number v ≤ 4)
verb-bounds Request = (omega arith, omega arith)
verb-bounds Release = (omega arith, omega arith)
verb-bounds DeliverToItem = (omega arith, omega arith)
verb-bounds DeliverToSession = (omega arith, omega arith)
