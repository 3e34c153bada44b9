-- `Script::read` meets its contract: the test of the input says what is known of it.
use mathlib.Core.Path.{◌≡◌, sym, ap, ◌∙◌}
use mathlib.Core.Bool.{true}
use native.Mathlib.Omega.{arith}
use Rattle.transcript.specs.Input.{well_formed, size}
use Rattle.transcript.proofs.Playing.{known}
use Rattle.transcript.proofs.Script.read.Goals as goal

pub get16-n-requires : goal.get16-n-requires
get16-n-requires c =
    let k = known c.args.input.now (sym c.well_formed-2.ensures ∙ c.if-not-well_formed.false) in
    omega (arith, k.whole)

pub invariant_of-result : goal.invariant_of-result
invariant_of-result c =
    let whole : well_formed c.args.input.now ≡ true = sym c.well_formed-2.ensures ∙ c.if-not-well_formed.false in
    let n = c.get16-n.ensures in
    record { whole = whole; counted = n; sized = (known c.args.input.now whole).whole ∙ ap size (sym n) }
