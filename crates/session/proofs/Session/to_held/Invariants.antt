-- `Session::to_held` meets its contract. The invariant: the messages so far, with those to come.
use mathlib.Core.Path.{◌≡◌}
use mathlib.Core.List.{◌++◌}
use Rattle.session.specs.Rules.{to_held}
use Rattle.session.proofs.Session.to_held.Given as goal

abbrev pub invariant-loop-y : goal.invariant-loop-y
invariant-loop-y l =
    l.out ++ to_held l.kind l.but l.y-iterator.0 ≡ to_held l.kind l.but l.held
