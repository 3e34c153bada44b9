-- `Session::stored_probes` meets its contract. The invariant: behind what was given stand the probes so far, and those to come are left.
use mathlib.Core.Path.{◌≡◌}
use mathlib.Core.List.{◌++◌}
use Prim.Native.Nat.{◌+◌, ◌≤◌}
use lib.ListN.{length, drop}
use Rattle.session.specs.Rules.{probes_from}
use Rattle.session.proofs.Session.stored_probes.Given as goal

abbrev pub invariant-loop-i : goal.invariant-loop-i
invariant-loop-i l =
    (length l.out ≤ 1 + l.i) × (l.out ++ probes_from l.x (l.i + 1) (drop l.i l.j-items) ≡ l.initial.out ++ probes_from l.x 1 l.j-items)
