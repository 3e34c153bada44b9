-- What the replay program reads is enough.
use mathlib.Core.Path.{◌≡◌}
use mathlib.Core.List.{List}
use Prim.Native.Nat.{ℕ, ◌<◌}
use native.Mathlib.Omega.{arith}
use lib.ListN.{length}
use Rattle.lists.proofs.Tests.{fails}
use Rattle.program.proofs.Laws.{refused-longer}
use Rattle.transcript.specs.Input.{max_steps, size, well_formed}
use Rattle.transcript.specs.Transcript.{bad, transcript}
use Rattle.transcript.specs.Claims.{Enough}
use Rattle.transcript.proofs.Playing.{known, bad_input}

longer-bad : (input : List ℕ) → size max_steps < length input → transcript input ≡ bad
longer-bad input h = bad_input input (fails (well_formed input) (λ w. let k = known input w in omega (arith, k.whole, k.max-steps)))

pub enough : Enough
enough = refused-longer (size max_steps) transcript bad longer-bad
