-- `put_spaced` meets its contract. The invariant: the numbers passed are written.
use mathlib.Core.Path.{◌≡◌}
use Prim.Native.Nat.{◌+◌}
use lib.ListN.{length, take}
use Rattle.buffer.specs.Bytes.{splice}
use Rattle.text.specs.Text.{spaced}
use Rattle.text.proofs.put_spaced.Given as goal

abbrev pub invariant-loop-n : goal.invariant-loop-n
invariant-loop-n l =
    (length l.out ≡ length l.initial.out) × (l.out ≡ splice l.initial.out l.at (spaced (take l.n-index l.numbers))) × (l.next ≡ l.at + length (spaced (take l.n-index l.numbers)))
