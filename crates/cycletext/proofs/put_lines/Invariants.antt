-- `put_lines` meets its contract. The invariant: the lines of the waits passed are written, and those of the waits left still fit.
use mathlib.Core.Path.{◌≡◌}
use Prim.Native.Nat.{◌+◌}
use lib.ListN.{length}
use Rattle.buffer.specs.Bytes.{splice}
use Rattle.cycletext.specs.Text.{lines}
use Rattle.cycletext.proofs.Round.{rest}
use Rattle.cycletext.proofs.put_lines.Given as goal

abbrev pub invariant-loop-w : goal.invariant-loop-w
invariant-loop-w l =
    (length l.out ≡ length l.initial.out) × (l.out ≡ splice l.initial.out 0 (lines l.yielded)) × (l.free ≡ length (lines l.yielded))
    × (l.free + length (lines (rest l.w-iterator)) ≡ length (lines (rest l.fn.round)))
