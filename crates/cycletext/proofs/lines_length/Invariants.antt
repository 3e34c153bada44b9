-- `lines_length` meets its contract. The invariant: the lines counted and those of the waits left are all.
use mathlib.Core.Path.{◌≡◌}
use Prim.Native.Nat.{◌+◌, ◌*◌, ◌≤◌}
use lib.ListN.{length}
use Rattle.cycletext.specs.Text.{lines}
use Rattle.cycletext.specs.Parts.{longest_line}
use Rattle.cycletext.proofs.Round.{rest}
use Rattle.cycletext.proofs.lines_length.Given as goal

abbrev pub invariant-loop-w : goal.invariant-loop-w
invariant-loop-w l =
    (l.length + length (lines (rest l.w-iterator)) ≡ length (lines (rest l.fn.round)))
    × (l.length + length (rest l.w-iterator) * longest_line ≤ 255 * longest_line)
