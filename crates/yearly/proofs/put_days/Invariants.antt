-- `put_days` meets its contract. The invariant: the lines of the days passed are written.
use mathlib.Core.Path.{◌≡◌}
use Prim.Native.Nat.{ℕ, suc, ◌*◌, ◌≤◌}
use lib.ListN.{length}
use Rattle.buffer.specs.Bytes.{splice}
use Rattle.yearly.specs.Printed.{day_lines, longest_line}
use Rattle.yearly.proofs.put_days.Given as goal

abbrev pub invariant-loop-day : goal.invariant-loop-day
invariant-loop-day l =
    (k : ℕ) × (l.day ≡ suc k) × (k ≤ l.days.n) × (length l.out ≡ length l.initial.out)
    × (l.out ≡ splice l.initial.out 0 (day_lines l.days.input.now k)) × (l.at ≡ length (day_lines l.days.input.now k)) × (l.at ≤ longest_line * k)
