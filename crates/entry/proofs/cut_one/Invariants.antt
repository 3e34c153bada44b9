-- `cut_one` meets its contract. The invariant: what is left, moved down now, makes what it would have made at the start.
use mathlib.Core.Path.{◌≡◌}
use Prim.Native.Nat.{◌+◌, ◌-◌, ◌≤◌}
use lib.ListN.{length}
use Rattle.buffer.proofs.Laws.{moved_down}
use Rattle.entry.proofs.cut_one.Given as goal

abbrev pub invariant-loop-n : goal.invariant-loop-n
invariant-loop-n l =
    (l.n ≤ l.len - 3) × (length l.m ≡ length l.initial.m) × (moved_down l.m (l.from + l.n) 3 (l.len - 3 - l.n) ≡ moved_down l.initial.m (l.from + l.initial.n) 3 (l.len - 3 - l.initial.n))
