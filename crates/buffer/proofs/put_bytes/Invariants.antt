-- `put_bytes` meets its contract. The invariant: the bytes passed are pasted over the buffer.
use mathlib.Core.Path.{◌≡◌}
use lib.Seq.{paste}
use Rattle.buffer.proofs.put_bytes.Given as goal

abbrev pub invariant-loop-i : goal.invariant-loop-i
invariant-loop-i l = l.t ≡ paste l.initial.t l.at l.bytes l.i
