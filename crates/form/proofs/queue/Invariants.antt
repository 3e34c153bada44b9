-- `queue` meets its contract. The loop's invariant: the sessions passed pass the test, and the mask has their bits and that of the holder.
use mathlib.Core.Path.{◌≡◌}
use mathlib.Core.Bool.{true}
use lib.ListN.{take}
use Rattle.form.proofs.FormLaws.{in_line, Seen}
use Rattle.form.proofs.queue.Given as goal

abbrev pub invariant-loop-v : goal.invariant-loop-v
invariant-loop-v l = (in_line l.h (take l.v-index l.l) ≡ true) × Seen l.h (take l.v-index l.l) l.seen
