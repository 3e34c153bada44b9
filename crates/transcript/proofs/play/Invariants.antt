-- `play` meets its contract. The invariant: what is written and what is still to be printed make the transcript.
use mathlib.Core.Path.{◌≡◌}
use lib.ListN.{length}
use Rattle.transcript.proofs.Playing.{Played}
use Rattle.transcript.proofs.play.Given as goal

abbrev pub invariant-loop-k : goal.invariant-loop-k
invariant-loop-k l =
    (length l.table ≡ length l.initial.table) × (length l.mail ≡ length l.initial.mail) × Played l.script.input.now l.initial.out l.table l.mail l.out l.tally l.at l.k
