-- What is claimed of the texts of cycles holds.
use mathlib.Core.Path.{◌≡◌, ap}
use mathlib.Core.List.{List}
use mathlib.Core.Logic.{◌≢◌}
use Prim.Native.Nat.{ℕ, ◌≤◌}
use native.Mathlib.Omega.{arith}
use Rattle.table.specs.Layout.{Formed, sessions_of}
use Rattle.table.proofs.Laws.{senior-total}
use Rattle.waits.specs.Waits.{reached}
use Rattle.waits.specs.OnTable.{waits_at, waits_for, cycle_length}
use Rattle.waits.proofs.Reached.{positive_on-cycle}
use Rattle.waits.proofs.Leaders.{cycle-same}
use Rattle.waits.proofs.Laws.{graph}
use Rattle.cycletext.specs.Text.{lines}
use Rattle.cycletext.specs.OnTable.{text}
use Rattle.cycletext.specs.Statement.{Texts}
use Rattle.cycletext.proofs.Reading.{reads_back, differ}
use Rattle.cycletext.proofs.Longest.{fits}

one-text : (table : List ℕ) → Formed table → (t k : ℕ) → 1 ≤ t → cycle_length table t ≢ 0 → text table (reached (waits_for table) k t) ≡ text table t
one-text table f t k low on =
    let lies = positive_on-cycle (waits_for table) (sessions_of table) t (omega arith) in
    ap lines (cycle-same (graph table f) (senior-total table f.formed) t low lies k (waits_at table))

pub theorem : Texts
theorem = record { reads_back = reads_back; differ = differ; one-text = one-text; fits = fits }
