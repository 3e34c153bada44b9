-- Waits and cycles of a table are those of the state that it says.
use mathlib.Core.Path.{◌≡◌, sym, ap, ◌∙◌}
use mathlib.Core.Bool.{not}
use mathlib.Core.List.{List}
use Prim.Native.Nat.{ℕ}
use lib.Dec.{eqb}
use Rattle.mailbox.specs.Entry.{Entry}
use Rattle.table.specs.Layout as Table
use Rattle.waits.specs.Waits
use Rattle.waits.specs.OnTable.{locks, waits_for, cycle_length}
use Rattle.deadlock.specs.Machine
use Rattle.agreement.proofs.WaitsAgree.{reached-agrees, on-cycle-agrees}
use Rattle.lockmgr.specs.Calls.{Config}
use Rattle.clause.proofs.State.{senior_of, next_of, machine_of, state_of, Good, sessions_are, items_are}

module _ {conf : Config} {table : List ℕ} {l : List Entry} (g : Good conf table l) where
  waits-same : waits_for table ≡ Waits.waits_for conf.kept.items (locks table)
  waits-same = ap (λ (n : ℕ). Waits.waits_for n (locks table)) (items_are g)

  length-same : (t : ℕ) → cycle_length table t ≡ Waits.cycle_length (Waits.waits_for conf.kept.items (locks table)) conf.kept.sessions t
  length-same t = ap (λ (f : ℕ → ℕ). Waits.cycle_length f (Table.sessions_of table) t) waits-same ∙ ap (λ (n : ℕ). Waits.cycle_length (Waits.waits_for conf.kept.items (locks table)) n t) (sessions_are g)

  -- the session reached by a number of waits
  pub reached_of : (n t : ℕ) → Machine.reached (machine_of conf) (state_of conf table l) n t ≡ Waits.reached (waits_for table) n t
  reached_of n t =
      reached-agrees conf.kept.sessions conf.kept.items (Table.session table) (locks table) l (senior_of conf) (next_of conf) n t
      ∙ ap (λ (f : ℕ → ℕ). Waits.reached f n t) (sym waits-same)

  -- whether a session lies on a cycle
  pub on-cycle_of : (t : ℕ) → Machine.on_cycle (machine_of conf) (state_of conf table l) t ≡ not (eqb (cycle_length table t) 0)
  unfolding Waits.on_cycle
  on-cycle_of t = on-cycle-agrees conf.kept.sessions conf.kept.items (Table.session table) (locks table) l (senior_of conf) (next_of conf) t ∙ ap (λ (n : ℕ). not (eqb n 0)) (sym (length-same t))
