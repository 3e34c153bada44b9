-- `sums` meets its contract. The invariant: the sums of the days passed.
use mathlib.Core.Path.{◌≡◌}
use Prim.Native.Nat.{ℕ, suc, ◌*◌, ◌≤◌}
use Rattle.lists.specs.Lists.{sum_up_to}
use Rattle.yearly.specs.Input.{taken_part, rolled_back}
use Rattle.yearly.specs.Parts.{max_value}
use Rattle.yearly.proofs.DayList.sums.Given as goal

abbrev pub invariant-loop-day : goal.invariant-loop-day
invariant-loop-day l =
    (k : ℕ) × (l.day ≡ suc k) × (k ≤ l.self.n)
    × (l.sum.sessions ≡ sum_up_to k (taken_part l.self.input.now)) × (l.sum.rollbacks ≡ sum_up_to k (rolled_back l.self.input.now))
    × (l.sum.sessions ≤ k * max_value) × (l.sum.rollbacks ≤ k * max_value)
