-- Turn after turn the rest of the drain is ahead, until it has ended.
use mathlib.Core.Path.{◌≡◌}
use Prim.Native.Nat.{◌-◌}
use Rattle.step.specs.Step.{Formed}
use Rattle.drain.specs.Parts.{closed_up, GapIn}
use Rattle.lockmgr.specs.Run.{buffers}
use Rattle.lockmgr.specs.Parts.{Ahead}
use Rattle.lockmgr.proofs.deliver_all.Given as goal

abbrev pub invariant-loop-after : goal.invariant-loop-after
invariant-loop-after l =
    (l.gap.from ≡ 0) × GapIn l.gap l.mail × Formed l.table (closed_up l.gap l.mail)
    × Ahead l.limit l.made (buffers l.initial.table l.initial.mail) (buffers l.table (closed_up l.gap l.mail))

-- one more while the drain goes on
abbrev pub decreases-loop-after : goal.decreases-loop-after
decreases-loop-after l = l.limit - l.made
