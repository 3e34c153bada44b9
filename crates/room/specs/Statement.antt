-- What is proved of the machine: how full its mailbox gets where sessions call at an empty mailbox only.
use Rattle.std.specs.Prelude.{◌≡◌, true, [], ◌≤◌, length}
use Rattle.deadlock.specs.Machine.{Call, Laws, move, of_machine, Rules, start, State}
use Rattle.bound.specs.Statement.{delivers}
use Rattle.room.specs.Capacity.{capacity_bound}

-- the states that are reached by calls at an empty mailbox and by deliveries, in any order
pub data Reached (R : Rules) : State → Type 0 where
  starts : Reached R (start R)
  calls : {s : State} → Reached R s → s.mailbox ≡ [] → (c : Call) → of_machine R c ≡ true → Reached R (move R s c)
  goes_on : {s : State} → Reached R s → (c : Call) → of_machine R c ≡ true → delivers s c ≡ true → Reached R (move R s c)

-- in each of them the messages fit, before a delivery and after it
abbrev pub Statement : Type 0
Statement = (R : Rules) → Laws R → (s : State) → Reached R s → length s.mailbox ≤ capacity_bound R.S R.M
