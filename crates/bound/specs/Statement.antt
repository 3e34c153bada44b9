-- What is proved of the machine: its deliveries come to an end. Every delivery makes the potential fall, and the potential is bounded by a formula of the numbers of sessions, items and messages.
use Rattle.std.specs.Prelude.{◌≡◌, Bool, false, true, ◌+◌, ◌≤◌, ℕ, length}
use Rattle.deadlock.specs.Machine.{Call, deliver_to_item, deliver_to_session, Laws, move, no_entry, of_machine, release_call, reopen, request_call, Rules, State, take_first, Taken, taken}
use Rattle.deadlock.specs.Invariant.{Invariant}
use Rattle.bound.specs.Formula.{delivery_bound}
use Rattle.bound.specs.Potential.{potential}

abbrev pub is_taken : Taken → Bool
is_taken no_entry = false
is_taken (taken m l) = true

-- a delivery, either way, for which there is a message
unfoldable pub delivers : State → Call → Bool
delivers s (request_call t x) = false
delivers s (release_call t x) = false
delivers s (deliver_to_item t x) = is_taken (take_first true t x s.mailbox)
delivers s (deliver_to_session t x) = is_taken (take_first false t x s.mailbox)
delivers s (reopen t) = false

-- in a state with the invariant, and so in every state that is reached, a delivery makes the potential fall
abbrev pub Falls : Rules → Type 0
Falls R = (s : State) → Invariant R s → (c : Call) → of_machine R c ≡ true → delivers s c ≡ true → potential R (move R s c) + 1 ≤ potential R s

-- and in every state it is at most what the formula says
abbrev pub Bounded : Rules → Type 0
Bounded R = (s : State) → potential R s ≤ delivery_bound R.S R.M (length s.mailbox)

-- together these bound every list of deliveries from such a state, in any order
pub record DeliveriesEnd (R : Rules) : Type 0 where
  pub falls : Falls R
  pub bounded : Bounded R

abbrev pub Statement : Type 0
Statement = (R : Rules) → Laws R → DeliveriesEnd R

-- the bound in numbers
abbrev pub SmallBound : Type 0
SmallBound = (S M n : ℕ) → S ≤ 64 → M ≤ 64 → n ≤ 4096 → delivery_bound S M n ≤ 1000000000000000
