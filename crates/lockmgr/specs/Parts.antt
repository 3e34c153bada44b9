-- What the parts of a drain ask of each other and leave. No part of the promise.
use Rattle.std.specs.Prelude.{ℕ, ◌+◌, ◌-◌, ◌≤◌, ◌≡◌, cond, ◌&&◌, List, eqb, ltb, length, Result, Ok, Err}
use Rattle.drain.specs.declared.Gap.{Gap}
use Rattle.lockmgr.specs.declared.Ending.{Ending}
use Rattle.lockmgr.specs.Ending.{ending_number}
use Rattle.lockmgr.specs.Run.{Buffers, buffers, done_on, left_by, left}
use Rattle.lockmgr.specs.Drain.{oldest, limited, ending, deliveries}

-- a turn of a drain: why it ends here, or 0 where a delivery was made, how many were made so far, and what is left
pub record Turned : Type 0 where
  pub ending : ℕ
  pub made : ℕ
  pub left : Buffers

abbrev pub turned : ℕ → ℕ → List ℕ → List ℕ → Turned
turned n made table mail = record { ending = n; made = made; left = buffers table mail }

-- a turn that the code makes: the gap after a delivery, or why the drain ends
abbrev pub turn_ending : Result Gap Ending → ℕ
turn_ending (Ok h) = 0
turn_ending (Err e) = ending_number e

abbrev pub turn_made : ℕ → Result Gap Ending → ℕ
turn_made made (Ok h) = made + 1
turn_made made (Err e) = made

abbrev pub turn_gap : Gap → Result Gap Ending → Gap
turn_gap g (Ok h) = h
turn_gap g (Err e) = g

-- a delivery is made where one more is allowed and nothing but the limit could end the drain
abbrev pub turn_of : ℕ → ℕ → Buffers → Turned
turn_of limit made b =
    cond (ltb made limit && eqb (ending b) limited) (record { ending = 0; made = made + 1; left = left_by (done_on b (oldest b)) }) (record { ending = ending b; made = made; left = b })

-- after j deliveries of a drain from one state to another the rest of it is ahead
pub record Ahead (limit j : ℕ) (from to : Buffers) : Type 0 where
  pub allowed : j ≤ limit
  pub made : length (deliveries limit from) ≡ j + length (deliveries (limit - j) to)
  pub left : left from (deliveries limit from) ≡ left to (deliveries (limit - j) to)

-- all j deliveries of a drain are made
pub record Ended (limit j n : ℕ) (from to : Buffers) : Type 0 where
  pub made : length (deliveries limit from) ≡ j
  pub left : left from (deliveries limit from) ≡ to
  pub ending : ending to ≡ n
