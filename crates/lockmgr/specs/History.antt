-- A list of calls, each given the table and mail as the one before left them: what it leaves, and the single steps that it is made of.
use Rattle.std.specs.Prelude.{ℕ, List, [], ◌∷◌, ◌++◌}
use Rattle.lockmgr.specs.Calls as Calls
use Rattle.lockmgr.specs.Run.{Step, Buffers, buffers, Done, done, left}
use Rattle.lockmgr.specs.Drain.{drain_steps}

-- a call: a step with any verb, session and item, a report on any session, a drain with any limit, or the reopening of any session
pub data Call : Type 0 where
  step : ℕ → ℕ → ℕ → Call
  report : ℕ → Call
  drain : ℕ → Call
  reopen : ℕ → Call

-- the single steps that a call is made of, in their order: a report and a reopening make none, a drain is its deliveries
unfoldable pub steps_of : Buffers → Call → List Step
steps_of b (step verb t x) = record { verb = verb; session = t; item = x } ∷ []
steps_of b (report t) = []
steps_of b (drain limit) = drain_steps limit b
steps_of b (reopen t) = []

-- what a call leaves: what its steps leave, and a reopening its own table
unfoldable pub leaves : Buffers → Call → Buffers
leaves b (step verb t x) = left b (steps_of b (step verb t x))
leaves b (report t) = b
leaves b (drain limit) = left b (steps_of b (drain limit))
leaves b (reopen t) = buffers (Calls.reopen t b.table b.mail).table b.mail

-- what a list of calls leaves, and its single steps, done
unfoldable pub after : Buffers → List Call → Buffers
after b [] = b
after b (c ∷ l) = after (leaves b c) l

unfoldable pub steps : Buffers → List Call → List Done
steps b [] = []
steps b (c ∷ l) = done b (steps_of b c) ++ steps (leaves b c) l
