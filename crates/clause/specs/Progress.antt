-- Progress: where sessions request, release and are reopened only while the mail is empty, and the mailbox takes 6 S + M + 1 messages, no delivery of a message that is there is refused, and deliveries in any order empty the mail: RULES 9.13. RULES is docs/RULES.md.
use Rattle.std.specs.Prelude.{ℕ, ◌≤◌, ◌<◌, ◌≡◌, false, List, [], ◌∷◌, ◌≢◌, length}
use Rattle.mailbox.specs.Layout as Mail
use Rattle.step.specs.Step.{is_delivery}
use Rattle.lockmgr.specs.Calls as Calls
use Rattle.lockmgr.specs.Calls.{Config}
use Rattle.lockmgr.specs.Run.{Step, Buffers, done_on, left}
use Rattle.lockmgr.specs.Drain.{delivery, empty, full}
use Rattle.lockmgr.specs.History.{Call, step, report, drain, reopen, leaves, after}
use Rattle.bound.specs.Formula.{delivery_bound}
use Rattle.room.specs.Capacity.{capacity_bound}
use Rattle.clause.specs.Statement.{opened, EmptyMail}
use Rattle.clause.specs.Drains.{is_delivered, AllDelivered, drain_of}

-- ---- the rule for callers
-- a request, a release or a reopening that is not refused finds the mail empty; deliveries, drains, reports and refused calls may come at any time
abbrev pub KeepsRule : Buffers → Call → Type 0
KeepsRule b (step verb t x) = is_delivery verb ≡ false → (Calls.step verb t x b.table b.mail).answer.refusal ≡ 0 → EmptyMail b
KeepsRule b (report t) = Unit {0}
KeepsRule b (drain limit) = Unit {0}
KeepsRule b (reopen t) = (Calls.reopen t b.table b.mail).refusal ≡ 0 → EmptyMail b

-- every call of a list does
abbrev pub RuleKept : Buffers → List Call → Type 0
RuleKept b [] = Unit {0}
RuleKept b (c ∷ l) = KeepsRule b c × RuleKept (leaves b c) l

-- ---- what holds then
-- the delivery of entry k of the mail, as a step
abbrev pub delivery_at : Buffers → ℕ → Step
delivery_at b k = delivery (Mail.entry_at b.mail k)

pub record Progress (c : Config) (b : Buffers) : Type 0 where
  -- at most 6 S + M + 1 messages are on their way
  pub few : Mail.count_of b.mail ≤ capacity_bound c.kept.sessions c.kept.items
  -- after any further deliveries, each message that is there can be delivered
  pub accepted : (l : List Step) → AllDelivered b l → (k : ℕ) → k < Mail.count_of (left b l).mail
      → (done_on (left b l) (delivery_at (left b l) k)).result.answer.refusal ≡ 0
  -- there are no more of them than the formula says
  pub bounded : (l : List Step) → AllDelivered b l → length l ≤ delivery_bound c.kept.sessions c.kept.items (Mail.count_of b.mail)
  -- and where none can follow, the mail is empty
  pub emptied : (l : List Step) → AllDelivered b l → ((next : Step) → is_delivered (done_on (left b l) next) ≡ false) → EmptyMail (left b l)
  -- no drain ends at a message that does not fit, and one that is allowed more than the formula says empties the mail
  pub never_full : (limit : ℕ) → (drain_of limit b).answer.ending ≢ full
  pub drained : (limit : ℕ) → delivery_bound c.kept.sessions c.kept.items (Mail.count_of b.mail) < limit → (drain_of limit b).answer.ending ≡ empty

-- for every lock manager that start accepts with room for so many messages, after every list of calls that keeps the rule
abbrev pub Progresses : Type 0
Progresses =
    (c : Config) (table mail : List ℕ) → (Calls.start c table mail).refusal ≡ 0 → capacity_bound c.kept.sessions c.kept.items ≤ c.capacity
    → (calls : List Call) → RuleKept (opened c table mail) calls → Progress c (after (opened c table mail) calls)
