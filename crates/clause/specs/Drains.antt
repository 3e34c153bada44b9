-- What holds of a drain. RULES is docs/RULES.md.
use Rattle.std.specs.Prelude.{ℕ, ◌≤◌, ◌<◌, ◌≡◌, Bool, true, ◌&&◌, List, [], ◌∷◌, map, ◌≢◌, eqb, length}
use Rattle.lists.specs.Lists.{all_of}
use Rattle.mailbox.specs.Layout as Mail
use Rattle.step.specs.Step.{is_delivery}
use Rattle.lockmgr.specs.Calls as Calls
use Rattle.lockmgr.specs.Calls.{Config}
use Rattle.lockmgr.specs.Run.{Step, Buffers, buffers, Done, done}
use Rattle.lockmgr.specs.Drain.{limited, drain_steps, DrainResult, drain}
use Rattle.lockmgr.specs.History
use Rattle.lockmgr.specs.History.{Call, after, steps}
use Rattle.bound.specs.Formula.{delivery_bound}
use Rattle.clause.specs.Statement.{opened}

-- a step as a call
abbrev pub call_of : Step → Call
call_of c = History.step c.verb c.session c.item

abbrev pub is_accepted : Done → Bool
is_accepted d = eqb d.result.answer.refusal 0

-- a step that is a delivery and is not refused, and a list of such steps
abbrev pub is_delivered : Done → Bool
is_delivered d = is_delivery d.verb && is_accepted d

abbrev pub AllDelivered : Buffers → List Step → Type 0
AllDelivered b l = all_of is_delivered (done b l) ≡ true

-- a drain of two buffers
abbrev pub drain_of : ℕ → Buffers → DrainResult
drain_of limit b = drain limit b.table b.mail

-- on any two buffers a drain is its single deliveries: made one by one, as calls of their own, they leave the same, and all of them are accepted: RULES 9.9
pub record IsSteps (limit : ℕ) (b : Buffers) : Type 0 where
  pub made : (drain_of limit b).answer.made ≡ length (drain_steps limit b)
  pub left : buffers (drain_of limit b).table (drain_of limit b).mail ≡ after b (map call_of (drain_steps limit b))
  pub same_left : after b (History.drain limit ∷ []) ≡ after b (map call_of (drain_steps limit b))
  pub same-steps : steps b (History.drain limit ∷ []) ≡ steps b (map call_of (drain_steps limit b))
  pub accepted : all_of is_accepted (done b (drain_steps limit b)) ≡ true

abbrev pub DrainIsSteps : Type 0
DrainIsSteps = (limit : ℕ) (b : Buffers) → IsSteps limit b

-- whatever its limit, a drain makes at most as many deliveries as the formula says, and a limit above that never ends it: RULES 9.10
pub record DrainEnds (c : Config) (b : Buffers) (limit : ℕ) : Type 0 where
  pub bounded : (drain_of limit b).answer.made ≤ delivery_bound c.kept.sessions c.kept.items (Mail.count_of b.mail)
  pub ends : delivery_bound c.kept.sessions c.kept.items (Mail.count_of b.mail) < limit → (drain_of limit b).answer.ending ≢ limited

-- for every lock manager that start accepts, after every list of its calls
abbrev pub DrainsEnd : Type 0
DrainsEnd = (c : Config) (table mail : List ℕ) → (Calls.start c table mail).refusal ≡ 0 → (calls : List Call) (limit : ℕ) → DrainEnds c (after (opened c table mail) calls) limit

-- the formula in numbers: at most 10^15 for any mail that fits
abbrev pub BoundSmall : Type 0
BoundSmall = (c : Config) (table mail : List ℕ) → (Calls.start c table mail).refusal ≡ 0 → (n : ℕ) → n ≤ c.capacity → delivery_bound c.kept.sessions c.kept.items n ≤ 1000000000000000
