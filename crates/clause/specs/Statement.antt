-- The clause: what holds of a lock manager (01: desk) that was started, after every list of calls, in any order, refused ones included. RULES is docs/RULES.md.
use Rattle.std.specs.Prelude.{ℕ, ◌+◌, ◌≤◌, ◌≡◌, Bool, false, ◌&&◌, List, [], ◌∷◌, ◌≢◌}
use Rattle.lists.specs.Lists.{between}
use Rattle.mailbox.specs.Layout as Mail
use Rattle.table.specs.Layout as Table
use Rattle.waits.specs.Waits
use Rattle.waits.specs.OnTable.{waits_for, cycle_length, cycles}
use Rattle.step.specs.Step as Step
use Rattle.lockmgr.specs.Calls as Calls
use Rattle.step.specs.Step.{Formed}
use Rattle.lockmgr.specs.Calls.{Config}
use Rattle.lockmgr.specs.Run.{Buffers, buffers, Done, rolls_back, one}
use Rattle.lockmgr.specs.History.{Call, after, steps}

-- what start leaves in the two buffers
unfoldable pub opened : Config → List ℕ → List ℕ → Buffers
opened c table mail = let r = Calls.start c table mail in buffers r.table r.mail

-- no message is on its way
abbrev pub EmptyMail : Buffers → Type 0
EmptyMail b = Mail.count_of b.mail ≡ 0

-- t is one of S sessions
abbrev pub IsSession : ℕ → ℕ → Type 0
IsSession S t = (1 ≤ t) × (t ≤ S)

-- cycles closed, the sum of the closed fields: RULES 9.3
unfoldable pub closed : List Done → ℕ
closed [] = 0
closed (d ∷ l) = d.result.answer.closed + closed l

-- a delivery that brings a session from another stage to stage 6: RULES 9.4
abbrev pub rollback : Done → Bool
rollback d = between Step.deliver_to_item Step.deliver_to_session d.verb && rolls_back d.session d.before.table d.result.table

unfoldable pub rolled_back : List Done → ℕ
rolled_back [] = 0
rolled_back (d ∷ l) = one (rollback d) + rolled_back l

-- the session reached from t by n waits in a table, or 0
abbrev pub reached : List ℕ → ℕ → ℕ → ℕ
reached table n t = Waits.reached (waits_for table) n t

-- initiator i lies on a cycle of the table, no member of it is senior to i, v is a member, and no member is junior to v, all by rank
pub record TrueDeclaration (table : List ℕ) (v i : ℕ) : Type 0 where
  pub known : IsSession (Table.sessions_of table) i
  pub on-cycle : cycle_length table i ≢ 0
  pub most-senior : (n : ℕ) → Table.senior table (reached table n i) i ≡ false
  pub member : (n : ℕ) × (reached table n i ≡ v)
  pub most-junior : (n : ℕ) → Table.senior table v (reached table n i) ≡ false

-- if a step answers a victim and an initiator other than 0, the declaration is true in the table which it leaves
abbrev pub DeclaresTruly : Done → Type 0
DeclaresTruly d = d.result.answer.victim ≢ 0 → d.result.answer.initiator ≢ 0 → TrueDeclaration d.result.table d.result.answer.victim d.result.answer.initiator

-- every declaration is true
abbrev pub DeclarationsTrue : List Done → Type 0
DeclarationsTrue [] = Unit {0}
DeclarationsTrue (d ∷ l) = DeclaresTruly d × DeclarationsTrue l

-- when the mail is empty: cycles closed = sessions rolled back, no cycle stands, and report answers 0 for every session
pub record Settled (S : ℕ) (b : Buffers) (calls : List Call) : Type 0 where
  pub counts : closed (steps b calls) ≡ rolled_back (steps b calls)
  pub none-stands : cycles (after b calls).table ≡ 0
  pub reports : (t : ℕ) → IsSession S t → Calls.report t (after b calls).table ≡ record { refusal = 0; length = 0 }

-- both buffers are well-formed, so that 3 and 4 are never answered, and what start was given stands in them
pub record WellFormed (c : Config) (b : Buffers) : Type 0 where
  pub formed : Formed b.table b.mail
  pub config : Table.config_of b.table ≡ c.kept
  pub capacity : Mail.capacity_of b.mail ≡ c.capacity

pub record Holds (c : Config) (b : Buffers) (calls : List Call) : Type 0 where
  pub settled : EmptyMail (after b calls) → Settled c.kept.sessions b calls
  pub declarations : DeclarationsTrue (steps b calls)
  pub formed : WellFormed c (after b calls)

-- for every lock manager that start accepts, whatever the buffers held before, and every list of its calls
abbrev pub Clause : Type 0
Clause = (c : Config) (table mail : List ℕ) → (Calls.start c table mail).refusal ≡ 0 → (calls : List Call) → Holds c (opened c table mail) calls
