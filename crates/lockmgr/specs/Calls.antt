-- The calls on bytes (01: desk): from the arguments and the lent buffers, the answer and the buffers after. RULES is docs/RULES.md.
-- T is the session and X the item that a call names; S, M and C are read from the buffers.
use Rattle.std.specs.Prelude.{ℕ, Bool, cond, not, ◌&&◌, List, [], ◌∷◌, ◌++◌, eqb, length}
use Rattle.lists.specs.Lists.{between}
use Rattle.message.specs.Limits.{max_sessions, max_items}
use Rattle.session.specs.Seniority
use Rattle.mailbox.specs.Layout as Mail
use Rattle.table.specs.Layout as Table
use Rattle.waits.specs.OnTable.{cycle_length}
use Rattle.refusal.specs.Refusal
use Rattle.refusal.specs.Refusal.{Cause, cause, first}
use Rattle.step.specs.Step.{Stepped, request, deliver_to_session, unless, acted}
use Rattle.reopen.specs.Reopening as Reopening
use Rattle.reopen.specs.Reopening.{Reopened, reopen_causes}
use Rattle.cycletext.specs.OnTable.{Described, text_by, text_causes_by, unless_refused}
use Rattle.lockmgr.specs.declared.Cycle.{Cycle}

-- ---- start
-- what start is given: what the table keeps of it, and C
pub record Config : Type 0 where
  pub kept : Table.Config
  pub capacity : ℕ

abbrev pub config : ℕ → ℕ → ℕ → List ℕ → Config
config S M C ranks = record { kept = Table.config S M ranks; capacity = C }

-- what start answers, and both buffers after
pub record Started : Type 0 where
  pub refusal : ℕ
  pub table : List ℕ
  pub mail : List ℕ

abbrev pub start_result : ℕ → List ℕ → List ℕ → Started
start_result refusal table mail = record { refusal = refusal; table = table; mail = mail }

-- S, M and C are within their bounds, and the three lengths are theirs: RULES 8.2
abbrev pub sizes_fit : Config → List ℕ → List ℕ → Bool
sizes_fit c table mail =
    between 1 max_sessions c.kept.sessions && between 1 max_items c.kept.items && between 1 Mail.max_capacity c.capacity
    && eqb (length c.kept.ranks) c.kept.sessions
    && eqb (length table) (Table.size c.kept.sessions c.kept.items)
    && eqb (length mail) (Mail.size c.capacity)

-- the causes of a start, in their order: RULES 8.0
unfoldable pub start_refusal : Config → List ℕ → List ℕ → ℕ
start_refusal c table mail =
    first
    (cause (not (sizes_fit c table mail)) Refusal.bad_size
    ∷ cause (not (Seniority.well_formed c.kept.ranks)) Refusal.bad_ranks
    ∷ [])

-- what start writes: RULES 4.3
unfoldable pub start : Config → List ℕ → List ℕ → Started
start c table mail =
    cond (eqb (start_refusal c table mail) 0)
    (start_result 0 (Table.started c.kept) (Mail.mail_bytes c.capacity []))
    (start_result (start_refusal c table mail) table mail)

-- ---- step
-- the causes that are judged first, in their order: those of the verb, the buffers and the numbers
abbrev pub buffer_causes : List ℕ → List ℕ → List Cause
buffer_causes table mail =
    cause (not (Table.sized table && Mail.sized mail)) Refusal.bad_size
    ∷ cause (not (Table.well_formed table)) Refusal.bad_table
    ∷ cause (not (Mail.well_formed (Table.sessions_of table) (Table.items_of table) mail)) Refusal.bad_mail
    ∷ []

unfoldable pub judged : ℕ → ℕ → ℕ → List ℕ → List ℕ → ℕ
judged verb t x table mail =
    first
    (cause (not (between request deliver_to_session verb)) Refusal.bad_verb
    ∷ (buffer_causes table mail
    ++ (cause (not (between 1 (Table.sessions_of table) t && between 1 (Table.items_of table) x)) Refusal.bad_number ∷ [])))

-- a step that was judged acts, or is refused for a cause of its own; by a seniority, and by that of the table
unfoldable pub step_by : (ℕ → ℕ → Bool) → ℕ → ℕ → ℕ → List ℕ → List ℕ → Stepped
step_by senior verb t x table mail = unless (judged verb t x table mail) table mail (acted senior verb t x table mail)

unfoldable pub step : ℕ → ℕ → ℕ → List ℕ → List ℕ → Stepped
step verb t x table mail = step_by (Table.senior table) verb t x table mail

-- ---- report
-- the report reads the table alone: RULES 4.8
abbrev pub report_causes : ℕ → List ℕ → List Cause
report_causes t table =
    cause (not (Table.sized table)) Refusal.bad_size
    ∷ cause (not (Table.well_formed table)) Refusal.bad_table
    ∷ cause (not (between 1 (Table.sessions_of table) t)) Refusal.bad_number
    ∷ []

unfoldable pub report_refusal : ℕ → List ℕ → ℕ
report_refusal t table = first (report_causes t table)

unfoldable pub report : ℕ → List ℕ → Cycle
report t table =
    cond (eqb (report_refusal t table) 0)
    (record { refusal = 0; length = cycle_length table t })
    (record { refusal = report_refusal t table; length = 0 })

-- ---- reopen
-- the causes behind those of the buffers: the session's number, then whether it may be reopened
abbrev pub session_causes : ℕ → List ℕ → List ℕ → List Cause
session_causes t table mail = cause (not (between 1 (Table.sessions_of table) t)) Refusal.bad_number ∷ reopen_causes t table mail

abbrev pub reopen_refusal : ℕ → List ℕ → List ℕ → ℕ
reopen_refusal t table mail = first (buffer_causes table mail ++ session_causes t table mail)

-- it reads the mail and leaves it: RULES 4.12
unfoldable pub reopen : ℕ → List ℕ → List ℕ → Reopened
reopen t table mail = Reopening.unless_refused (reopen_refusal t table mail) t table

-- ---- cycle text
-- the causes of a report, and those of the text: RULES 4.11
unfoldable pub cycle_text_by : (ℕ → ℕ → Bool) → ℕ → List ℕ → List ℕ → Described
cycle_text_by senior t table buffer =
    unless_refused (first (report_causes t table ++ text_causes_by senior t table buffer)) (text_by senior table t) buffer

unfoldable pub cycle_text : ℕ → List ℕ → List ℕ → Described
cycle_text t table buffer = cycle_text_by (Table.senior table) t table buffer
