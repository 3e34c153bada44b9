-- A session is reopened (02: session numbers used again): when that is allowed, and what it leaves. T is the session. RULES is docs/RULES.md.
use Rattle.std.specs.Prelude.{ℕ, ◌-◌, Bool, cond, not, ◌&&◌, ◌||◌, List, [], ◌∷◌, eqb, get_or}
use Rattle.lists.specs.Lists.{all_of, every, member}
use Rattle.refusal.specs.Refusal
use Rattle.refusal.specs.Refusal.{Cause, cause}
use Rattle.message.specs.Kind
use Rattle.session.specs.Stage
use Rattle.session.specs.declared.Session.{Session}
use Rattle.session.specs.Record.{fresh}
use Rattle.item.specs.declared.Item.{Item}
use Rattle.item.specs.Record.{Lock, unpacked}
use Rattle.mailbox.specs.Entry.{Entry}
use Rattle.mailbox.specs.Layout as Mail
use Rattle.table.specs.Layout as Table

-- its work is over: stage 3 with nothing held, or stage 6
unfoldable pub is_over : Session → Bool
is_over s = eqb s.stage Stage.shrinking && eqb s.held 0 || eqb s.stage Stage.rolled_back

-- a probe that the record stores names T, as initiator or as junior
unfoldable pub stored_names : ℕ → Session → Bool
stored_names t s = not (eqb (get_or s.juniors (t - 1) 0) 0) || member t s.juniors

-- an item names T, as holder or in its queue
abbrev pub lock_names : ℕ → Lock → Bool
lock_names t k = eqb k.holder t || member t k.queue

unfoldable pub item_names : ℕ → Item → Bool
item_names t i = lock_names t (unpacked i)

-- an entry names T, in its route or as one of the two sessions that its kind carries
unfoldable pub entry_names : ℕ → Entry → Bool
entry_names t e = eqb e.session t || Kind.carries e.kind && (eqb e.a t || eqb e.b t)

-- no stored probe of any record, T's own included, names T
unfoldable pub no_probe_names : ℕ → List ℕ → Bool
no_probe_names t table = every (Table.sessions_of table) (λ k. not (stored_names t (Table.session table k)))

-- no item does
unfoldable pub no_item_names : ℕ → List ℕ → Bool
no_item_names t table = every (Table.items_of table) (λ x. not (item_names t (Table.item table x)))

-- no entry does
unfoldable pub no_entry_names : ℕ → List Entry → Bool
no_entry_names t entries = all_of (λ e. not (entry_names t e)) entries

-- T may be reopened: RULES 8.15
unfoldable pub may_reopen : ℕ → List ℕ → List ℕ → Bool
may_reopen t table mail = is_over (Table.session table t) && no_probe_names t table && no_item_names t table && no_entry_names t (Mail.entries_of mail)

-- what is judged once the buffers and the session's number are
abbrev pub reopen_causes : ℕ → List ℕ → List ℕ → List Cause
reopen_causes t table mail = cause (not (may_reopen t table mail)) Refusal.in_use ∷ []

-- what is answered, and the table after
pub record Reopened : Type 0 where
  pub refusal : ℕ
  pub table : List ℕ

abbrev pub reopened : ℕ → List ℕ → Reopened
reopened refusal table = record { refusal = refusal; table = table }

-- its record is that of a session that was just started; where it is refused, the table as it was: RULES 4.12
abbrev pub unless_refused : ℕ → ℕ → List ℕ → Reopened
unless_refused refusal t table = cond (eqb refusal 0) (reopened 0 (Table.with_session table t fresh)) (reopened refusal table)
