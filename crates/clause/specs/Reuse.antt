-- Session numbers used again: after any calls, reopen accepts a session exactly where its work is over and no entry of the mail names it: RULES 9.14. No item and no stored probe, at which it looks too (RULES 8.15), names it then. RULES is docs/RULES.md.
use Rattle.std.specs.Prelude.{ℕ, ◌≡◌, Bool, cond, ◌&&◌, List}
use Rattle.refusal.specs.Refusal
use Rattle.mailbox.specs.Layout as Mail
use Rattle.table.specs.Layout as Table
use Rattle.reopen.specs.Reopening.{is_over, no_entry_names}
use Rattle.lockmgr.specs.Calls as Calls
use Rattle.lockmgr.specs.Calls.{Config}
use Rattle.lockmgr.specs.Run.{Buffers}
use Rattle.lockmgr.specs.History.{Call, after}
use Rattle.clause.specs.Statement.{opened, EmptyMail, IsSession}

-- what reopen answers for session t
abbrev pub reopen_answer : Buffers → ℕ → ℕ
reopen_answer b t = (Calls.reopen t b.table b.mail).refusal

-- its work is over: stage 3 with nothing held, or stage 6
abbrev pub work_over : Buffers → ℕ → Bool
work_over b t = is_over (Table.session b.table t)

pub record WhenReopened (b : Buffers) (t : ℕ) : Type 0 where
  -- 0 where its work is over and no entry of the mail names it, else 15
  pub exactly : reopen_answer b t ≡ cond (work_over b t && no_entry_names t (Mail.entries_of b.mail)) 0 Refusal.in_use
  -- so with an empty mail 0 where its work is over, else 15
  pub at-empty-mail : EmptyMail b → reopen_answer b t ≡ cond (work_over b t) 0 Refusal.in_use

-- for every lock manager that start accepts, after every list of its calls, and every session 1 to S
abbrev pub Reuse : Type 0
Reuse =
    (c : Config) (table mail : List ℕ) → (Calls.start c table mail).refusal ≡ 0
    → (calls : List Call) (t : ℕ) → IsSession c.kept.sessions t → WhenReopened (after (opened c table mail) calls) t
