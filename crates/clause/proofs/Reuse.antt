-- A session whose work is over, and which no entry of the mail names, is reopened: the machine's theorem names it nowhere, and so do the bytes.
use mathlib.Core.Path.{◌≡◌, refl, sym, ap, subst, ◌∙◌}
use mathlib.Core.Bool.{Bool, true, false, cond, not, ◌&&◌, and-true}
use mathlib.Core.List.{List, [], ◌∷◌}
use mathlib.Core.Logic.{◌≢◌, inl, inr}
use Prim.Native.Nat.{ℕ, ◌≤◌}
use native.Mathlib.Omega.{arith}
use Rattle.lists.specs.Lists.{between, all_of}
use Rattle.lists.proofs.Searches.{every_intro}
use Rattle.lists.proofs.Tests.{and_both, and_intro, between_intro, tests_agree}
use Rattle.refusal.specs.Refusal
use Rattle.refusal.specs.Refusal.{cause, first}
use Rattle.session.specs.declared.Session.{Session}
use Rattle.mailbox.specs.Entry.{Entry}
use Rattle.mailbox.specs.Layout as Mail
use Rattle.mailbox.proofs.Laws as MailLaws
use Rattle.table.specs.Layout as Table
use Rattle.waits.specs.OnTable.{locks}
use Rattle.reopen.specs.Reopening.{is_over, item_names, no_probe_names, no_item_names, no_entry_names, may_reopen, unless_refused}
use Rattle.lockmgr.specs.Calls.{Config, reopen}
use Rattle.lockmgr.specs.Run.{Buffers, buffers, Done}
use Rattle.lockmgr.specs.History.{after, steps}
use Rattle.lockmgr.proofs.Judging.{formed-zero, reopen-judged}
use Rattle.deadlock.specs.Machine
use Rattle.reuse.specs.Statement.{NamedNowhere, Over}
use Rattle.reuse.proofs.Theorem.{theorem}
use Rattle.agreement.specs.Reading.{read_stage, read_held, read_stored, read_session, read_items}
use Rattle.agreement.proofs.ReadingSession.{held_none}
use Rattle.agreement.proofs.MoveAgrees.{session-at}
use Rattle.agreement.proofs.ReopenAgrees.{over-cases, entries-read, item-read, probes-read}
use Rattle.clause.specs.Statement.{opened, EmptyMail, IsSession}
use Rattle.clause.specs.Reuse.{WhenReopened, Reuse}
use Rattle.clause.proofs.State
use Rattle.clause.proofs.State.{machine_of, machine_laws, state_of, Good, given, sessions_are, items_are}
use Rattle.clause.proofs.Reopening.{reopenable}
use Rattle.clause.proofs.Follow.{anything, Followed}
use Rattle.clause.proofs.Theorem.{followed, no_entries}

over-read : (s : Session) → is_over s ≡ true → Over (read_session s)
unfolding read_stage
over-read s h = elim (over-cases s h) [
  | inl e ↦ inl (rw e refl)
  | inr e ↦ inr (rw e.0 refl, λ x. ap (λ (n : ℕ). read_held n x) e.1 ∙ ap (λ (f : ℕ → Bool). f x) held_none)
]

-- what reopen answers, by its last cause
last-cause : (b : Bool) (t : ℕ) (table : List ℕ) → (unless_refused (first (cause (not b) Refusal.in_use ∷ [])) t table).refusal ≡ cond b 0 Refusal.in_use
unfolding first
last-cause true t table = refl
last-cause false t table = refl

module _ {conf : Config} {table : List ℕ} {l : List Entry} (g : Good conf table l) (t : ℕ) (known : IsSession conf.kept.sessions t) where
  abbrev mail : List ℕ
  mail = Mail.mail_bytes conf.capacity l

  abbrev over : Bool
  over = is_over (Table.session table t)

  abbrev unnamed : Bool
  unnamed = no_entry_names t (Mail.entries_of mail)

  entries : Mail.entries_of mail ≡ l
  entries = MailLaws.entries-mail conf.capacity l g.low g.high g.room

  over-state : over ≡ true → Over ((state_of conf table l).session t)
  over-state h = rw (session-at conf.kept.sessions (Table.session table) t (between_intro 1 conf.kept.sessions t known.0 known.1)) (over-read (Table.session table t) h)

  -- where the machine names it nowhere, the table does not name it
  module _ (n : NamedNowhere (machine_of conf) (state_of conf table l) t) where
    probes : no_probe_names t table ≡ true
    unfolding no_probe_names
    probes = every_intro (Table.sessions_of table) _ (λ u low high.
        let r : between 1 conf.kept.sessions u ≡ true = between_intro 1 conf.kept.sessions u low (rw (sessions_are g) at high) in
        let told : (i : ℕ) → read_stored (Table.session table u).juniors i ≢ 0 → (i ≢ t) × (read_stored (Table.session table u).juniors i ≢ t) =
        rw (session-at conf.kept.sessions (Table.session table) u r) at (n.no_probe u) in
        rw (probes-read (Table.session table u) ((given g).juniors u r) t known.0 (omega (arith, known.1, State.few-sessions g)) told) refl)

    items : no_item_names t table ≡ true
    unfolding no_item_names item_names locks read_items
    items = every_intro (Table.items_of table) _ (λ x low high.
        let inside : x ≤ conf.kept.items = rw (items_are g) at high in
        let r : between 1 conf.kept.items x ≡ true = between_intro 1 conf.kept.items x low inside in
        ap not (sym (item-read t known.0 (locks table x)) ∙ (rw r at (n.no_item x low inside))))

  -- no entry, none that names it
  none-unnamed : EmptyMail (buffers table mail) → unnamed ≡ true
  unfolding no_entry_names all_of
  none-unnamed e = rw (entries, no_entries l (sym (MailLaws.count-mail conf.capacity l g.low g.high g.room) ∙ e)) refl

  module _ (nowhere : over ≡ true → no_entry_names t l ≡ true → NamedNowhere (machine_of conf) (state_of conf table l) t) where
    may : may_reopen t table mail ≡ over && unnamed
    unfolding may_reopen
    may =
        tests_agree (may_reopen t table mail) (over && unnamed) (λ e. let p = reopenable t table mail e in and_intro p.over p.entries)
        (λ e. let p = and_both over unnamed e in
        let n = nowhere p.0 (rw entries at p.1) in
        and_intro (and_intro (and_intro p.0 (probes n)) (items n)) p.1)

    answer : (reopen t table mail).refusal ≡ cond (over && unnamed) 0 Refusal.in_use
    answer =
        rw (reopen-judged t table mail (formed-zero table mail (State.buffers-formed g)) known.0 (rw (sessions_are g) known.1), may) (last-cause (over && unnamed) t table)

    when_reopened : WhenReopened (buffers table mail) t
    when_reopened = record { exactly = answer; at-empty-mail = λ e. answer ∙ rw (none-unnamed e, and-true over) refl }

-- what a list of calls leaves that is followed by a run of the machine from its start
module _ (conf : Config) (b : Buffers) (done : List Done) (h : Followed conf (Machine.start (machine_of conf)) b done 0 0) (t : ℕ) (known : IsSession conf.kept.sessions t) where
  nowhere : is_over (Table.session b.table t) ≡ true → no_entry_names t h.entries ≡ true → NamedNowhere (machine_of conf) (state_of conf b.table h.entries) t
  nowhere over unnamed =
      subst (λ (s : Machine.State). Over (s.session t) → Machine.none_of_session t s.mailbox ≡ true → NamedNowhere (machine_of conf) s t) h.state
      (theorem (machine_of conf) (machine_laws h.good) anything h.run t)
      (over-state h.good t known over) (entries-read t h.entries unnamed)

  left : WhenReopened b t
  left = subst (λ (m : List ℕ). WhenReopened (buffers b.table m) t) (sym h.mail) (when_reopened h.good t known nowhere)

pub reuse : Reuse
reuse c table mail e calls t = left c (after (opened c table mail) calls) (steps (opened c table mail) calls) (followed c table mail e calls) t
