-- A reopening: refused, with the table as it was, or one of the machine's moves at which nothing happens.
use mathlib.Core.Path.{◌≡◌, sym, ap, subst, ◌∙◌}
use mathlib.Core.Bool.{true, false, not, ◌&&◌}
use mathlib.Core.List.{List, ◌++◌, map, append-nil}
use mathlib.Core.Option.{none}
use Prim.Native.Nat.{ℕ, ◌≤◌}
use lib.Dec.{eqb}
use borrow.Author.Tests.{eqb-true}
use Rattle.lists.specs.Lists.{between}
use Rattle.lists.proofs.Searches.{every-at}
use Rattle.lists.proofs.Tests.{and_both, by-test}
use Rattle.session.specs.Stage
use Rattle.session.specs.declared.Session.{Session}
use Rattle.session.specs.Record as SessionRecord
use Rattle.mailbox.specs.Entry.{Entry, from_session}
use Rattle.mailbox.specs.Layout as Mail
use Rattle.mailbox.proofs.Laws as MailLaws
use Rattle.table.specs.Layout as Table
use Rattle.waits.specs.OnTable.{locks}
use Rattle.wellformed.proofs.Sessions.{SessionKept}
use Rattle.step.proofs.Form.{session-planned}
use Rattle.reopen.specs.Reopening.{is_over, lock_names, item_names, no_probe_names, no_item_names, no_entry_names, may_reopen, Reopened, reopened}
use Rattle.reopen.proofs.Form.{anew, anew-kept}
use Rattle.lockmgr.specs.Calls.{Config, reopen_refusal, reopen}
use Rattle.lockmgr.specs.Run.{buffers}
use Rattle.lockmgr.proofs.Judging.{reopen-zero}
use Rattle.deadlock.specs.Machine
use Rattle.agreement.specs.Reading.{read_state}
use Rattle.agreement.proofs.MoveAgrees.{Replaced}
use Rattle.agreement.proofs.ReopenAgrees as Agrees
use Rattle.clause.proofs.State
use Rattle.clause.proofs.State.{machine_of, state_of, Good, given, planned-good, sessions_are, items_are}
use Rattle.clause.proofs.Moves.{Moved, session-moved, session-call}
use Rattle.clause.proofs.Step.{quiet}

-- what is known of a session that may be reopened
pub record Reopenable (t : ℕ) (table mail : List ℕ) : Type 0 where
  pub over : is_over (Table.session table t) ≡ true
  pub items : (x : ℕ) → 1 ≤ x → x ≤ Table.items_of table → not (item_names t (Table.item table x)) ≡ true
  pub entries : no_entry_names t (Mail.entries_of mail) ≡ true

pub reopenable : (t : ℕ) (table mail : List ℕ) → may_reopen t table mail ≡ true → Reopenable t table mail
unfolding may_reopen no_item_names
reopenable t table mail e =
    let last = and_both (is_over (Table.session table t) && no_probe_names t table && no_item_names t table) (no_entry_names t (Mail.entries_of mail)) e in
    let third = and_both (is_over (Table.session table t) && no_probe_names t table) (no_item_names t table) last.0 in
    let first = and_both (is_over (Table.session table t)) (no_probe_names t table) third.0 in
    record { over = first.0; items = every-at (Table.items_of table) _ third.1; entries = last.1 }

module _ {conf : Config} {table : List ℕ} {l : List Entry} (g : Good conf table l) (t : ℕ) where
  abbrev mail : List ℕ
  mail = Mail.mail_bytes conf.capacity l

  -- the table after
  abbrev after : List ℕ
  after = Table.with_session table t SessionRecord.fresh

  -- a move at which nothing happens, to these entries
  pub record ReopenMoved (k : List Entry) : Type 0 where
    pub moved : Moved conf table l (buffers after (Mail.mail_bytes conf.capacity k))
    pub nothing : moved.event ≡ Machine.nothing

  module _ (r : between 1 conf.kept.sessions t ≡ true) (p : Reopenable t table mail) where
    items : (x : ℕ) → 1 ≤ x → x ≤ conf.kept.items → not (lock_names t (locks table x)) ≡ true
    unfolding locks item_names
    items x low high = p.items x low (rw (items_are g) high)

    entries : no_entry_names t l ≡ true
    entries = rw (MailLaws.entries-mail conf.capacity l g.low g.high g.room) at p.entries

    -- nothing is sent
    abbrev sent : List Entry
    sent = l ++ map (from_session t) anew.sends

    abbrev Put : (ℕ → Session) → Type 0
    Put f = Replaced conf.kept.sessions (Table.session table) f t SessionRecord.fresh

    kept : SessionKept (Table.sessions_of table) (Table.items_of table) t anew
    kept = anew-kept (Table.sessions_of table) (Table.items_of table) t

    good : Good conf after sent
    good =
        let n = State.session-known g t r in
        planned-good g (session-planned table g.sized g.formed l (rw (sessions_are g, items_are g) g.entries) t n.0 n.1 anew kept) (rw (append-nil l) g.room)

    moves : (f : ℕ → Session) → Put f → read_state conf.kept.sessions conf.kept.items f (locks table) sent ≡ Machine.move (machine_of conf) (state_of conf table l) (Machine.reopen t)
    moves = Agrees.reopen-move (given g) t r p.over entries items

    happens : (f : ℕ → Session) → Put f → SessionRecord.well_formed conf.kept.sessions conf.kept.items (f t) ≡ true
        → Machine.event_of (machine_of conf) (state_of conf table l) (Machine.reopen t) (read_state conf.kept.sessions conf.kept.items f (locks table) sent)
        ≡ record { closed = false; declared = none; rolled_back = not (eqb (Table.session table t).stage Stage.rolled_back) && eqb (f t).stage Stage.rolled_back }
    unfolding Machine.event_of
    happens f h _ = rw h.here (quiet (not (eqb (Table.session table t).stage Stage.rolled_back)))

    done : ReopenMoved sent
    unfolding Machine.of_machine Machine.event_of
    done =
        let m = session-moved g t r (Machine.reopen t) r l anew kept good moves happens in
        let call = session-call g t r (Machine.reopen t) r l anew kept good moves happens in
        record { moved = m; nothing = sym m.happens ∙ ap (λ (c : Machine.Call). Machine.event_of (machine_of conf) (state_of conf table l) c (state_of conf after m.entries)) call }

  -- whatever holds of a refused reopening, and of one that is a move of the machine, holds of a reopening
  pub by-reopen : (P : Reopened → Type 0) → ((n : ℕ) → P (reopened n table)) → (ReopenMoved l → P (reopened 0 after)) → P (reopen t table mail)
  unfolding reopen
  by-reopen P refused moved =
      by-test P (eqb (reopen_refusal t table mail) 0)
      (λ e. let z = reopen-zero t table mail (eqb-true (reopen_refusal t table mail) 0 e) in
      moved (subst ReopenMoved (append-nil l) (done (rw (sessions_are g) at z.1) (reopenable t table mail z.2))))
      (λ _. refused (reopen_refusal t table mail))
