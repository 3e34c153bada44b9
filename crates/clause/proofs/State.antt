-- The state that both buffers say, as the machine's, and what is carried along a list of calls.
use mathlib.Core.Path.{◌≡◌, refl, sym, ap, ◌∙◌, fun_ext}
use mathlib.Core.Bool.{Bool, true, false, cond}
use mathlib.Core.List.{List}
use Prim.Native.Nat.{ℕ, ◌≤◌}
use native.Mathlib.Omega.{arith}
use lib.ListN.{length}
use Rattle.lists.specs.Lists.{between, all_of}
use Rattle.lists.proofs.Tests.{within}
use Rattle.session.specs.Seniority.{senior}
use Rattle.session.proofs.Seniority.{senior-order, senior-weak}
use Rattle.session.proofs.WellFormed.{held_fits}
use Rattle.session.specs.declared.Session.{Session}
use Rattle.session.specs.Rules as Session
use Rattle.item.specs.NextHolder.{next_holder}
use Rattle.item.specs.Record.{Lock, packed, unpacked}
use Rattle.item.specs.Rules as Item
use Rattle.item.proofs.Laws.{unpacked-packed}
use Rattle.item.proofs.NextHolder.{next-inside}
use Rattle.mailbox.specs.Entry as Entry
use Rattle.mailbox.specs.Entry.{Entry}
use Rattle.mailbox.specs.Layout as Mail
use Rattle.mailbox.proofs.Laws as MailLaws
use Rattle.table.specs.Layout as Table
use Rattle.table.proofs.Laws as TableLaws
use Rattle.waits.specs.OnTable.{locks}
use Rattle.wellformed.proofs.Sessions.{SessionKept}
use Rattle.wellformed.proofs.Items.{ItemKept}
use Rattle.step.specs.Step.{Formed, Plan}
use Rattle.step.proofs.Form.{Planned}
use Rattle.lockmgr.specs.Calls.{Config}
use Rattle.deadlock.specs.Machine
use Rattle.agreement.specs.Reading.{read_session, read_sessions, read_state, rules}
use Rattle.item.proofs.WellFormed.{unpacked-lock, queue-whole}
use Rattle.agreement.proofs.MoveAgrees.{Replaced, Given}
use Rattle.agreement.proofs.RulesLaws.{rules_laws}
use Rattle.clause.specs.Statement.{IsSession}

-- the seniority of a lock manager, its next holder, and the machine with both
abbrev pub senior_of : Config → ℕ → ℕ → Bool
senior_of conf = senior conf.kept.ranks

abbrev pub next_of : Config → List ℕ → ℕ
next_of conf = next_holder (senior_of conf)

abbrev pub machine_of : Config → Machine.Rules
machine_of conf = rules conf.kept.sessions conf.kept.items (senior_of conf) (next_of conf)

-- what a table and the entries of the mail say
abbrev pub state_of : Config → List ℕ → List Entry → Machine.State
state_of conf table l = read_state conf.kept.sessions conf.kept.items (Table.session table) (locks table) l

-- a well-formed table, and well-formed entries that fit the mailbox
pub record Good (conf : Config) (table : List ℕ) (l : List Entry) : Type 0 where
  pub sized : Table.sized table ≡ true
  pub config : Table.config_of table ≡ conf.kept
  pub formed : Table.well_formed table ≡ true
  pub low : 1 ≤ conf.capacity
  pub high : conf.capacity ≤ Mail.max_capacity
  pub room : length l ≤ conf.capacity
  pub entries : all_of (Entry.well_formed conf.kept.sessions conf.kept.items) l ≡ true

-- so its sizes and ranks are those that start was given
module _ {conf : Config} {table : List ℕ} {l : List Entry} (g : Good conf table l) where
  pub sessions_are : Table.sessions_of table ≡ conf.kept.sessions
  sessions_are = ap (λ (c : Table.Config). c.sessions) g.config

  pub items_are : Table.items_of table ≡ conf.kept.items
  items_are = ap (λ (c : Table.Config). c.items) g.config

  pub ranks_of : Table.ranks table ≡ conf.kept.ranks
  ranks_of = ap (λ (c : Table.Config). c.ranks) g.config

module _ {conf : Config} {table : List ℕ} {l : List Entry} (g : Good conf table l) where
  pub few-sessions : conf.kept.sessions ≤ 64
  few-sessions = omega (arith, (TableLaws.sized-facts table g.sized).max-sessions, sessions_are g)

  pub few-items : conf.kept.items ≤ 64
  few-items = omega (arith, (TableLaws.sized-facts table g.sized).max-items, items_are g)

  -- the ranks are well-formed, so that the machine's theorem holds
  pub machine_laws : Machine.Laws (machine_of conf)
  machine_laws =
      rules_laws (senior-order conf.kept.ranks (rw (ranks_of g) at (TableLaws.well_formed-ranks table g.formed))) conf.kept.sessions conf.kept.items

  -- the table and the bytes of the entries are well-formed
  pub buffers-formed : Formed table (Mail.mail_bytes conf.capacity l)
  buffers-formed = record {
    records = record { sized = g.sized; formed = g.formed };
    mail-sized = MailLaws.sized-mail conf.capacity l g.low g.high g.room;
    mail-formed = rw (sessions_are g, items_are g) (MailLaws.well_formed-mail conf.capacity l g.low g.high g.room conf.kept.sessions conf.kept.items g.entries);
  }

  pub session-known : (t : ℕ) → between 1 conf.kept.sessions t ≡ true → IsSession (Table.sessions_of table) t
  session-known t r = ((within 1 conf.kept.sessions t r).0, omega (arith, (within 1 conf.kept.sessions t r).1, sessions_are g))

  item-known : (x : ℕ) → between 1 conf.kept.items x ≡ true → (1 ≤ x) × (x ≤ Table.items_of table)
  item-known x r = ((within 1 conf.kept.items x r).0, omega (arith, (within 1 conf.kept.items x r).1, items_are g))

  -- every record and every entry is well-formed, so the agreement holds of them
  pub given : Given (senior_of conf) (next_of conf) conf.kept.sessions conf.kept.items (Table.session table) (locks table) l
  unfolding locks
  given = record {
    few-sessions = few-sessions;
    few-items = few-items;
    inside-queue = next-inside (senior-weak conf.kept.ranks);
    session = λ t r. let k = session-known t r in
        rw (sessions_are g, items_are g) at (TableLaws.well_formed-session table g.formed t k.0 k.1);
    juniors = λ t r. let k = session-known t r in TableLaws.juniors-length table g.sized t k.0 k.1;
    lock = λ x r. let k = item-known x r in
        unpacked-lock conf.kept.sessions (Table.item table x) (rw (sessions_are g) at (TableLaws.well_formed-item table g.formed x k.0 k.1));
    entries = g.entries;
  }

  -- what is planned on it, where it fits
  pub planned-good : {p : Plan} → Planned table p → length p.entries ≤ conf.capacity → Good conf p.table p.entries
  planned-good h fits = record {
    sized = h.sized;
    config = h.config ∙ g.config;
    formed = h.formed;
    low = g.low;
    high = g.high;
    room = fits;
    entries = rw (sessions_are g, items_are g) at h.entries;
  }

  -- the record of session t replaced by a well-formed one
  module _ (t : ℕ) (range : between 1 conf.kept.sessions t ≡ true) {r : Session.After} (kept : SessionKept (Table.sessions_of table) (Table.items_of table) t r) where
    abbrev s : Session
    s = r.session

    abbrev session_stored : List ℕ
    session_stored = Table.with_session table t s

    pub session_replaced : Replaced conf.kept.sessions (Table.session table) (Table.session session_stored) t s
    session_replaced =
        let n = session-known t range in record {
          here = TableLaws.session-with_session table g.sized t n.0 n.1 s kept.juniors (held_fits (Table.sessions_of table) (Table.items_of table) s (TableLaws.sized-facts table g.sized).max-items kept.session);
          elsewhere = λ j q d. TableLaws.other-with_session table g.sized t n.0 n.1 s kept.juniors j (within 1 conf.kept.sessions j q).0 (λ e. d (sym e));
        }

    locks-same : locks session_stored ≡ locks table
    unfolding locks
    locks-same =
        let n = session-known t range in
        fun_ext (λ x. ap unpacked (TableLaws.item-with_session table g.sized t n.0 n.1 s kept.juniors x))

    pub session-state : (k : List Entry) → state_of conf session_stored k ≡ read_state conf.kept.sessions conf.kept.items (Table.session session_stored) (locks table) k
    session-state k = ap (λ (f : ℕ → Lock). read_state conf.kept.sessions conf.kept.items (Table.session session_stored) f k) locks-same

  -- the record of item x replaced by a well-formed one
  module _ (x : ℕ) (range : between 1 conf.kept.items x ≡ true) {r : Item.After} (kept : ItemKept (Table.sessions_of table) (Table.items_of table) x r) where
    abbrev i : Lock
    i = r.lock

    whole : length (packed i).queue ≡ 64
    whole = queue-whole (Table.sessions_of table) (TableLaws.sized-facts table g.sized).max-sessions i kept.lock

    abbrev item_stored : List ℕ
    item_stored = Table.with_item table x (packed i)

    pub lock_replaced : Replaced conf.kept.items (locks table) (locks item_stored) x i
    unfolding locks
    lock_replaced =
        let n = item-known x range in record {
          here = ap unpacked (TableLaws.item-with_item table g.sized x n.0 n.1 (packed i) whole) ∙ unpacked-packed i;
          elsewhere = λ j q d. ap unpacked (TableLaws.other-with_item table g.sized x n.0 n.1 (packed i) whole j (within 1 conf.kept.items j q).0 (λ e. d (sym e)));
        }

    pub session-same : (t : ℕ) → between 1 conf.kept.sessions t ≡ true → Table.session item_stored t ≡ Table.session table t
    session-same t q =
        let n = item-known x range in
        let m = session-known t q in
        TableLaws.session-with_item table g.sized x n.0 n.1 (packed i) whole t m.0 m.1

    sessions-same : read_sessions conf.kept.sessions (Table.session item_stored) ≡ read_sessions conf.kept.sessions (Table.session table)
    unfolding read_sessions
    sessions-same = fun_ext (λ t. go t (between 1 conf.kept.sessions t) refl)
      where
        go : (t : ℕ) (b : Bool) → between 1 conf.kept.sessions t ≡ b → cond b (read_session (Table.session item_stored t)) Machine.fresh ≡ cond b (read_session (Table.session table t)) Machine.fresh
        go t true e = ap read_session (session-same t e)
        go t false e = refl

    pub item-state : (k : List Entry) → state_of conf item_stored k ≡ read_state conf.kept.sessions conf.kept.items (Table.session table) (locks item_stored) k
    item-state k = rw (sessions-same) refl
