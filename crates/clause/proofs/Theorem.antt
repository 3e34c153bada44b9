-- The clause: a list of calls is a run of the machine, whose theorem holds of the lock manager's rules.
use mathlib.Core.Path.{◌≡◌, refl, sym, ap, ◌∙◌}
use mathlib.Core.Bool.{false, not}
use mathlib.Core.List.{List, [], ◌∷◌}
use Prim.Native.Nat.{ℕ, ◌≤◌}
use native.Mathlib.Omega.{arith}
use lib.Dec.{eqb}
use lib.ListN.{length}
use borrow.Author.Tests.{eqb-true, not-false}
use Rattle.lists.proofs.Tests.{by-test, within}
use Rattle.lists.proofs.Laws.{all_none}
use Rattle.item.specs.Record as ItemRecord
use Rattle.mailbox.specs.Entry as Entry
use Rattle.mailbox.specs.Entry.{Entry}
use Rattle.mailbox.specs.Layout as Mail
use Rattle.mailbox.proofs.Laws as MailLaws
use Rattle.table.specs.Layout as Table
use Rattle.table.proofs.StartLaws as StartLaws
use Rattle.waits.specs.Waits
use Rattle.waits.specs.OnTable.{locks, waits_for, cycle_length}
use Rattle.waits.proofs.Leaders.{cycles-none}
use Rattle.lockmgr.specs.Calls as Calls
use Rattle.lockmgr.specs.Calls.{Config}
use Rattle.lockmgr.proofs.Judging.{Startable, start-zero, report-none}
use Rattle.deadlock.specs.Machine
use Rattle.agreement.specs.Reading.{read_entries}
use Rattle.agreement.proofs.MoveAgrees.{start-agrees}
use Rattle.lockmgr.specs.Run.{Buffers, buffers}
use Rattle.lockmgr.specs.History.{Call, after, steps}
use Rattle.clause.specs.Statement.{opened, EmptyMail, IsSession, Settled, WellFormed, Holds, Clause}
use Rattle.clause.proofs.State
use Rattle.clause.proofs.State.{senior_of, next_of, machine_of, state_of, Good, sessions_are}
use Rattle.clause.proofs.Cycles.{on-cycle_of}
use Rattle.clause.proofs.Follow.{ran, Followed, follow}
use Rattle.clause.proofs.Declarations.{guaranteed, declarations}

-- a start that is not refused
module _ (c : Config) (table mail : List ℕ) (e : (Calls.start c table mail).refusal ≡ 0) where
  pub start-accepted : Calls.start_refusal c table mail ≡ 0
  unfolding Calls.start
  start-accepted = by-test (λ (r : Calls.Started). r.refusal ≡ 0 → Calls.start_refusal c table mail ≡ 0) (eqb (Calls.start_refusal c table mail) 0) (λ f _. eqb-true (Calls.start_refusal c table mail) 0 f) (λ _ g. g) e

  -- what it leaves
  pub start-leaves : opened c table mail ≡ buffers (Table.started c.kept) (Mail.mail_bytes c.capacity [])
  unfolding opened Calls.start
  start-leaves = rw (start-accepted) refl

module _ (conf : Config) where
  abbrev pub begun : List ℕ
  begun = Table.started conf.kept

  pub begun-good : {table mail : List ℕ} → Startable conf table mail → Good conf begun []
  begun-good f =
      let z = f.sizes in record {
        sized = StartLaws.sized-started conf.kept z.bounded;
        config = StartLaws.config_of-started conf.kept z.bounded;
        formed = StartLaws.well_formed-started conf.kept z.bounded f.ranks;
        low = z.some-room;
        high = z.max-room;
        room = omega arith;
        entries = all_none (Entry.well_formed conf.kept.sessions conf.kept.items);
      }

  pub begun-state : Table.Bounded conf.kept → state_of conf begun [] ≡ Machine.start (machine_of conf)
  unfolding locks
  begun-state f =
      start-agrees conf.kept.sessions conf.kept.items (Table.session begun) (locks begun)
      (λ t r. StartLaws.session-started conf.kept f t (within 1 conf.kept.sessions t r).0 (within 1 conf.kept.sessions t r).1)
      (λ x r. ap ItemRecord.unpacked (StartLaws.item-started conf.kept f x (within 1 conf.kept.items x r).0 (within 1 conf.kept.items x r).1))
      (senior_of conf) (next_of conf)

pub no_entries : (l : List Entry) → length l ≡ 0 → l ≡ []
no_entries [] e = refl
no_entries (a ∷ l) e = absurd (omega arith)

pub none_read : (l : List Entry) → l ≡ [] → read_entries l ≡ []
unfolding read_entries
none_read l e = ap read_entries e

-- what a list of calls leaves that is followed by a run of the machine from its start
module _ (conf : Config) (b : Buffers) (calls : List Call) (h : Followed conf (Machine.start (machine_of conf)) (after b calls) (steps b calls) 0 0) where
  abbrev table-left : List ℕ
  table-left = (after b calls).table

  is_well_formed : WellFormed conf (after b calls)
  is_well_formed =
      let g = h.good in record {
        formed = rw h.mail (State.buffers-formed g);
        config = g.config;
        capacity = rw h.mail (MailLaws.capacity-mail conf.capacity h.entries g.low g.high g.room);
      }

  module _ (empty : EmptyMail (after b calls)) where
    no_mail : (ran conf (Machine.start (machine_of conf)) h.run).state.mailbox ≡ []
    no_mail =
        let g = h.good in
        let n : length h.entries ≡ 0 = sym (MailLaws.count-mail conf.capacity h.entries g.low g.high g.room) ∙ ap Mail.count_of (sym h.mail) ∙ empty in
        ap (λ (s : Machine.State). s.mailbox) h.state ∙ none_read h.entries (no_entries h.entries n)

    off-cycle : (t : ℕ) → IsSession conf.kept.sessions t → not (eqb (cycle_length table-left t) 0) ≡ false
    off-cycle t known =
        sym (on-cycle_of h.good t)
        ∙ ap (λ (s : Machine.State). Machine.on_cycle (machine_of conf) s t) (sym h.state)
        ∙ (guaranteed h.good).settled-free h.run no_mail t known.0 known.1

    has_no_cycle : (t : ℕ) → IsSession conf.kept.sessions t → cycle_length table-left t ≡ 0
    has_no_cycle t known = eqb-true (cycle_length table-left t) 0 (not-false (eqb (cycle_length table-left t) 0) (off-cycle t known))

    settled : Settled conf.kept.sessions b calls
    unfolding Calls.report Waits.on_cycle
    settled = record {
      counts = omega (arith, h.closes, h.rolls, (guaranteed h.good).counts-agree h.run no_mail);
      none-stands = cycles-none (waits_for table-left) (Table.sessions_of table-left) (Table.senior table-left) (λ t lo hi. off-cycle t (lo, rw (sessions_are h.good) at hi));
      reports = λ t known. let high : t ≤ Table.sessions_of table-left = rw (sessions_are h.good) known.1 in
          rw (report-none t table-left h.good.sized h.good.formed known.0 high, has_no_cycle t known) refl;
    }

-- every list of calls from a start that is not refused is followed by such a run
module _ (c : Config) (table mail : List ℕ) (e : (Calls.start c table mail).refusal ≡ 0) (calls : List Call) where
  abbrev b : Buffers
  b = opened c table mail

  known : Startable c table mail
  known = start-zero c table mail (start-accepted c table mail e)

  good : Good c (begun c) []
  good = begun-good c known

  state : state_of c (begun c) [] ≡ Machine.start (machine_of c)
  state = begun-state c known.sizes.bounded

  pub followed : Followed c (Machine.start (machine_of c)) (after b calls) (steps b calls) 0 0
  followed = rw (start-leaves c table mail e, ← state) (follow c calls (begun c) [] good)

  holds : Holds c b calls
  unfolding Machine.run
  holds = record {
    settled = settled c b calls followed;
    declarations = rw (start-leaves c table mail e) (declarations c calls (begun c) [] good [] (sym state));
    formed = is_well_formed c b calls followed;
  }

pub theorem : Clause
theorem c table mail e calls = holds c table mail e calls
