-- What a call knows that is not refused, and which cause refuses it.
use mathlib.Core.Path.{◌≡◌, refl, ◌∙◌}
use mathlib.Core.Bool.{Bool, true, false, cond, not, ◌&&◌}
use mathlib.Core.List.{List, [], ◌∷◌, ◌++◌}
use mathlib.Core.Logic.{◌≢◌}
use Prim.Native.Nat.{ℕ, ◌≤◌}
use lib.Dec.{eqb}
use lib.ListN.{length}
use borrow.Author.Tests.{le-leb, eqb-true, eqb-false, eq-eqb, ne_eqb}
use Rattle.lists.specs.Lists.{between, all_of}
use Rattle.lists.proofs.Tests.{and_both, between_intro, by_answer, fails, within}
use Rattle.message.specs.Limits.{max_sessions, max_items}
use Rattle.session.specs.Seniority
use Rattle.mailbox.specs.Layout as Mail
use Rattle.table.specs.Layout as Table
use Rattle.refusal.specs.Refusal
use Rattle.refusal.specs.Refusal.{Cause, cause, first}
use Rattle.step.specs.Step.{Stepped, plan, acted, stepped, refused_answer, committed, Formed}
use Rattle.step.specs.Parts.{Judged, Unhindered}
use Rattle.step.proofs.Acting.{by-outcome}
use Rattle.step.proofs.Verbs.{verb-bounds}
use Rattle.refusal.proofs.Outcome.{passed-on, number-positive}
use Rattle.refusal.proofs.Causes.{first_stops, first-goes-on, unmet-not}
use Rattle.reopen.specs.Reopening as Reopening
use Rattle.reopen.specs.Reopening.{may_reopen, reopen_causes, reopened}
use Rattle.cycletext.specs.OnTable.{text, text_causes, text_answer, described, unless_refused}
use Rattle.lockmgr.specs.Calls.{Config, buffer_causes, judged, sizes_fit, start_refusal, step_by, step, report_causes, report_refusal, session_causes, reopen_refusal, reopen, cycle_text_by, cycle_text}

-- a step by what judging answers
module _ (verb t x : ℕ) (table mail : List ℕ) where
  pub step-refused : (judged verb t x table mail ≡ 0 → ⊥) → step verb t x table mail ≡ stepped (refused_answer (judged verb t x table mail)) table mail
  unfolding step step_by
  step-refused e = rw (ne_eqb (judged verb t x table mail) 0 e) refl

  pub step_acts : judged verb t x table mail ≡ 0 → step verb t x table mail ≡ acted (Table.senior table) verb t x table mail
  unfolding step step_by
  step_acts e = rw (e) refl

-- where no cause lies in the buffers or behind them, the buffers are well-formed, and no cause lies behind
buffers_then : (table mail : List ℕ) (behind : List Cause) → first (buffer_causes table mail ++ behind) ≡ 0 → Formed table mail × (first behind ≡ 0)
buffers_then table mail behind e =
    let s = unmet-not (Table.sized table && Mail.sized mail) 1 _ e in
    let f = unmet-not (Table.well_formed table) 2 _ s.1 in
    let g = unmet-not (Mail.well_formed (Table.sessions_of table) (Table.items_of table) mail) 3 _ f.1 in
    let sizes = and_both (Table.sized table) (Mail.sized mail) s.0 in
    (record { records = record { sized = sizes.0; formed = f.0 }; mail-sized = sizes.1; mail-formed = g.0 }, g.1)

-- what a step knows that was judged
pub judged-zero : (verb t x : ℕ) (table mail : List ℕ) → judged verb t x table mail ≡ 0 → (1 ≤ verb) × (verb ≤ 4) × Judged t x table mail
unfolding judged
judged-zero verb t x table mail e =
    let v = unmet-not (between 1 4 verb) 0 _ e in
    let f = buffers_then table mail _ v.1 in
    let n = unmet-not (between 1 (Table.sessions_of table) t && between 1 (Table.items_of table) x) 4 _ f.1 in
    let numbers = and_both (between 1 (Table.sessions_of table) t) (between 1 (Table.items_of table) x) n.0 in
    let verbs = within 1 4 verb v.0 in
    let session = within 1 (Table.sessions_of table) t numbers.0 in
    let item = within 1 (Table.items_of table) x numbers.1 in (
      verbs.0,
      verbs.1,
      record {
        formed = f.0;
        session-low = session.0;
        session-high = session.1;
        item-low = item.0;
        item-high = item.1;
      },
    )

-- whatever holds of a refused step, and of one that was judged and that nothing hinders, holds of a step
pub by_call : (verb t x : ℕ) (table mail : List ℕ) (P : Stepped → Type 0) → ((n : ℕ) → n ≢ 0 → P (stepped (refused_answer n) table mail))
    → (1 ≤ verb → verb ≤ 4 → Judged t x table mail → Unhindered verb t x table (Mail.entries_of mail)
    → length (plan (Table.senior table) verb t x table (Mail.entries_of mail)).entries ≤ Mail.capacity_of mail
    → P (committed t (Mail.capacity_of mail) (plan (Table.senior table) verb t x table (Mail.entries_of mail))))
    → P (step verb t x table mail)
by_call verb t x table mail P refused done =
    let n = judged verb t x table mail in
    by_answer (eqb n 0)
    (λ e. let z = eqb-true n 0 e in
    let known = judged-zero verb t x table mail z in
    rw (step_acts verb t x table mail z) (by-outcome (Table.senior table) verb t x table mail P refused (done known.0 known.1 known.2)))
    (λ e. let z = eqb-false n 0 e in rw (step-refused verb t x table mail z) (refused n z))

-- the causes of the verb, of the buffers and of the numbers, one after another
module _ (verb t x : ℕ) (table mail : List ℕ) where
  abbrev numbers : Bool
  numbers = between 1 (Table.sessions_of table) t && between 1 (Table.items_of table) x

  pub judged-verb : (1 ≤ verb → verb ≤ 4 → ⊥) → judged verb t x table mail ≡ Refusal.bad_verb
  unfolding judged first
  judged-verb h = rw (fails (between 1 4 verb) (λ e. let p = within 1 4 verb e in h p.0 p.1)) refl

  module _ (low : 1 ≤ verb) (high : verb ≤ 4) where
    abbrev rest : List Cause
    rest = cause (not numbers) Refusal.bad_number ∷ []

    judged_verbs : judged verb t x table mail ≡ first (buffer_causes table mail ++ rest)
    unfolding judged first
    judged_verbs = rw (between_intro 1 4 verb low high) refl

    pub judged-buffers : (first (buffer_causes table mail) ≡ 0 → ⊥) → judged verb t x table mail ≡ first (buffer_causes table mail)
    judged-buffers h = judged_verbs ∙ first_stops (buffer_causes table mail) rest h

    module _ (none : first (buffer_causes table mail) ≡ 0) where
      judged-rest : judged verb t x table mail ≡ cond (not numbers) Refusal.bad_number 0
      unfolding first all_of
      judged-rest = judged_verbs ∙ first-goes-on (buffer_causes table mail) rest refl none

      pub judged-number : (1 ≤ t → t ≤ Table.sessions_of table → 1 ≤ x → x ≤ Table.items_of table → ⊥) → judged verb t x table mail ≡ Refusal.bad_number
      judged-number h =
          let out = fails numbers (λ e. let p = and_both (between 1 (Table.sessions_of table) t) (between 1 (Table.items_of table) x) e in
          let q = within 1 (Table.sessions_of table) t p.0 in
          let r = within 1 (Table.items_of table) x p.1 in
          h q.0 q.1 r.0 r.1) in
          judged-rest ∙ rw (out) refl

      pub judged-none : 1 ≤ t → t ≤ Table.sessions_of table → 1 ≤ x → x ≤ Table.items_of table → judged verb t x table mail ≡ 0
      judged-none a b c d =
          judged-rest ∙ rw (le-leb 1 t a, le-leb t (Table.sessions_of table) b, le-leb 1 x c, le-leb x (Table.items_of table) d) refl

-- what the buffers are where no cause lies in them
pub buffers-zero : (table mail : List ℕ) → first (buffer_causes table mail) ≡ 0 → Formed table mail
buffers-zero table mail e = (buffers_then table mail [] e).0

-- well-formed buffers have no cause
pub formed-zero : (table mail : List ℕ) → Formed table mail → first (buffer_causes table mail) ≡ 0
unfolding first
formed-zero table mail f = rw (f.records.sized, f.mail-sized, f.records.formed, f.mail-formed) refl

-- what a start knows whose sizes fit, and one that is not refused
pub record Sizes (c : Config) (table mail : List ℕ) : Type 0 where
  pub bounded : Table.Bounded c.kept
  pub some-room : 1 ≤ c.capacity
  pub max-room : c.capacity ≤ Mail.max_capacity
  pub table-whole : length table ≡ Table.size c.kept.sessions c.kept.items
  pub mail-whole : length mail ≡ Mail.size c.capacity

pub record Startable (c : Config) (table mail : List ℕ) : Type 0 where
  pub sizes : Sizes c table mail
  pub ranks : Seniority.well_formed c.kept.ranks ≡ true

-- S, M and C are within their bounds
abbrev pub in_bounds : ℕ → ℕ → ℕ → Bool
in_bounds S M C = between 1 max_sessions S && between 1 max_items M && between 1 Mail.max_capacity C

pub record InBounds (S M C : ℕ) : Type 0 where
  pub sessions : (1 ≤ S) × (S ≤ max_sessions)
  pub items : (1 ≤ M) × (M ≤ max_items)
  pub capacity : (1 ≤ C) × (C ≤ Mail.max_capacity)

pub bounds_known : (S M C : ℕ) → in_bounds S M C ≡ true → InBounds S M C
bounds_known S M C e =
    let s = between 1 max_sessions S in
    let m = between 1 max_items M in
    let three = and_both (s && m) (between 1 Mail.max_capacity C) e in
    let two = and_both s m three.0 in
    record { sessions = within 1 max_sessions S two.0; items = within 1 max_items M two.1; capacity = within 1 Mail.max_capacity C three.1 }

module _ (c : Config) (table mail : List ℕ) where
  abbrev S : ℕ
  S = c.kept.sessions

  abbrev M : ℕ
  M = c.kept.items

  abbrev C : ℕ
  C = c.capacity

  pub sizes-known : sizes_fit c table mail ≡ true → Sizes c table mail
  sizes-known e =
      let n = in_bounds S M C in
      let k = eqb (length c.kept.ranks) S in
      let t = eqb (length table) (Table.size S M) in
      let q = eqb (length mail) (Mail.size C) in
      let six = and_both (n && k && t) q e in
      let five = and_both (n && k) t six.0 in
      let four = and_both n k five.0 in
      let b = bounds_known S M C four.0 in
      record {
        bounded =
            record {
              some-sessions = b.sessions.0;
              max-sessions = b.sessions.1;
              some-items = b.items.0;
              max-items = b.items.1;
              ranks-whole = eqb-true (length c.kept.ranks) S four.1;
            };
        some-room = b.capacity.0;
        max-room = b.capacity.1;
        table-whole = eqb-true (length table) (Table.size S M) five.1;
        mail-whole = eqb-true (length mail) (Mail.size C) six.1;
      }

  all_sizes_fit : Sizes c table mail → sizes_fit c table mail ≡ true
  all_sizes_fit f =
      let b = f.bounded in
      rw (between_intro 1 max_sessions S b.some-sessions b.max-sessions, between_intro 1 max_items M b.some-items b.max-items, between_intro 1 Mail.max_capacity C f.some-room f.max-room, eq-eqb (length c.kept.ranks) S b.ranks-whole, eq-eqb (length table) (Table.size S M) f.table-whole, eq-eqb (length mail) (Mail.size C) f.mail-whole) refl

  pub start-zero : start_refusal c table mail ≡ 0 → Startable c table mail
  unfolding start_refusal
  start-zero e =
      let s = unmet-not (sizes_fit c table mail) 1 _ e in
      record { sizes = sizes-known s.0; ranks = (unmet-not (Seniority.well_formed c.kept.ranks) 13 [] s.1).0 }

  pub start_none : Startable c table mail → start_refusal c table mail ≡ 0
  unfolding start_refusal first
  start_none f = rw (all_sizes_fit f.sizes, f.ranks) refl

-- the causes of a report
module _ (t : ℕ) (table : List ℕ) where
  abbrev known : Bool
  known = between 1 (Table.sessions_of table) t

  pub report-zero : report_refusal t table ≡ 0 → Table.Formed table × (1 ≤ t) × (t ≤ Table.sessions_of table)
  unfolding report_refusal
  report-zero e =
      let s = unmet-not (Table.sized table) 1 _ e in
      let f = unmet-not (Table.well_formed table) 2 _ s.1 in
      let n = within 1 (Table.sessions_of table) t (unmet-not known 4 _ f.1).0 in
      (record { sized = s.0; formed = f.0 }, n.0, n.1)

  pub report-size : Table.sized table ≡ false → report_refusal t table ≡ Refusal.bad_size
  unfolding report_refusal first
  report-size e = rw (e) refl

  module _ (sized : Table.sized table ≡ true) where
    pub report-table : Table.well_formed table ≡ false → report_refusal t table ≡ Refusal.bad_table
    unfolding report_refusal first
    report-table e = rw (sized, e) refl

    module _ (formed : Table.well_formed table ≡ true) where
      pub report-number : (1 ≤ t → t ≤ Table.sessions_of table → ⊥) → report_refusal t table ≡ Refusal.bad_number
      unfolding report_refusal first
      report-number h =
          rw (sized, formed, fails known (λ e. let p = within 1 (Table.sessions_of table) t e in h p.0 p.1)) refl

      pub report-none : 1 ≤ t → t ≤ Table.sessions_of table → report_refusal t table ≡ 0
      unfolding report_refusal first
      report-none a b = rw (sized, formed, le-leb 1 t a, le-leb t (Table.sessions_of table) b) refl

  -- the text of a cycle is refused for the same causes, and then for its own
  module _ (buffer : List ℕ) where
    pub text-refused : (report_refusal t table ≡ 0 → ⊥) → cycle_text t table buffer ≡ described (text_answer (report_refusal t table) 0) buffer
    unfolding report_refusal cycle_text cycle_text_by
    text-refused h =
        rw (first_stops (report_causes t table) (text_causes t table buffer) h, ne_eqb (first (report_causes t table)) 0 h) refl

    pub text-judged : report_refusal t table ≡ 0 → cycle_text t table buffer ≡ unless_refused (first (text_causes t table buffer)) (text table t) buffer
    unfolding report_refusal cycle_text cycle_text_by all_of
    text-judged e = rw (first-goes-on (report_causes t table) (text_causes t table buffer) refl e) refl

-- a reopening: the causes of the buffers, that of the number, and its own
module _ (t : ℕ) (table mail : List ℕ) where
  abbrev number : Bool
  number = between 1 (Table.sessions_of table) t

  pub reopen-buffers : (first (buffer_causes table mail) ≡ 0 → ⊥) → reopen t table mail ≡ reopened (first (buffer_causes table mail)) table
  unfolding reopen
  reopen-buffers h = rw (first_stops (buffer_causes table mail) (session_causes t table mail) h, ne_eqb (first (buffer_causes table mail)) 0 h) refl

  module _ (none : first (buffer_causes table mail) ≡ 0) where
    reopen-later : reopen t table mail ≡ Reopening.unless_refused (first (session_causes t table mail)) t table
    unfolding reopen all_of
    reopen-later = rw (first-goes-on (buffer_causes table mail) (session_causes t table mail) refl none) refl

    pub reopen-number : (1 ≤ t → t ≤ Table.sessions_of table → ⊥) → reopen t table mail ≡ reopened Refusal.bad_number table
    unfolding first
    reopen-number h = reopen-later ∙ rw (fails number (λ e. let p = within 1 (Table.sessions_of table) t e in h p.0 p.1)) refl

    pub reopen-judged : 1 ≤ t → t ≤ Table.sessions_of table → reopen t table mail ≡ Reopening.unless_refused (first (reopen_causes t table mail)) t table
    unfolding first
    reopen-judged low high = reopen-later ∙ rw (between_intro 1 (Table.sessions_of table) t low high) refl

  -- what one knows that is not refused
  pub reopen-zero : reopen_refusal t table mail ≡ 0 → Formed table mail × (number ≡ true) × (may_reopen t table mail ≡ true)
  reopen-zero e =
      let b = buffers_then table mail (session_causes t table mail) e in
      let n = unmet-not number 4 _ b.1 in
      let m = unmet-not (may_reopen t table mail) 14 _ n.1 in
      (b.0, n.0, m.0)

-- ---- what the code of the calls goes by
pub ruleset starts = (sizes-known, start-zero)

pub ruleset judgements = (buffers-zero, judged-verb, judged-buffers, judged-number, judged-none, verb-bounds, passed-on, number-positive)

pub ruleset steps = (judged-zero, step-refused, step_acts, passed-on, number-positive)

pub ruleset reports = (report-size, report-table, report-number, report-none, report-zero)

pub ruleset texts = (report-zero, text-refused, text-judged, passed-on, number-positive)

pub ruleset reopenings = (buffers-zero, reopen-buffers, reopen-number, reopen-judged, passed-on, number-positive)
