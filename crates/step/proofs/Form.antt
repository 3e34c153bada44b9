-- Form is kept: a step that was judged leaves well-formed buffers, with the same config and capacity.
use mathlib.Core.Path.{◌≡◌, refl, ap}
use mathlib.Core.Bool.{Bool, true, false, ◌||◌}
use mathlib.Core.List.{List, map}
use Prim.Native.Nat.{ℕ, ◌≤◌, ◌<◌}
use native.Mathlib.Omega.{arith}
use lib.Dec.{eqb}
use lib.ListN.{length, get_or}
use borrow.Author.Tests.{eqb-true, eqb-false, not-false}
use Rattle.lists.specs.Lists.{between, all_of, remove_at}
use Rattle.lists.proofs.Laws.{all_get_d, all_join, all_map, all-remove_at, find_index-found}
use Rattle.lists.proofs.Tests.{between_intro, by_answer}
use Rattle.session.specs.Stage
use Rattle.session.proofs.Seniority.{senior-weak}
use Rattle.session.specs.Record as SessionRecord
use Rattle.session.specs.Rules as Session
use Rattle.item.specs.NextHolder.{next_holder}
use Rattle.item.proofs.NextHolder.{next-inside}
use Rattle.item.specs.Record.{packed}
use Rattle.item.specs.Rules as Item
use Rattle.mailbox.specs.Entry as Entry
use Rattle.mailbox.specs.Entry.{Entry, unused, on_route, to_item, to_session, from_session, from_item}
use Rattle.mailbox.specs.Layout as Mail
use Rattle.mailbox.proofs.Laws as MailLaws
use Rattle.mailbox.proofs.EntryLaws.{route-facts}
use Rattle.table.specs.Layout as Table
use Rattle.table.proofs.Laws as TableLaws
use Rattle.waits.specs.OnTable.{locks}
use Rattle.wellformed.proofs.Sessions.{SessionKept, session-kept, request-kept, release-kept}
use Rattle.item.proofs.WellFormed.{unpacked-lock, packed-lock, queue-whole}
use Rattle.wellformed.proofs.Items.{ItemKept, item-kept}
use Rattle.step.specs.Step as Step
use Rattle.step.specs.Step.{Plan, Stepped, Formed, delivered, item_receives, session_acts, session_plan, item_plan, plan, stepped, refused_answer, committed}
use Rattle.step.specs.Parts.{Judged, Unhindered}
use Rattle.step.proofs.Acting.{by-verb, delivers, item_acts, session_acting}

-- what is planned on a well-formed table and well-formed entries is so again
pub record Planned (table : List ℕ) (p : Plan) : Type 0 where
  pub sized : Table.sized p.table ≡ true
  pub config : Table.config_of p.table ≡ Table.config_of table
  pub formed : Table.well_formed p.table ≡ true
  pub entries : all_of (Entry.well_formed (Table.sessions_of table) (Table.items_of table)) p.entries ≡ true

module _ (table : List ℕ) where
  abbrev S : ℕ
  S = Table.sessions_of table

  abbrev M : ℕ
  M = Table.items_of table

  abbrev is_entry : Entry → Bool
  is_entry = Entry.well_formed S M

  module _ (sized : Table.sized table ≡ true) (formed : Table.well_formed table ≡ true) (rest : List Entry) (w : all_of is_entry rest ≡ true) where
    pub session-planned : (t : ℕ) → 1 ≤ t → t ≤ S → (r : Session.After) → SessionKept S M t r → Planned table (session_plan t table rest r)
    session-planned t l h r k = record {
      sized = TableLaws.sized-with_session table sized t l h r.session k.juniors;
      config = TableLaws.config_of-with_session table sized t l h r.session k.juniors;
      formed = TableLaws.well_formed-with_session table sized t l h r.session k.juniors formed k.session;
      entries = all_join is_entry rest (map (from_session t) r.sends) w (all_map is_entry (from_session t) r.sends k.sends);
    }

    item-planned : (x : ℕ) → 1 ≤ x → x ≤ M → (r : Item.After) → ItemKept S M x r → Planned table (item_plan x table rest r)
    item-planned x l h r k =
        let few = (TableLaws.sized-facts table sized).max-sessions in
        let i = packed r.lock in
        let whole = queue-whole S few r.lock k.lock in
        record {
          sized = TableLaws.sized-with_item table sized x l h i whole;
          config = TableLaws.config_of-with_item table sized x l h i whole;
          formed = TableLaws.well_formed-with_item table sized x l h i whole formed (packed-lock S r.lock few k.lock);
          entries = all_join is_entry rest (map (from_item x) r.sends) w (all_map is_entry (from_item x) r.sends k.sends);
        }

-- the entry of a route that is there
abbrev head : ℕ → ℕ → ℕ → List Entry → Entry
head direction t x l = get_or l (Entry.earliest direction t x l) unused

module _ (direction t x : ℕ) (l : List Entry) (found : Entry.earliest direction t x l < length l) where
  abbrev here : Entry
  here = head direction t x l

  on-route : on_route direction t x here ≡ true
  on-route = find_index-found (on_route direction t x) l unused found

  pub head-session : here.session ≡ t
  head-session = (route-facts direction t x here on-route).session

  pub head-item : here.item ≡ x
  head-item = (route-facts direction t x here on-route).item

-- ---- what a step that was judged and that nothing hinders leaves of its party, and sends
module _ (t x : ℕ) (table mail : List ℕ) (j : Judged t x table mail) where
  abbrev entries : List Entry
  entries = Mail.entries_of mail

  abbrev senior : ℕ → ℕ → Bool
  senior = Table.senior table

  all-entries : all_of (is_entry table) entries ≡ true
  all-entries = (MailLaws.formed-facts (S table) (M table) mail j.formed.mail-formed).entries

  t-range : between 1 (S table) t ≡ true
  t-range = between_intro 1 (S table) t j.session-low j.session-high

  x-range : between 1 (M table) x ≡ true
  x-range = between_intro 1 (M table) x j.item-low j.item-high

  session-formed : SessionRecord.well_formed (S table) (M table) (Table.session table t) ≡ true
  session-formed = TableLaws.well_formed-session table j.formed.records.formed t j.session-low j.session-high

  session-juniors : length (Table.session table t).juniors ≡ 64
  session-juniors = TableLaws.juniors-length table j.formed.records.sized t j.session-low j.session-high

  abbrev taken_by : ℕ → Entry
  taken_by verb = get_or entries (delivered verb t x entries) unused

  head-formed : (direction : ℕ) → Entry.earliest direction t x entries < length entries → is_entry table (head direction t x entries) ≡ true
  head-formed direction found = all_get_d (is_entry table) entries (Entry.earliest direction t x entries) unused all-entries found

  -- an item, in a delivery to it
  pub item_keeps : Unhindered Step.deliver_to_item t x table entries → ItemKept (S table) (M table) x (item_receives senior (locks table x) (taken_by Step.deliver_to_item))
  unfolding locks delivered
  item_keeps u =
      let found = delivers Step.deliver_to_item t x table entries u (omega arith) (omega arith) (λ q. absurd (omega arith)) (λ q. absurd (omega arith)) in
      let lock = unpacked-lock (S table) (Table.item table x) (TableLaws.well_formed-item table j.formed.records.formed x j.item-low j.item-high) in
      rw (head-item to_item t x entries found) at (item-kept senior (next_holder senior) (S table) (M table) (head to_item t x entries) (head-formed to_item found) (locks table x) lock (next-inside (senior-weak (Table.ranks table)) (locks table x).queue))

  -- a session, in every other step
  abbrev Kept : ℕ → Type 0
  Kept verb = eqb verb Step.deliver_to_item ≡ false → Unhindered verb t x table entries → SessionKept (S table) (M table) t (session_acts senior verb t x (Table.session table t) (taken_by verb))

  pub session_keeps : (verb : ℕ) → 1 ≤ verb → verb ≤ 4 → Kept verb
  unfolding session_acts delivered
  session_keeps =
      by-verb Kept
      (λ _ _. request-kept (S table) (M table) t x t-range x-range (Table.session table t) session-formed session-juniors)
      (λ _ u. let stage = (Table.session table t).stage in
      release-kept (S table) (M table) t x t-range x-range (Table.session table t) session-formed session-juniors (not-false (eqb stage Stage.growing || eqb stage Stage.shrinking) u.stage))
      (λ q _. absurd (eqb-false 3 3 q refl))
      (λ _ u. let found = delivers Step.deliver_to_session t x table entries u (omega arith) (omega arith) (λ q. absurd (omega arith)) (λ q. absurd (omega arith)) in
      rw (head-session to_session t x entries found) at (session-kept senior (S table) (M table) (head to_session t x entries) (head-formed to_session found) (Table.session table t) session-formed session-juniors))

  -- so its plan is well-formed
  others : (k : ℕ) → all_of (is_entry table) (remove_at k entries) ≡ true
  others k = all-remove_at (is_entry table) k entries all-entries

  abbrev Plans : ℕ → Type 0
  Plans verb = Unhindered verb t x table entries → Planned table (plan senior verb t x table entries)

  pub plan_keeps : (verb : ℕ) → 1 ≤ verb → verb ≤ 4 → Plans verb
  plan_keeps verb low high =
      let k = delivered verb t x entries in
      by_answer (eqb verb Step.deliver_to_item)
      (λ e. rw (eqb-true verb Step.deliver_to_item e) (λ u.
      rw (item_acts senior Step.deliver_to_item t x table entries refl)
      (item-planned table j.formed.records.sized j.formed.records.formed _ (others _) x j.item-low j.item-high _ (item_keeps u))))
      (λ e u. rw (session_acting senior verb t x table entries e)
      (session-planned table j.formed.records.sized j.formed.records.formed (remove_at k entries) (others k) t j.session-low j.session-high _ (session_keeps verb low high e u)))

-- well-formed buffers, with the config and the capacity that they had
pub record FormKept (table mail : List ℕ) (r : Stepped) : Type 0 where
  pub formed : Formed r.table r.mail
  pub config : Table.config_of r.table ≡ Table.config_of table
  pub capacity : Mail.capacity_of r.mail ≡ Mail.capacity_of mail

module _ (table mail : List ℕ) (f : Formed table mail) where
  pub unchanged : (n : ℕ) → FormKept table mail (stepped (refused_answer n) table mail)
  unchanged n = record { formed = f; config = refl; capacity = refl }

  pub committed_keeps : (t : ℕ) (p : Plan) → Planned table p → length p.entries ≤ Mail.capacity_of mail → FormKept table mail (committed t (Mail.capacity_of mail) p)
  committed_keeps t p h fits =
      let C = Mail.capacity_of mail in
      let m = MailLaws.sized-facts mail f.mail-sized in
      record {
        formed = record {
          records = record { sized = h.sized; formed = h.formed };
          mail-sized = MailLaws.sized-mail C p.entries m.low m.high fits;
          mail-formed = rw (ap (λ (c : Table.Config). c.sessions) h.config, ap (λ (c : Table.Config). c.items) h.config) (MailLaws.well_formed-mail C p.entries m.low m.high fits (Table.sessions_of table) (Table.items_of table) h.entries);
        };
        config = h.config;
        capacity = MailLaws.capacity-mail C p.entries m.low m.high fits;
      }
