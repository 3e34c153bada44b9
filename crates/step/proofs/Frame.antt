-- The frame of a step. What its party does is given the seniority, its own record and the entry that is delivered, and nothing else (`item_receives`, `session_acts`). Here what it writes, what it takes and what it sends.
use mathlib.Core.Path.{◌≡◌, refl, sym, ap, ◌∙◌}
use mathlib.Core.Bool.{Bool, true, false, cond, not, ◌&&◌, false≢true}
use mathlib.Core.List.{List, [], ◌∷◌, ◌++◌, map}
use mathlib.Core.Logic.{◌⊎◌, inl, inr}
use Prim.Native.Nat.{ℕ, ◌≤◌}
use lib.Dec.{eqb}
use lib.ListN.{length, get_or, drop, length-map}
use Rattle.lists.specs.Lists.{filter, find_index, remove_at}
use Rattle.lists.proofs.Laws.{filter-append, find_index-none, filter-first, filter-others}
use Rattle.lists.proofs.Tests.{by_answer}
use Rattle.message.specs.declared.Message.{Message}
use Rattle.session.specs.declared.Session.{Session}
use Rattle.session.proofs.WellFormed.{held_fits}
use Rattle.item.specs.declared.Event.{Event}
use Rattle.item.specs.declared.Event.TheVariants.{Nothing}
use Rattle.item.specs.declared.Item.{Item}
use Rattle.item.specs.Record.{packed}
use Rattle.item.specs.Rules as Rules
use Rattle.item.proofs.WellFormed.{queue-whole}
use Rattle.mailbox.specs.Entry.{Entry, unused, earliest, on_route, to_item, to_session, from_session, from_item}
use Rattle.mailbox.specs.Layout as Mail
use Rattle.mailbox.proofs.EntryLaws.{route-facts}
use Rattle.table.specs.Layout as Table
use Rattle.table.proofs.Laws as TableLaws
use Rattle.waits.specs.Waits
use Rattle.waits.specs.OnTable.{locks, waits_for}
use Rattle.waits.proofs.Changes.{cycle-length-same}
use Rattle.step.specs.Step as Step
use Rattle.step.specs.Step.{Plan, delivered, item_receives, session_acts, plan}
use Rattle.step.specs.Parts.{Judged, Unhindered}
use Rattle.step.specs.Frame.{Party, session, item, actor, route_sender, sender, receiver, takes, sent_by, Touches}
use Rattle.step.proofs.Acting.{item_acts, session_acting}
use Rattle.step.proofs.Form.{item_keeps, session_keeps}

-- ---- the table
-- a record put into a table is read there, and touches no other
module _ (table : List ℕ) (sized : Table.sized table ≡ true) where
  session-touches : (t : ℕ) → 1 ≤ t → t ≤ Table.sessions_of table → (s : Session) → length s.juniors ≡ 64 → Touches (session t) table (Table.with_session table t s)
  session-touches t l h s j = record {
    config = TableLaws.config_of-with_session table sized t l h s j;
    sessions = λ i g _ n. TableLaws.other-with_session table sized t l h s j i g (λ e. n (ap session e));
    items = λ x _ _ _. TableLaws.item-with_session table sized t l h s j x;
  }

  item-touches : (x : ℕ) → 1 ≤ x → x ≤ Table.items_of table → (i : Item) → length i.queue ≡ 64 → Touches (item x) table (Table.with_item table x i)
  item-touches x l h i q = record {
    config = TableLaws.config_of-with_item table sized x l h i q;
    sessions = λ t g m _. TableLaws.session-with_item table sized x l h i q t g m;
    items = λ y g _ n. TableLaws.other-with_item table sized x l h i q y g (λ e. n (ap item e));
  }

-- the record that a step writes is that of its party, and what it writes is what the party does
module _ (t x : ℕ) (table mail : List ℕ) (j : Judged t x table mail) where
  abbrev entries : List Entry
  entries = Mail.entries_of mail

  abbrev entry : ℕ → Entry
  entry verb = get_or entries (delivered verb t x entries) unused

  abbrev after : ℕ → List ℕ
  after verb = (plan (Table.senior table) verb t x table entries).table

  pub record ItemWritten : Type 0 where
    pub touches : Touches (item x) table (after Step.deliver_to_item)
    pub here : Table.item (after Step.deliver_to_item) x ≡ packed (item_receives (Table.senior table) (locks table x) (entry Step.deliver_to_item)).lock

  pub item-written : Unhindered Step.deliver_to_item t x table entries → ItemWritten
  item-written u =
      let k = (item_keeps t x table mail j u).lock in
      let few = (TableLaws.sized-facts table j.formed.records.sized).max-sessions in
      let r = item_receives (Table.senior table) (locks table x) (entry Step.deliver_to_item) in
      let whole = queue-whole (Table.sessions_of table) few r.lock k in
      let is = ap (λ (p : Plan). p.table) (item_acts (Table.senior table) Step.deliver_to_item t x table entries refl) in
      record {
        touches = rw (is) (item-touches table j.formed.records.sized x j.item-low j.item-high (packed r.lock) whole);
        here = rw (is) (TableLaws.item-with_item table j.formed.records.sized x j.item-low j.item-high (packed r.lock) whole);
      }

  pub record SessionWritten (verb : ℕ) : Type 0 where
    pub touches : Touches (session t) table (after verb)
    pub here : Table.session (after verb) t ≡ (session_acts (Table.senior table) verb t x (Table.session table t) (entry verb)).session

  pub session-written : (verb : ℕ) → 1 ≤ verb → verb ≤ 4 → eqb verb Step.deliver_to_item ≡ false → Unhindered verb t x table entries → SessionWritten verb
  session-written verb low high e u =
      let k = session_keeps t x table mail j verb low high e u in
      let few = (TableLaws.sized-facts table j.formed.records.sized).max-items in
      let r = session_acts (Table.senior table) verb t x (Table.session table t) (entry verb) in
      let is = ap (λ (p : Plan). p.table) (session_acting (Table.senior table) verb t x table entries e) in
      record {
        touches = rw (is) (session-touches table j.formed.records.sized t j.session-low j.session-high r.session k.juniors);
        here = rw (is) (TableLaws.session-with_session table j.formed.records.sized t j.session-low j.session-high r.session k.juniors (held_fits (Table.sessions_of table) (Table.items_of table) r.session few k.session));
      }

-- ---- the entries
-- what a step takes is sent to its party
taken-by : (a b : Bool) (t x : ℕ) (e : Entry) → cond a (on_route to_item t x e) (cond b (on_route to_session t x e) false) ≡ true → receiver e ≡ cond a (item x) (session t)
taken-by true b t x e p = let f = route-facts to_item t x e p in rw (f.direction, f.item) refl
taken-by false true t x e p = let f = route-facts to_session t x e p in rw (f.direction, f.session) refl
taken-by false false t x e p = absurd (false≢true p)

pub taken_own : (verb t x : ℕ) (e : Entry) → takes verb t x e ≡ true → receiver e ≡ actor verb t x
unfolding takes actor
taken_own verb t x e p = taken-by (eqb verb Step.deliver_to_item) (eqb verb Step.deliver_to_session) t x e p

-- it is the first that the step takes
delivered-by : (a b : Bool) (t x : ℕ) (l : List Entry)
    → cond a (earliest to_item t x l) (cond b (earliest to_session t x l) (length l)) ≡ find_index (λ e. cond a (on_route to_item t x e) (cond b (on_route to_session t x e) false)) l
delivered-by true b t x l = refl
delivered-by false true t x l = refl
delivered-by false false t x l = sym (find_index-none (λ _. false) (λ _. refl) l)

pub delivered-first : (verb t x : ℕ) (l : List Entry) → delivered verb t x l ≡ find_index (takes verb t x) l
unfolding delivered takes
delivered-first verb t x l = delivered-by (eqb verb Step.deliver_to_item) (eqb verb Step.deliver_to_session) t x l

module _ (senior : ℕ → ℕ → Bool) (verb t x : ℕ) (table : List ℕ) (l : List Entry) where
  abbrev sent : List Entry
  sent = sent_by senior verb t x table l

  abbrev remaining : List Entry
  remaining = remove_at (find_index (takes verb t x) l) l

  abbrev taken : Entry
  taken = get_or l (delivered verb t x l) unused

  pub sent-item : eqb verb Step.deliver_to_item ≡ true → sent ≡ map (from_item x) (item_receives senior (locks table x) taken).sends
  unfolding sent_by
  sent-item e = rw (e) refl

  pub sent-session : eqb verb Step.deliver_to_item ≡ false → sent ≡ map (from_session t) (session_acts senior verb t x (Table.session table t) taken).sends
  unfolding sent_by
  sent-session e = rw (e) refl

  -- the entries after it: those before, without the first that it takes, then what it sends
  pub entries-after : (plan senior verb t x table l).entries ≡ remaining ++ sent
  entries-after =
      by_answer (eqb verb Step.deliver_to_item)
      (λ e. ap (λ (p : Plan). p.entries) (item_acts senior verb t x table l e) ∙ ap (λ (r : List Entry). remove_at (delivered verb t x l) l ++ r) (sym (sent-item e)))
      (λ e. ap (λ (p : Plan). p.entries) (session_acting senior verb t x table l e) ∙ ap (λ (r : List Entry). remove_at (delivered verb t x l) l ++ r) (sym (sent-session e)))
      ∙ ap (λ (k : ℕ). remove_at k l ++ sent) (delivered-first verb t x l)

  -- how many it sends, and what happens at it
  pub sent-number : (plan senior verb t x table l).sent ≡ length sent
  sent-number =
      by_answer (eqb verb Step.deliver_to_item)
      (λ e. ap (λ (p : Plan). p.sent) (item_acts senior verb t x table l e) ∙ sym (length-map (item_receives senior (locks table x) taken).sends (from_item x)) ∙ ap length (sym (sent-item e)))
      (λ e. ap (λ (p : Plan). p.sent) (session_acting senior verb t x table l e) ∙ sym (length-map (session_acts senior verb t x (Table.session table t) taken).sends (from_session t)) ∙ ap length (sym (sent-session e)))

  pub item-event : eqb verb Step.deliver_to_item ≡ true → (plan senior verb t x table l).event ≡ (item_receives senior (locks table x) taken).event
  item-event e = ap (λ (p : Plan). p.event) (item_acts senior verb t x table l e)

  pub session-event : eqb verb Step.deliver_to_item ≡ false → (plan senior verb t x table l).event ≡ Nothing
  session-event e = ap (λ (p : Plan). p.event) (session_acting senior verb t x table l e)

  -- the entries of a route: one that it takes from, and any other
  module _ (D T X : ℕ) where
    abbrev route : List Entry → List Entry
    route = filter (on_route D T X)

    pub route-taken : takes verb t x ≡ on_route D T X → route (plan senior verb t x table l).entries ≡ drop 1 (route l) ++ route sent
    route-taken e =
        ap route entries-after ∙ filter-append (on_route D T X) remaining sent
        ∙ ap (λ (p : Entry → Bool). route (remove_at (find_index p l) l) ++ route sent) e
        ∙ ap (λ (r : List Entry). r ++ route sent) (filter-first (on_route D T X) l)

    pub route-kept : ((e : Entry) → takes verb t x e ≡ true → on_route D T X e ≡ false) → route (plan senior verb t x table l).entries ≡ route l ++ route sent
    route-kept apart =
        ap route entries-after ∙ filter-append (on_route D T X) remaining sent
        ∙ ap (λ (r : List Entry). r ++ route sent) (filter-others (takes verb t x) (on_route D T X) apart l)

-- a step sends from its party alone: on a route of another sender it sends nothing
module _ (D T X : ℕ) where
  abbrev SentFrom : Party → List Entry → Type 0
  SentFrom p l = (filter (on_route D T X) l ≡ []) ⊎ (route_sender D T X ≡ p)

  all_from : (p : Party) (f : Message → Entry) → ((m : Message) → sender (f m) ≡ p) → (l : List Message) → SentFrom p (map f l)
  unfolding filter
  all_from p f own [] = inl refl
  all_from p f own (m ∷ l) =
      by_answer (on_route D T X (f m))
      (λ q. let r = route-facts D T X (f m) q in inr (rw (sym r.direction, sym r.session, sym r.item) (own m)))
      (λ q. rw (q) (all_from p f own l))

  pub sent-own : (senior : ℕ → ℕ → Bool) (verb t x : ℕ) (table : List ℕ) (l : List Entry) → SentFrom (actor verb t x) (sent_by senior verb t x table l)
  unfolding sent_by actor
  sent-own senior verb t x table l =
      let e = get_or l (delivered verb t x l) unused in
      by_answer (eqb verb Step.deliver_to_item)
      (λ q. rw (q) (all_from (item x) (from_item x) (λ _. refl) (item_receives senior (locks table x) e).sends))
      (λ q. rw (q) (all_from (session t) (from_session t) (λ _. refl) (session_acts senior verb t x (Table.session table t) e).sends))

-- ---- `closed` reads besides who is reached from its session by waits
pub closed_reads : (t : ℕ) (table other : List ℕ) (e : Event) → Table.sessions_of other ≡ Table.sessions_of table
    → ((k : ℕ) → Waits.reached (waits_for other) k t ≡ Waits.reached (waits_for table) k t) → Step.closed t other e ≡ Step.closed t table e
closed_reads t table other e s same =
    ap (λ (n : ℕ). cond (Rules.joined e && not (eqb n 0)) 1 0)
    (ap (λ (n : ℕ). Waits.cycle_length (waits_for other) n t) s ∙ cycle-length-same (waits_for table) (waits_for other) (Table.sessions_of table) t same)
