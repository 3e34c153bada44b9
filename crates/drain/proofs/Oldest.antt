-- The delivery of an entry, the earliest of its route: only room can hinder it, and the other entries are left.
use mathlib.Core.Path.{◌≡◌, refl, sym, ap, subst, ◌∙◌}
use mathlib.Core.Bool.{Bool, true, false, cond, ◌&&◌, true≢false}
use mathlib.Core.List.{List, ◌++◌, map}
use mathlib.Core.Logic.{◌⊎◌, inl, inr, ⊎_elim}
use Prim.Native.Nat.{ℕ, ◌+◌, ◌<◌}
use native.Mathlib.Omega.{arith}
use lib.Dec.{eqb}
use lib.ListN.{length}
use borrow.Author.Tests.{eq-eqb, ne_eqb, leb-true, leb-false, lt-ltb, le-ltb}
use Rattle.lists.specs.Lists.{remove_at}
use Rattle.lists.proofs.Laws.{find_index-first}
use Rattle.lists.proofs.Tests.{by_answer, and_both, eqb_self}
use Rattle.message.specs.declared.Message.{Message}
use Rattle.item.specs.declared.Event.{Event}
use Rattle.mailbox.specs.Entry.{Entry, unused, to_item, to_session, on_route, earliest}
use Rattle.mailbox.specs.Layout.{capacity_of, count_of, entry_at, entries_of, mail_bytes, Stands}
use Rattle.mailbox.proofs.Laws as MailLaws
use Rattle.mailbox.proofs.EntryLaws.{EntryFacts, entry-facts}
use Rattle.table.specs.Layout as Table
use Rattle.waits.specs.OnTable.{locks}
use Rattle.std.specs.Prelude.{Option, Some, None, Result, Ok, Err, IfOk, is_some}
use Rattle.refusal.specs.declared.Refusal.{Refusal}
use Rattle.refusal.specs.Number as Number
use Rattle.refusal.specs.Refusal as Refusal
use Rattle.refusal.specs.Refusal.{first}
use Rattle.step.specs.Step as Step
use Rattle.step.specs.Step.{Plan, Stepped, Formed, delivered, item_receives, session_receives, session_acts, session_plan, item_plan, plan, step_causes, overfull, stepped, refused_answer}
use Rattle.step.specs.Parts.{Judged, ForItem, ForSession, concluded}
use Rattle.step.proofs.Acting as Acting
use Rattle.step.proofs.Acting.{acted-concluded, length-sent, deliverable, item-packed}
use Rattle.drain.specs.Oldest.{verb_of, EarliestAt, acted_at}
use Rattle.drain.specs.declared.Gap.{Gap}
use Rattle.drain.specs.Parts.{in_use, closed_up, GapIn, Due, longer, fits, refusal_of, is_made, Sent, Outcome, outcome, outcome_of, Delivers}
use Rattle.drain.proofs.Gaps.{left, some_left, entry-left, others-left}

-- a delivery that is not refused is made where it is allowed
allowed_is : (d : Result (Option Gap) Refusal) (fit allowed : Bool) → Number.outcome d ≡ refusal_of fit → is_made d ≡ fit && allowed → IfOk d (λ h. is_some h ≡ allowed)
allowed_is (Ok (Some h)) true allowed e m = m
allowed_is (Ok (Some h)) false allowed e m = absurd (true≢false m)
allowed_is (Ok None) true allowed e m = m
allowed_is (Ok None) false allowed e m = absurd (omega (arith, e))
allowed_is (Err x) fit allowed e m = tt

-- what a step comes to that only room can hinder: p is what it plans
module _ (t : ℕ) (table mail : List ℕ) (p : Plan) where
  -- it is refused with 9 and changes nothing, or accepted
  by-room : (concluded t table mail p ≡ stepped (refused_answer Refusal.mail_full) table mail) ⊎ ((concluded t table mail p).answer.refusal ≡ 0)
  by-room = by_answer (overfull (capacity_of mail) p.entries) (λ e. inl (rw (e) refl)) (λ e. inr (rw (e) refl))

  no_room : overfull (capacity_of mail) p.entries ≡ true → (allowed : Bool) → outcome Refusal.mail_full table mail ≡ outcome_of allowed table mail (concluded t table mail p)
  no_room e true = rw (e) refl
  no_room e false = rw (e) refl

  only-judged : overfull (capacity_of mail) p.entries ≡ false → outcome 0 table mail ≡ outcome_of false table mail (concluded t table mail p)
  only-judged e = rw (e) refl

  made : overfull (capacity_of mail) p.entries ≡ false → outcome 0 p.table (mail_bytes (capacity_of mail) p.entries) ≡ outcome_of true table mail (concluded t table mail p)
  made e = rw (e) refl

-- what the delivery of an entry plans, to its item or to its session
module _ (e : Entry) (rest : List Entry) (table : List ℕ) where
  abbrev item_planned : Plan
  item_planned = item_plan e.item table rest (item_receives (Table.senior table) (locks table e.item) e)

  abbrev session_planned : Plan
  session_planned = session_plan e.session table rest (session_receives (Table.senior table) e.session (Table.session table e.session) e)

  -- by its direction
  abbrev directed : Plan
  directed = cond (eqb e.direction to_item) item_planned session_planned

-- the oldest entry is the earliest of its route
pub oldest-earliest : (mail : List ℕ) (k : ℕ) → k ≡ 0 → k < count_of mail → EarliestAt k mail
oldest-earliest mail k oldest inside =
    let e = entry_at mail k in
    find_index-first (on_route e.direction e.session e.item) (entries_of mail) unused k (omega (arith, MailLaws.length-entries mail))
    (rw (MailLaws.get_d_entries mail k inside, eqb_self e.direction, eqb_self e.session, eqb_self e.item) refl)
    (λ j h. absurd (omega (arith, h, oldest)))

-- an entry of well-formed buffers
module _ (table mail : List ℕ) (f : Formed table mail) (k : ℕ) (inside : k < count_of mail) where
  abbrev entry : Entry
  entry = entry_at mail k

  abbrev others : List Entry
  others = remove_at k (entries_of mail)

  facts : EntryFacts (Table.sessions_of table) (Table.items_of table) entry
  facts =
      entry-facts (Table.sessions_of table) (Table.items_of table) entry (MailLaws.formed-entry (Table.sessions_of table) (Table.items_of table) mail f.mail-formed k inside)

  pub entry-judged : Judged entry.session entry.item table mail
  entry-judged = let e = facts in record { formed = f; session-low = e.session-low; session-high = e.session-high; item-low = e.item-low; item-high = e.item-high }

  not_none : eqb k (length (entries_of mail)) ≡ false
  not_none = ne_eqb k (length (entries_of mail)) (λ q. absurd (omega (arith, q, inside, MailLaws.length-entries mail)))

  -- no cause but room can hinder its delivery, and this is its plan, whether it runs to its item or not
  abbrev Delivered : Bool → Type 0
  Delivered b =
      let verb = cond b Step.deliver_to_item Step.deliver_to_session in
      (first (step_causes verb entry.session entry.item table (entries_of mail)) ≡ 0)
      × (plan (Table.senior table) verb entry.session entry.item table (entries_of mail) ≡ cond b (item_planned entry others table) (session_planned entry others table))

  module _ (at : EarliestAt k mail) where
    found : (d : ℕ) → entry.direction ≡ d → earliest d entry.session entry.item (entries_of mail) ≡ k
    found d h = subst (λ (d : ℕ). earliest d entry.session entry.item (entries_of mail) ≡ k) h at

    delivered-there : (entry.direction ≡ to_item) ⊎ (entry.direction ≡ to_session) → Delivered (eqb entry.direction to_item)
    unfolding plan first delivered session_acts
    delivered-there =
        let here = MailLaws.get_d_entries mail k inside in
        ⊎_elim
        (λ h. subst Delivered (sym (eq-eqb entry.direction to_item h)) (rw (found to_item h, not_none) refl, rw (found to_item h, here) refl))
        (λ h. subst Delivered (sym (ne_eqb entry.direction to_item (λ q. absurd (omega (arith, h, q))))) (rw (found to_session h, not_none) refl, rw (found to_session h, here) refl))

    -- only room can hinder its delivery
    entry_acts : acted_at k table mail ≡ concluded entry.session table mail (directed entry others table)
    entry_acts =
        let known = delivered-there facts.kinds.direction in
        acted-concluded (Table.senior table) (verb_of entry) entry.session entry.item table mail known.0
        ∙ ap (concluded entry.session table mail) known.1

    -- it is refused with 9 and changes nothing, or accepted
    pub refused_or_accepted : (acted_at k table mail ≡ stepped (refused_answer Refusal.mail_full) table mail) ⊎ ((acted_at k table mail).answer.refusal ≡ 0)
    refused_or_accepted = rw (entry_acts) (by-room entry.session table mail (directed entry others table))

-- where no entry is kept before the gap, the one behind it is the oldest in use
pub oldest_due : (g : Gap) (table mail : List ℕ) → g.from ≡ 0 → GapIn g mail → g.to < count_of mail → Formed table (closed_up g mail) → Due g table mail
oldest_due g table mail oldest s some f =
    record { spent = s; some = some; formed = f; earliest = oldest-earliest (closed_up g mail) g.from oldest (some_left g mail s some) }

-- the entry behind the gap
module _ (g : Gap) (table mail : List ℕ) (due : Due g table mail) where
  abbrev due_entry : Entry
  due_entry = entry_at mail g.to

  some_due : g.from < count_of (closed_up g mail)
  some_due = some_left g mail due.spent due.some

  same-entry : entry_at (closed_up g mail) g.from ≡ due_entry
  same-entry = entry-left g mail due.spent due.some

  due_judged : Judged due_entry.session due_entry.item table (closed_up g mail)
  due_judged = rw (sym same-entry) (entry-judged table (closed_up g mail) due.formed g.from some_due)

  due_stands : Stands mail g.to
  due_stands = record { kept = due.spent.kept; inside = due.some }

  pub has-session : Table.HasSession table due_entry.session
  has-session = Acting.has-session due_entry.session due_entry.item table (closed_up g mail) due_judged

  pub has-item : Table.HasItem table due_entry.item
  has-item = Acting.has-item due_entry.session due_entry.item table (closed_up g mail) due_judged

  -- what the item or the session is handed the entry with
  pub due_for-item : ForItem due_entry.item g.to table mail
  due_for-item =
      record { item = has-item; packed = item-packed due_entry.session due_entry.item table (closed_up g mail) due_judged; entry = due_stands }

  pub due_for-session : ForSession due_entry.session g.to table mail
  due_for-session = record {
    session = has-session;
    deliverable = rw (sym same-entry) (deliverable due_entry.session due_entry.item table (closed_up g mail) due_judged g.from some_due);
    entry = due_stands;
  }

  abbrev others_due : List Entry
  others_due = in_use (longer g) mail

  pub due_acts : acted_at g.from table (closed_up g mail) ≡ concluded due_entry.session table (closed_up g mail) (directed due_entry others_due table)
  due_acts =
      entry_acts table (closed_up g mail) due.formed g.from some_due due.earliest
      ∙ ap (λ (e : Entry). concluded e.session table (closed_up g mail) (directed e (remove_at g.from (entries_of (closed_up g mail))) table)) same-entry
      ∙ ap (λ (l : List Entry). concluded due_entry.session table (closed_up g mail) (directed due_entry l table)) (others-left g mail due.spent due.some)

  -- what the delivery comes to, by whether what is sent fits in with the others
  module _ (after : List ℕ) (f : Message → Entry) (l : List Message) (event : Event) where
    abbrev planned : Plan
    planned = record { table = after; entries = others_due ++ map f l; sent = length l; event = event }

    abbrev done : Stepped
    done = concluded due_entry.session table (closed_up g mail) planned

    abbrev told : Bool → Outcome
    told allowed = outcome_of allowed table (closed_up g mail) done

    same-capacity : capacity_of (closed_up g mail) ≡ capacity_of mail
    same-capacity = (left g mail due.spent).capacity

    -- it stops where there is no room or it is not allowed
    told-full : fits (longer g) (length l) mail ≡ false → (allowed : Bool) → outcome Refusal.mail_full table (closed_up g mail) ≡ told allowed
    told-full e = no_room due_entry.session table (closed_up g mail) planned (rw (same-capacity) (lt-ltb (capacity_of mail) (length (others_due ++ map f l)) (omega (arith, length-sent others_due f l, leb-false (length others_due + length l) (capacity_of mail) e))))

    room-left : fits (longer g) (length l) mail ≡ true → overfull (capacity_of (closed_up g mail)) (others_due ++ map f l) ≡ false
    room-left e = rw (same-capacity) (le-ltb (capacity_of mail) (length (others_due ++ map f l)) (omega (arith, length-sent others_due f l, leb-true (length others_due + length l) (capacity_of mail) e)))

    by_tests : (fit allowed : Bool) → fits (longer g) (length l) mail ≡ fit → fit && allowed ≡ false → outcome (refusal_of fit) table (closed_up g mail) ≡ told allowed
    by_tests false allowed e h = told-full e allowed
    by_tests true false e h = only-judged due_entry.session table (closed_up g mail) planned (room-left e)
    by_tests true true e h = absurd (true≢false h)

    module _ (allowed : Bool) (d : Result (Option Gap) Refusal) (mail' : List ℕ) (a : Sent g allowed f l d mail mail') where
      pub told_stopped : is_made d ≡ false → Delivers g allowed table mail done d table mail'
      told_stopped e =
          let s = a.stays e in
          rw (a.refusal, s.0, s.1) (due.spent, refl, by_tests (fits (longer g) (length l) mail) allowed refl (sym a.made ∙ e), allowed_is d (fits (longer g) (length l) mail) allowed a.refusal a.made)

      both : is_made d ≡ true → (fits (longer g) (length l) mail ≡ true) × (allowed ≡ true)
      both e = and_both (fits (longer g) (length l) mail) allowed (sym a.made ∙ e)

      -- or what is sent is added, and the record written
      pub told-made : is_made d ≡ true → Delivers g allowed table mail done d after mail'
      told-made e =
          let s = a.spent e in
          let b = both e in (
            s.0,
            s.1,
            rw (a.refusal, b.0, b.1, a.added e)
                (ap (λ (C : ℕ). outcome 0 after (mail_bytes C (others_due ++ map f l))) (sym same-capacity) ∙ made due_entry.session table (closed_up g mail) planned (room-left b.0)),
            allowed_is d (fits (longer g) (length l) mail) allowed a.refusal a.made,
          )
