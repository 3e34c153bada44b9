-- What a step that was judged knows of its buffers, and what it does by the tests that the code makes.
use mathlib.Core.Path.{◌≡◌, refl, sym, ap, ◌∙◌}
use mathlib.Core.Bool.{Bool, true, false, cond}
use mathlib.Core.List.{List, [], ◌∷◌, ◌++◌, map}
use mathlib.Core.Logic.{◌≢◌}
use Prim.Native.Nat.{ℕ, zero, suc, ◌+◌, ◌≤◌, ◌<◌}
use native.Mathlib.Omega.{arith}
use lib.Dec.{eqb, ltb}
use lib.ListN.{length, get_or, length-append, length-map}
use borrow.Author.Tests.{ne_eqb, eqb-true, eqb-false, ltb-false}
use Rattle.lists.specs.Lists.{between, all_of, remove_at}
use Rattle.lists.proofs.Laws.{find_index-length, remove_at_le, remove_at-past}
use Rattle.lists.proofs.Tests.{and_intro, between_intro, by_answer, by-test, refuted}
use Rattle.buffer.proofs.Laws.{AreBytes}
use Rattle.message.specs.declared.Message.{Message}
use Rattle.message.specs.Outbox as Outbox
use Rattle.session.proofs.Laws.{requested-length, received-length}
use Rattle.session.specs.declared.Session.{Session}
use Rattle.session.specs.Rules as Session
use Rattle.item.specs.NextHolder.{next_holder}
use Rattle.item.specs.Record.{Packed}
use Rattle.item.proofs.Laws.{received-fits, queue-length}
use Rattle.mailbox.specs.Entry.{Entry, unused, on_route, to_item, to_session, seen_by_item, seen_by_session}
use Rattle.mailbox.specs.Layout as Mail
use Rattle.mailbox.specs.Layout.{Kept, capacity_of, count_of, entry_at, entries_of, mail_bytes}
use Rattle.mailbox.proofs.Laws as MailLaws
use Rattle.mailbox.proofs.EntryLaws.{entry-facts}
use Rattle.table.specs.Layout as Table
use Rattle.table.proofs.Laws as TableLaws
use Rattle.waits.specs.OnTable.{locks}
use Rattle.refusal.specs.Refusal
use Rattle.refusal.specs.Refusal.{cause, first}
use Rattle.step.specs.Step as Step
use Rattle.step.specs.Step.{Plan, Stepped, delivered, item_receives, session_receives, session_acts, session_plan, item_plan, plan, stage_forbids, mask_forbids, nothing_to_deliver, step_causes, hindered, overfull, acted, stepped, refused_answer, unless, committed}
use Rattle.step.specs.Parts.{Judged, Unhindered, ForItem, ForSession, Fitting, fitting, room_made, concluded}
use Rattle.refusal.proofs.Causes.{first_stops, first-goes-on, unmet}

-- what a step that was judged knows of its buffers
module _ (t x : ℕ) (table mail : List ℕ) (j : Judged t x table mail) where
  pub max-sessions : Table.sessions_of table ≤ 64
  max-sessions = (TableLaws.sized-facts table j.formed.records.sized).max-sessions

  pub max-items : Table.items_of table ≤ 64
  max-items = (TableLaws.sized-facts table j.formed.records.sized).max-items

  pub item-max : x ≤ 64
  item-max = omega (arith, j.item-high, max-items)

  pub mail-head : 4 ≤ length mail
  mail-head = (MailLaws.sized-facts mail j.formed.mail-sized).head

  pub mail-kept : AreBytes mail → Kept mail
  mail-kept b = MailLaws.formed-kept (Table.sessions_of table) (Table.items_of table) mail j.formed.mail-sized j.formed.mail-formed b

  pub juniors-whole : length (Table.session table t).juniors ≡ 64
  juniors-whole = TableLaws.juniors-length table j.formed.records.sized t j.session-low j.session-high

  pub has-session : Table.HasSession table t
  has-session = record { sized = j.formed.records.sized; low = j.session-low; high = j.session-high }

  pub has-item : Table.HasItem table x
  has-item = record { sized = j.formed.records.sized; low = j.item-low; high = j.item-high }

  pub item-packed : Packed (Table.item table x)
  item-packed = TableLaws.packed-item table j.formed.records.sized j.formed.records.formed x j.item-low j.item-high

  -- an entry that a session is handed
  pub deliverable : (k : ℕ) → k < count_of mail → Session.Deliverable (seen_by_session (entry_at mail k))
  deliverable k h =
      let S = Table.sessions_of table in
      let M = Table.items_of table in
      let f = entry-facts S M (entry_at mail k) (MailLaws.formed-entry S M mail j.formed.mail-formed k h) in
      record {
        from_low = f.item-low;
        from-high = omega (arith, f.item-high, max-items);
        initiator = λ e. (f.a-low (rw (e) refl), omega (arith, f.a-high, max-sessions));
      }

  -- what the item or the session is handed entry k with
  pub for-item : (k : ℕ) → Mail.Stands mail k → ForItem x k table mail
  for-item k h = record { item = has-item; packed = item-packed; entry = h }

  pub for-session : (k : ℕ) → Mail.Stands mail k → ForSession t k table mail
  for-session k h = record { session = has-session; deliverable = deliverable k h.inside; entry = h }

-- the verbs are 1 to 4
pub by-verb : (P : ℕ → Type 0) → P 1 → P 2 → P 3 → P 4 → (n : ℕ) → 1 ≤ n → n ≤ 4 → P n
by-verb P a b c d zero l h = absurd (omega arith)
by-verb P a b c d (suc zero) l h = a
by-verb P a b c d (suc (suc zero)) l h = b
by-verb P a b c d (suc (suc (suc zero))) l h = c
by-verb P a b c d (suc (suc (suc (suc zero)))) l h = d
by-verb P a b c d (suc (suc (suc (suc (suc n))))) l h = absurd (omega arith)

-- the place of what is delivered lies in the list, or at its end
cond-length : (a b : Bool) (i j n : ℕ) → i ≤ n → j ≤ n → cond a i (cond b j n) ≤ n
cond-length true b i j n h l = h
cond-length false true i j n h l = l
cond-length false false i j n h l = omega arith

pub delivered-length : (verb t x : ℕ) (l : List Entry) → delivered verb t x l ≤ length l
unfolding delivered
delivered-length verb t x l =
    cond-length (eqb verb Step.deliver_to_item) (eqb verb Step.deliver_to_session) _ _ (length l) (find_index-length (on_route to_item t x) l) (find_index-length (on_route to_session t x) l)

-- ---- the mailbox without entry k, which may be past the end
-- the entries that are left and those that are sent
pub length-sent : (rest : List Entry) (f : Message → Entry) (l : List Message) → length (rest ++ map f l) ≡ length rest + length l
length-sent rest f l = length-append rest (map f l) ∙ ap (λ (n : ℕ). length rest + n) (length-map l f)

pub record Without (mail : List ℕ) (k : ℕ) : Type 0 where
  pub kept : Kept (mail_bytes (capacity_of mail) (remove_at k (entries_of mail)))
  pub capacity : capacity_of (mail_bytes (capacity_of mail) (remove_at k (entries_of mail))) ≡ capacity_of mail
  pub entries : entries_of (mail_bytes (capacity_of mail) (remove_at k (entries_of mail))) ≡ remove_at k (entries_of mail)
  pub count : count_of (mail_bytes (capacity_of mail) (remove_at k (entries_of mail))) ≡ length (remove_at k (entries_of mail))

pub without-entry : (mail : List ℕ) → Kept mail → (k : ℕ) → Without mail k
without-entry mail h k =
    let C = capacity_of mail in
    let l = remove_at k (entries_of mail) in
    let fits : length l ≤ C = omega (arith, remove_at_le k (entries_of mail), MailLaws.length-entries mail, h.fits) in
    record {
      kept = MailLaws.kept-mail C l h.low h.high fits;
      capacity = MailLaws.capacity-mail C l h.low h.high fits;
      entries = MailLaws.entries-mail C l h.low h.high fits;
      count = MailLaws.count-mail C l h.low h.high fits;
    }

-- ---- whether there is room beside the entries that are left
refused-room : {refusal : ℕ} {mail : List ℕ} (o : Bool) (m n : List ℕ) → (refusal ≡ 0 → ⊥) → fitting refusal mail ≡ cond o (fitting Refusal.mail_full m) (fitting 0 n)
    → (o ≡ true) × (refusal ≡ Refusal.mail_full) × (mail ≡ m)
refused-room true m n e q = (refl, ap (λ (p : Fitting). p.refusal) q, ap (λ (p : Fitting). p.mail) q)
refused-room false m n e q = absurd (e (ap (λ (p : Fitting). p.refusal) q))

granted-room : {refusal : ℕ} {mail : List ℕ} (o : Bool) (m n : List ℕ) → refusal ≡ 0 → fitting refusal mail ≡ cond o (fitting Refusal.mail_full m) (fitting 0 n) → (o ≡ false) × (mail ≡ n)
granted-room true m n e q = absurd (omega (arith, e, ap (λ (p : Fitting). p.refusal) q))
granted-room false m n e q = (refl, ap (λ (p : Fitting). p.mail) q)

module _ (mail : List ℕ) (k n : ℕ) {refusal : ℕ} {after : List ℕ} (made : fitting refusal after ≡ room_made mail (remove_at k (entries_of mail)) n) where
  abbrev left : List Entry
  left = remove_at k (entries_of mail)

  pub no_room : (refusal ≡ 0 → ⊥) → (f : Message → Entry) (l : List Message) → n ≡ length l
      → (overfull (capacity_of mail) (left ++ map f l) ≡ true) × (refusal ≡ Refusal.mail_full) × (after ≡ mail)
  no_room e f l c =
      let p = refused-room (ltb (capacity_of mail) (length left + n)) mail (mail_bytes (capacity_of mail) left) e made in
      (rw (length-sent left f l, sym c) p.0, p.1, p.2)

  module _ (kept : Kept mail) (e : refusal ≡ 0) where
    granted : (ltb (capacity_of mail) (length left + n) ≡ false) × (after ≡ mail_bytes (capacity_of mail) left)
    granted = granted-room (ltb (capacity_of mail) (length left + n)) mail (mail_bytes (capacity_of mail) left) e made

    pub has_room : (l : List Message) → n ≡ length l → Mail.Room after l
    has_room l c =
        let w = without-entry mail kept k in
        rw granted.1
        (record { kept = w.kept; fits = rw (w.capacity, w.count) (omega (arith, c, ltb-false (capacity_of mail) (length left + n) granted.0)) })

    pub room-filled : (f : Message → Entry) (l : List Message) → n ≡ length l → {filled : List ℕ} → filled ≡ mail_bytes (capacity_of after) (entries_of after ++ map f l)
        → (overfull (capacity_of mail) (left ++ map f l) ≡ false) × (filled ≡ mail_bytes (capacity_of mail) (left ++ map f l))
    room-filled f l c q =
        let w = without-entry mail kept k in
        (rw (length-sent left f l, sym c) granted.0, rw (q, granted.1, w.capacity, w.entries) refl)

-- ---- what a step does
-- an item sends no more than an outbox has places for
pub item-sends-few : (senior : ℕ → ℕ → Bool) (x : ℕ) (table : List ℕ) (e : Entry) → Packed (Table.item table x) → length (item_receives senior (locks table x) e).sends ≤ Outbox.room
unfolding locks
item-sends-few senior x table e p =
    omega (arith, received-fits senior (next_holder senior) (locks table x) (seen_by_item e) (omega (arith, p.fits, queue-length (Table.item table x) p)))

-- a session sends at most a request and 64 probes
module _ (senior : ℕ → ℕ → Bool) (t : ℕ) (s : Session) (h : length s.juniors ≡ 64) (e : Entry) where
  pub session-sends-few : length (session_receives senior t s e).sends ≤ 65
  session-sends-few = received-length s h senior t (seen_by_session e)

  pub acts_few : (verb x : ℕ) → length (session_acts senior verb t x s e).sends ≤ 65
  unfolding session_acts Session.released
  acts_few verb x =
      by-test Few (eqb verb Step.request) (λ _. requested-length s h x)
      (λ _. by-test Few (eqb verb Step.release) (λ _. omega arith) (λ _. session-sends-few))
    where
      Few : Session.After → Type 0
      Few r = length r.sends ≤ 65

-- ---- the causes of a step
module _ (verb t x : ℕ) (table : List ℕ) (entries : List Entry) where
  -- where none of them holds, none hinders it
  pub unhindered : first (step_causes verb t x table entries) ≡ 0 → Unhindered verb t x table entries
  unhindered e =
      let s = unmet (stage_forbids verb (Table.session table t).stage) 5 _ e in
      let m = unmet (mask_forbids verb x (Table.session table t).held) 6 _ s.1 in
      let r = unmet (nothing_to_deliver verb (delivered verb t x entries) entries) 7 _ m.1 in
      record { stage = s.0; mask = m.0; route = r.0 }

  -- a delivery that none hinders finds its entry
  pub delivers : Unhindered verb t x table entries → 1 ≤ verb → verb ≤ 4 → (verb ≡ Step.request → ⊥) → (verb ≡ Step.release → ⊥) → delivered verb t x entries < length entries
  delivers u low high a b =
      let k = delivered verb t x entries in
      let is : between 3 4 verb ≡ true = between_intro 3 4 verb (omega (arith, a, b)) high in
      let other = eqb-false k (length entries) (refuted (eqb k (length entries)) (nothing_to_deliver verb k entries) (λ q. and_intro is q) u.route) in
      omega (arith, other, delivered-length verb t x entries)

module _ (senior : ℕ → ℕ → Bool) (verb t x : ℕ) (table mail : List ℕ) where
  abbrev causes : ℕ
  causes = first (step_causes verb t x table (entries_of mail))

  abbrev planned : Plan
  planned = plan senior verb t x table (entries_of mail)

  pub acted-refused : (causes ≡ 0 → ⊥) → acted senior verb t x table mail ≡ stepped (refused_answer causes) table mail
  unfolding acted hindered
  acted-refused h = rw (first_stops (step_causes verb t x table (entries_of mail)) _ h, ne_eqb causes 0 h) refl

  tail : (b : Bool) (r : Stepped) → unless (cond b Refusal.mail_full 0) table mail r ≡ cond b (stepped (refused_answer Refusal.mail_full) table mail) r
  tail true r = refl
  tail false r = refl

  -- what no cause but room can hinder
  pub acted-concluded : causes ≡ 0 → acted senior verb t x table mail ≡ concluded t table mail planned
  unfolding acted hindered first all_of
  acted-concluded e =
      rw (first-goes-on (step_causes verb t x table (entries_of mail)) (cause (overfull (capacity_of mail) planned.entries) Refusal.mail_full ∷ []) refl e)
      (tail (overfull (capacity_of mail) planned.entries) (committed t (capacity_of mail) planned))

  -- a step that was judged is refused, or nothing hinders it and it does what is planned
  pub by-outcome : (P : Stepped → Type 0) → ((n : ℕ) → n ≢ 0 → P (stepped (refused_answer n) table mail))
      → (Unhindered verb t x table (entries_of mail) → length planned.entries ≤ capacity_of mail → P (committed t (capacity_of mail) planned))
      → P (acted senior verb t x table mail)
  by-outcome P refused done =
      by_answer (eqb causes 0)
      (λ e. let z = eqb-true causes 0 e in
      rw (acted-concluded z)
      (by-test P (overfull (capacity_of mail) planned.entries) (λ _. refused Refusal.mail_full (λ q. absurd (omega (arith, q))))
      (λ f. done (unhindered verb t x table (entries_of mail) z) (ltb-false (capacity_of mail) (length planned.entries) f))))
      (λ e. rw (acted-refused (eqb-false causes 0 e)) (refused causes (eqb-false causes 0 e)))

-- an item acts in a delivery to it, a session in every other step
module _ (senior : ℕ → ℕ → Bool) (verb t x : ℕ) (table : List ℕ) (entries : List Entry) where
  abbrev taken : Entry
  taken = get_or entries (delivered verb t x entries) unused

  abbrev rest : List Entry
  rest = remove_at (delivered verb t x entries) entries

  pub item_acts : eqb verb Step.deliver_to_item ≡ true → plan senior verb t x table entries ≡ item_plan x table rest (item_receives senior (locks table x) taken)
  unfolding plan
  item_acts e = rw (e) refl

  pub session_acting : eqb verb Step.deliver_to_item ≡ false → plan senior verb t x table entries ≡ session_plan t table rest (session_acts senior verb t x (Table.session table t) taken)
  unfolding plan
  session_acting e = rw (e) refl

-- a request and a release deliver nothing
module _ (senior : ℕ → ℕ → Bool) (t x : ℕ) (table : List ℕ) (entries : List Entry) where
  pub request-plan : plan senior Step.request t x table entries ≡ session_plan t table entries (Session.requested x (Table.session table t))
  unfolding plan delivered session_acts
  request-plan = rw (remove_at-past (length entries) entries (omega arith)) refl

  pub release-plan : plan senior Step.release t x table entries ≡ session_plan t table entries (Session.released x (Table.session table t))
  unfolding plan delivered session_acts
  release-plan = rw (remove_at-past (length entries) entries (omega arith)) refl
