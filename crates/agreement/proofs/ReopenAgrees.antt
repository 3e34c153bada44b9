-- Reopening a session of the lock manager's records, where it is allowed, is the machine's move.
use mathlib.Core.Path.{◌≡◌, refl, sym, ap, ◌∙◌}
use mathlib.Core.Bool.{Bool, true, false, not, ◌&&◌, ◌||◌, or-false}
use mathlib.Core.List.{List, [], ◌∷◌, ◌++◌, map}
use mathlib.Core.Logic.{◌≢◌, ◌⊎◌, inl, inr}
use Prim.Native.Nat.{ℕ, ◌+◌, ◌-◌, ◌≤◌, ◌<◌}
use native.Mathlib.Omega.{arith}
use lib.Dec.{eqb}
use lib.ListN.{length, get_or}
use borrow.Author.Tests.{eqb-true, eqb-false, ltb-true, ne_eqb, not-true}
use Rattle.lists.specs.Lists.{between, all_of, every, find_index, member}
use Rattle.lists.proofs.Laws.{find_index-found, member-find_index}
use Rattle.lists.proofs.Searches.{every_intro}
use Rattle.lists.proofs.Tests.{and_both, and_intro, between_intro, by_answer, by-test, fails, or_neither, within}
use Rattle.mailbox.specs.Entry.{Entry, from_session}
use Rattle.session.specs.Stage
use Rattle.session.specs.declared.Session.{Session}
use Rattle.session.specs.Record as SessionRecord
use Rattle.item.specs.Record.{Lock}
use Rattle.reopen.specs.Reopening.{is_over, stored_names, lock_names, entry_names, no_entry_names}
use Rattle.reopen.proofs.Form.{anew}
use Rattle.deadlock.specs.Machine
use Rattle.agreement.specs.Reading.{read_stage, read_stored, read_holder, read_session, read_item, read_sends, read_sessions, read_entries, read_items, read_state, rules}
use Rattle.agreement.proofs.ReadingSession.{fresh-read, stored-read}
use Rattle.agreement.proofs.MoveAgrees.{Replaced, Given, session-at, session-state}

-- stage 6, or stage 3 with nothing held
pub over-cases : (s : Session) → is_over s ≡ true → (s.stage ≡ Stage.rolled_back) ⊎ ((s.stage ≡ Stage.shrinking) × (s.held ≡ 0))
unfolding is_over
over-cases s h =
    by_answer (eqb s.stage Stage.rolled_back)
    (λ e. inl (eqb-true s.stage Stage.rolled_back e))
    (λ e. let p = and_both (eqb s.stage Stage.shrinking) (eqb s.held 0) (sym (or-false (eqb s.stage Stage.shrinking && eqb s.held 0)) ∙ (rw e at h)) in
    inr (eqb-true s.stage Stage.shrinking p.0, eqb-true s.held 0 p.1))

over-read : (s : Session) → is_over s ≡ true → Machine.is_over (read_session s).stage ≡ true
unfolding read_stage
over-read s h = elim (over-cases s h) [ inl e ↦ rw e refl | inr e ↦ rw e.0 refl ]

pub entries-read : (t : ℕ) (l : List Entry) → no_entry_names t l ≡ true → Machine.none_of_session t (read_entries l) ≡ true
unfolding all_of read_entries no_entry_names entry_names Machine.none_of_session Machine.of_session
entries-read t [] h = refl
entries-read t (e ∷ l) h =
    let p = and_both (not (entry_names t e)) (no_entry_names t l) h in
    let other = (or_neither (eqb e.session t) _ (not-true _ p.0)).0 in
    and_intro (ap not (ne_eqb t e.session (λ q. eqb-false e.session t other (sym q)))) (entries-read t l p.1)

pub item-read : (t : ℕ) → 1 ≤ t → (k : Lock) → Machine.item_names t (read_item k) ≡ lock_names t k
unfolding Machine.item_names read_holder Machine.held_by
item-read t low k =
    ap (λ (b : Bool). b || member t k.queue)
    (by-test (λ o. Machine.held_by o t ≡ eqb k.holder t) (eqb k.holder 0) (λ e. sym (ne_eqb k.holder t (λ q. omega (arith, eqb-true k.holder 0 e, q, low)))) (λ _. refl))

-- a record of whose stored probes none names t, as the machine reads them
module _ (s : Session) (whole : length s.juniors ≡ 64) (t : ℕ) (low : 1 ≤ t) (high : t ≤ 64)
    (h : (i : ℕ) → read_stored s.juniors i ≢ 0 → (i ≢ t) × (read_stored s.juniors i ≢ t)) where
  not-initiator : eqb (get_or s.juniors (t - 1) 0) 0 ≡ true
  not-initiator =
      by_answer (eqb (get_or s.juniors (t - 1) 0) 0) (λ e. e) (λ e. absurd ((h t (λ q. eqb-false _ 0 e (sym (stored-read s.juniors t low high) ∙ q))).0 refl))

  not-junior : member t s.juniors ≡ false
  not-junior = fails (member t s.juniors) (λ e.
      let n = find_index (λ k. eqb k t) s.juniors in
      let inside : n < length s.juniors = ltb-true n (length s.juniors) (sym (member-find_index t s.juniors) ∙ e) in
      let there : get_or s.juniors n 0 ≡ t = eqb-true _ t (find_index-found (λ k. eqb k t) s.juniors 0 inside) in
      let stored : read_stored s.juniors (n + 1) ≡ t = stored-read s.juniors (n + 1) (omega arith) (omega arith) ∙ ap (λ (j : ℕ). get_or s.juniors j 0) (omega arith) ∙ there in
      (h (n + 1) (λ q. omega (arith, q, stored, low))).1 stored)

  pub probes-read : stored_names t s ≡ false
  unfolding stored_names
  probes-read = rw (not-initiator, not-junior) refl

module _ {senior : ℕ → ℕ → Bool} {next : List ℕ → ℕ} {S M : ℕ} {sessions : ℕ → Session} {locks : ℕ → Lock} {l : List Entry} (given : Given senior next S M sessions locks l)
    (t : ℕ) (t-range : between 1 S t ≡ true) where
  abbrev R : Machine.Rules
  R = rules S M senior next

  abbrev before : Machine.State
  before = read_state S M sessions locks l

  -- no item names it
  abbrev NoLock : Type 0
  NoLock = (x : ℕ) → 1 ≤ x → x ≤ M → not (lock_names t (locks x)) ≡ true

  items-read : NoLock → every M (λ (x : ℕ). not (Machine.item_names t (read_items M locks x))) ≡ true
  unfolding read_items
  items-read h = every_intro M _ (λ x low high. rw (between_intro 1 M x low high, item-read t (within 1 S t t-range).0 (locks x)) (h x low high))

  -- what the records allow, the machine allows
  allowed : is_over (sessions t) ≡ true → no_entry_names t l ≡ true → NoLock → Machine.may_reopen R before t ≡ true
  unfolding Machine.may_reopen
  allowed over entries items =
      let stage : Machine.is_over (read_sessions S sessions t).stage ≡ true = rw (session-at S sessions t t-range) (over-read (sessions t) over) in
      and_intro stage (and_intro (entries-read t l entries) (items-read items))

  pub reopen-move : is_over (sessions t) ≡ true → no_entry_names t l ≡ true → NoLock
      → (g : ℕ → Session) → Replaced S sessions g t SessionRecord.fresh
      → read_state S M g locks (l ++ map (from_session t) anew.sends) ≡ Machine.move R before (Machine.reopen t)
  unfolding Machine.move Machine.after_answer Machine.on_reopen_call read_sends
  reopen-move over entries items g h = rw (allowed over entries items, ← fresh-read) (session-state given t t-range l anew g h)
