-- A step of the lock manager's records, where it is allowed, is the machine's move.
use mathlib.Core.Path.{◌≡◌, refl, ap, ◌∙◌, fun_ext}
use mathlib.Core.Bool.{Bool, true, false, cond, not, ◌&&◌, ◌||◌}
use mathlib.Core.List.{List, [], ◌++◌, map}
use mathlib.Core.Option.{none}
use Prim.Native.Nat.{ℕ, ◌≤◌, ◌<◌}
use native.Mathlib.Omega.{arith}
use lib.Dec.{eqb}
use lib.ListN.{length, get_or}
use borrow.Author.Tests.{eqb-true, eqb-false}
use Rattle.lists.specs.Lists.{between, all_of, remove_at}
use Rattle.lists.proofs.Laws.{all_get_d, find_index-found, find_index-length}
use Rattle.lists.proofs.Tests.{within}
use Rattle.bitset.specs.Bitset.{has}
use Rattle.message.specs.Kind
use Rattle.mailbox.proofs.EntryLaws.{route-facts}
use Rattle.mailbox.specs.Entry as Entry
use Rattle.mailbox.specs.Entry.{Entry, unused, on_route, earliest, from_session, from_item, seen_by_item, seen_by_session}
use Rattle.session.specs.Stage
use Rattle.session.specs.declared.Session.{Session}
use Rattle.session.specs.Record as SessionRecord
use Rattle.session.specs.Rules as SessionRules
use Rattle.item.specs.Record as ItemRecord
use Rattle.item.specs.Record.{Lock}
use Rattle.item.specs.Rules as ItemRules
use Rattle.deadlock.specs.Lists.{updated}
use Rattle.deadlock.specs.Machine
use Rattle.item.proofs.WellFormed.{LockWellFormed}
use Rattle.agreement.specs.Reading.{read_stage, read_holder, read_held, read_session, read_item, read_message, read_session_step, read_item_step, read_entries, read_sessions, read_items, read_state, direction_of, rules}
use Rattle.agreement.proofs.ReadingSession.{fresh-read}
use Rattle.mailbox.proofs.EntryLaws.{entry-facts}
use Rattle.agreement.proofs.ItemAgrees.{item-agrees}
use Rattle.agreement.proofs.SessionAgrees.{session-agrees, request-agrees, release-agrees, held-read}
use Rattle.agreement.proofs.MailboxAgrees.{taken_at, take-agrees, read_entries-append, from-session, from-item}

-- of the records 1 to n, the one at k is now a, and the others are as they were
pub record Replaced {A : Type 0} (n : ℕ) (f g : ℕ → A) (k : ℕ) (a : A) : Type 0 where
  pub here : g k ≡ a
  pub elsewhere : (j : ℕ) → between 1 n j ≡ true → (k ≡ j → ⊥) → g j ≡ f j

pub sessions_replaced : (S : ℕ) (f g : ℕ → Session) (t : ℕ) (s : Session) → between 1 S t ≡ true → Replaced S f g t s → read_sessions S g ≡ updated (read_sessions S f) t (read_session s)
unfolding read_sessions updated
sessions_replaced S f g t s r h = fun_ext (λ k. go k (eqb t k) refl)
  where
    other : (k : ℕ) (b : Bool) → between 1 S k ≡ b → (t ≡ k → ⊥) → cond b (read_session (g k)) Machine.fresh ≡ cond b (read_session (f k)) Machine.fresh
    other k false e n = refl
    other k true e n = ap read_session (h.elsewhere k e n)

    go : (k : ℕ) (b : Bool) → eqb t k ≡ b → cond (between 1 S k) (read_session (g k)) Machine.fresh ≡ cond b (read_session s) (cond (between 1 S k) (read_session (f k)) Machine.fresh)
    go k true e = rw (← eqb-true t k e, r, h.here) refl
    go k false e = other k (between 1 S k) refl (eqb-false t k e)

pub items_replaced : (M : ℕ) (f g : ℕ → Lock) (x : ℕ) (l : Lock) → between 1 M x ≡ true → Replaced M f g x l → read_items M g ≡ updated (read_items M f) x (read_item l)
unfolding read_items updated
items_replaced M f g x l r h = fun_ext (λ k. go k (eqb x k) refl)
  where
    start : Machine.Item
    start = record { holder = none; queue = [] }

    other : (k : ℕ) (b : Bool) → between 1 M k ≡ b → (x ≡ k → ⊥) → cond b (read_item (g k)) start ≡ cond b (read_item (f k)) start
    other k false e n = refl
    other k true e n = ap read_item (h.elsewhere k e n)

    go : (k : ℕ) (b : Bool) → eqb x k ≡ b → cond (between 1 M k) (read_item (g k)) start ≡ cond b (read_item l) (cond (between 1 M k) (read_item (f k)) start)
    go k true e = rw (← eqb-true x k e, r, h.here) refl
    go k false e = other k (between 1 M k) refl (eqb-false x k e)

-- the place of the earliest entry of a route between session t and item x, that entry, and the others
abbrev pub place_of : ℕ → ℕ → List Entry → Bool → ℕ
place_of t x l d = earliest (direction_of d) t x l

abbrev pub entry_of : ℕ → ℕ → List Entry → Bool → Entry
entry_of t x l d = get_or l (place_of t x l d) unused

abbrev pub others_of : ℕ → ℕ → List Entry → Bool → List Entry
others_of t x l d = remove_at (place_of t x l d) l

-- what item x does on the earliest entry of session t, and session t on the earliest of item x
abbrev pub item_step : (ℕ → ℕ → Bool) → (List ℕ → ℕ) → (ℕ → Lock) → ℕ → ℕ → List Entry → ItemRules.After
item_step senior next locks t x l = ItemRules.received senior next (locks x) (seen_by_item (entry_of t x l true))

abbrev pub session_step : (ℕ → ℕ → Bool) → (ℕ → Session) → ℕ → ℕ → List Entry → SessionRules.After
session_step senior sessions t x l = SessionRules.received senior t (sessions t) (seen_by_session (entry_of t x l false))

-- what is given: at most 64 sessions and items, a choice of the next holder that stays in the queue, and well-formed records and entries
pub record Given (senior : ℕ → ℕ → Bool) (next : List ℕ → ℕ) (S M : ℕ) (sessions : ℕ → Session) (locks : ℕ → Lock) (l : List Entry) : Type 0 where
  pub few-sessions : S ≤ 64
  pub few-items : M ≤ 64
  pub inside-queue : (q : List ℕ) → 0 < length q → next q < length q
  pub session : (t : ℕ) → between 1 S t ≡ true → SessionRecord.well_formed S M (sessions t) ≡ true
  pub juniors : (t : ℕ) → between 1 S t ≡ true → length (sessions t).juniors ≡ 64
  pub lock : (x : ℕ) → between 1 M x ≡ true → LockWellFormed S (locks x)
  pub entries : all_of (Entry.well_formed S M) l ≡ true

-- the parties of a step: session t and item x are there
pub record Parties (S M t x : ℕ) : Type 0 where
  pub session : between 1 S t ≡ true
  pub item : between 1 M x ≡ true

-- session t of the machine
pub session-at : (S : ℕ) (sessions : ℕ → Session) (t : ℕ) → between 1 S t ≡ true → read_sessions S sessions t ≡ read_session (sessions t)
unfolding read_sessions
session-at S sessions t r = rw (r) refl

-- the state after what session t does
module _ {senior : ℕ → ℕ → Bool} {next : List ℕ → ℕ} {S M : ℕ} {sessions : ℕ → Session} {locks : ℕ → Lock} {l : List Entry} (given : Given senior next S M sessions locks l) where
  pub session-state : (t : ℕ) → between 1 S t ≡ true → (rest : List Entry) (r : SessionRules.After) (g : ℕ → Session) → Replaced S sessions g t r.session
      → read_state S M g locks (rest ++ map (from_session t) r.sends) ≡ Machine.after_session (read_state S M sessions locks l) t (read_entries rest) (read_session_step r)
  unfolding Machine.after_session
  session-state t t-range rest r g h = rw (sessions_replaced S sessions g t r.session t-range h, read_entries-append rest (map (from_session t) r.sends), from-session t r.sends) refl

module _ {senior : ℕ → ℕ → Bool} {next : List ℕ → ℕ} {S M : ℕ} {sessions : ℕ → Session} {locks : ℕ → Lock} {l : List Entry} (given : Given senior next S M sessions locks l)
    {t x : ℕ} (p : Parties S M t x) where
  abbrev R : Machine.Rules
  R = rules S M senior next

  pub item-at : read_items M locks x ≡ read_item (locks x)
  unfolding read_items
  item-at = rw p.item refl

  -- an item's step
  item-state : (rest : List Entry) (r : ItemRules.After) (g : ℕ → Lock) → Replaced M locks g x r.lock
      → read_state S M sessions g (rest ++ map (from_item x) r.sends) ≡ Machine.after_item (read_state S M sessions locks l) x (read_entries rest) (read_item_step r)
  unfolding Machine.after_item
  item-state rest r g h = rw (items_replaced M locks g x r.lock p.item h, read_entries-append rest (map (from_item x) r.sends), from-item x r.sends) refl

  abbrev before : Machine.State
  before = read_state S M sessions locks l

  -- what the mask says of item x
  held_at : read_held (sessions t).held x ≡ has x (sessions t).held
  held_at = held-read (sessions t).held x (within 1 M x p.item).0 (omega (arith, (within 1 M x p.item).1, given.few-items))

  -- ---- the calls
  request-answer : Machine.on_request_call R x (read_session (sessions t)) (read_session (sessions t)).stage
      ≡ cond (eqb (sessions t).stage Stage.growing && not (has x (sessions t).held)) (Machine.accepted (read_session_step (SessionRules.requested x (sessions t)))) Machine.refused
  request-answer = rw (← held_at) (request-agrees senior next S M given.few-sessions given.few-items (sessions t) (given.session t p.session) (given.juniors t p.session) x)

  release-answer : Machine.on_release_call R x (read_session (sessions t)) (read_session (sessions t)).stage
      ≡ cond ((eqb (sessions t).stage Stage.growing || eqb (sessions t).stage Stage.shrinking) && has x (sessions t).held) (Machine.accepted (read_session_step (SessionRules.released x (sessions t)))) Machine.refused
  release-answer = rw (← held_at) (release-agrees senior next S M given.few-sessions given.few-items (sessions t) (given.session t p.session) (given.juniors t p.session) x (within 1 M x p.item).0 (within 1 M x p.item).1)

  -- a request in stage 1 for an item not held
  pub request-move : eqb (sessions t).stage Stage.growing && not (has x (sessions t).held) ≡ true → (g : ℕ → Session) → Replaced S sessions g t (SessionRules.requested x (sessions t)).session
      → read_state S M g locks (l ++ map (from_session t) (SessionRules.requested x (sessions t)).sends) ≡ Machine.move R before (Machine.request_call t x)
  unfolding Machine.move Machine.after_answer
  request-move e g h = rw (session-at S sessions t p.session, request-answer, e) (session-state given t p.session l (SessionRules.requested x (sessions t)) g h)

  -- a release in stage 1 or 3 of an item held
  pub release-move : (eqb (sessions t).stage Stage.growing || eqb (sessions t).stage Stage.shrinking) && has x (sessions t).held ≡ true → (g : ℕ → Session) → Replaced S sessions g t (SessionRules.released x (sessions t)).session
      → read_state S M g locks (l ++ map (from_session t) (SessionRules.released x (sessions t)).sends) ≡ Machine.move R before (Machine.release_call t x)
  unfolding Machine.move Machine.after_answer
  release-move e g h = rw (session-at S sessions t p.session, release-answer, e) (session-state given t p.session l (SessionRules.released x (sessions t)) g h)

  -- ---- the deliveries
  module _ (d : Bool) (found : eqb (place_of t x l d) (length l) ≡ false) where
    inside : place_of t x l d < length l
    inside = omega (arith, find_index-length (on_route (direction_of d) t x) l, eqb-false (place_of t x l d) (length l) found)

    pub entry-formed : Entry.well_formed S M (entry_of t x l d) ≡ true
    entry-formed = all_get_d (Entry.well_formed S M) l (place_of t x l d) unused given.entries inside

    on-route : on_route (direction_of d) t x (entry_of t x l d) ≡ true
    on-route = find_index-found (on_route (direction_of d) t x) l unused inside

    pub entry-session : (entry_of t x l d).session ≡ t
    entry-session = (route-facts (direction_of d) t x (entry_of t x l d) on-route).session

    entry-item : (entry_of t x l d).item ≡ x
    entry-item = (route-facts (direction_of d) t x (entry_of t x l d) on-route).item

    pub taken_eq : Machine.take_first d t x (read_entries l) ≡ Machine.taken (read_message (entry_of t x l d).kind (entry_of t x l d).a (entry_of t x l d).b) (read_entries (others_of t x l d))
    unfolding taken_at
    taken_eq = take-agrees S M d t x l given.entries ∙ rw (found) refl

    pub kind-range : (1 ≤ (entry_of t x l d).kind) × ((entry_of t x l d).kind ≤ 10)
    kind-range = let f = (entry-facts S M (entry_of t x l d) entry-formed).kinds in (f.low, f.high)

  -- the earliest entry to item x
  module _ (found : eqb (place_of t x l true) (length l) ≡ false) where
    pub item-step-agrees : read_item_step (item_step senior next locks t x l) ≡ Machine.item_receives R t (read_item (locks x)) (read_message (entry_of t x l true).kind (entry_of t x l true).a (entry_of t x l true).b)
    item-step-agrees =
        let kind = kind-range true found in
        let low : 1 ≤ (entry_of t x l true).session = rw (entry-session true found) (within 1 S t p.session).0 in
        item-agrees senior next S M (locks x) (seen_by_item (entry_of t x l true)) low kind.0 kind.1 (given.lock x p.item) (given.inside-queue (locks x).queue)
        ∙ ap (λ (n : ℕ). Machine.item_receives R n (read_item (locks x)) (read_message (entry_of t x l true).kind (entry_of t x l true).a (entry_of t x l true).b)) (entry-session true found)

    pub item_move : (g : ℕ → Lock) → Replaced M locks g x (item_step senior next locks t x l).lock
        → read_state S M sessions g (others_of t x l true ++ map (from_item x) (item_step senior next locks t x l).sends) ≡ Machine.move R before (Machine.deliver_to_item t x)
    unfolding Machine.move Machine.item_takes
    item_move g h = rw (taken_eq true found, item-at, ← item-step-agrees) (item-state (others_of t x l true) (item_step senior next locks t x l) g h)

  -- the earliest entry to session t
  module _ (found : eqb (place_of t x l false) (length l) ≡ false) where
    session-step-agrees : read_session_step (session_step senior sessions t x l) ≡ Machine.session_receives R t x (read_session (sessions t)) (read_message (entry_of t x l false).kind (entry_of t x l false).a (entry_of t x l false).b)
    session-step-agrees =
        let e = entry_of t x l false in
        let kind = kind-range false found in
        let facts = entry-facts S M e (entry-formed false found) in
        let first : e.kind ≡ Kind.probe → (1 ≤ e.a) × (e.a ≤ S) = λ q. (facts.a-low (ap Kind.carries q), facts.a-high) in
        session-agrees senior next S M given.few-sessions given.few-items (sessions t) (given.session t p.session) (given.juniors t p.session) t (seen_by_session e) facts.item-low facts.item-high kind.0 kind.1 first
        ∙ ap (λ (n : ℕ). Machine.session_receives R t n (read_session (sessions t)) (read_message e.kind e.a e.b)) (entry-item false found)

    pub session-move : (g : ℕ → Session) → Replaced S sessions g t (session_step senior sessions t x l).session
        → read_state S M g locks (others_of t x l false ++ map (from_session t) (session_step senior sessions t x l).sends) ≡ Machine.move R before (Machine.deliver_to_session t x)
    unfolding Machine.move Machine.session_takes
    session-move g h = rw (taken_eq false found, session-at S sessions t p.session, ← session-step-agrees) (session-state given t p.session (others_of t x l false) (session_step senior sessions t x l) g h)

-- a lock manager that was just started
module _ (S M : ℕ) (sessions : ℕ → Session) (locks : ℕ → Lock) (fresh : (t : ℕ) → between 1 S t ≡ true → sessions t ≡ SessionRecord.fresh)
    (free : (x : ℕ) → between 1 M x ≡ true → locks x ≡ ItemRecord.free) where
  pub start-agrees : (senior : ℕ → ℕ → Bool) (next : List ℕ → ℕ) → read_state S M sessions locks [] ≡ Machine.start (rules S M senior next)
  unfolding Machine.start read_sessions read_items read_entries read_stage read_holder
  start-agrees senior next = λ i. record { session = fun_ext (λ t. one t (between 1 S t) refl) i; item = fun_ext (λ x. other x (between 1 M x) refl) i; mailbox = [] }
    where
      one : (t : ℕ) (b : Bool) → between 1 S t ≡ b → cond b (read_session (sessions t)) Machine.fresh ≡ Machine.fresh
      one t false e = refl
      one t true e = ap read_session (fresh t e) ∙ fresh-read

      other : (x : ℕ) (b : Bool) → between 1 M x ≡ b → cond b (read_item (locks x)) (record { holder = none; queue = [] }) ≡ record { holder = none; queue = [] }
      other x false e = refl
      other x true e = ap read_item (free x e)
