-- Laws of the table: where its records stand, what is read after a record is replaced, and when it stays well-formed.
use mathlib.Core.Path.{◌≡◌, refl, sym, ap, ◌∙◌}
use mathlib.Core.Bool.{Bool, true, false, ◌&&◌, and-false}
use mathlib.Core.List.{List}
use Prim.Native.Nat.{ℕ, suc, ◌+◌, ◌-◌, ◌*◌, ◌^◌, ◌≤◌, ◌<◌}
use native.Mathlib.Omega.{arith}
use borrow.Author.Tests.{eqb-true, eqb-false, ltb-true, ltb-false}
use lib.Dec.{eqb, ltb}
use lib.ListN.{length, get_or}
use lib.Seq.{get_or-take}
use Rattle.buffer.specs.Bytes.{splice}
use Rattle.lists.specs.Lists.{between, every}
use Rattle.lists.proofs.Tests.{and_both, within}
use Rattle.lists.proofs.Orders.{StrictTotal}
use Rattle.lists.proofs.Searches.{every-at, every-false, every_intro}
use Rattle.buffer.proofs.Laws.{length-splice, slice-splice-before, slice-splice-after, length-slice}
use Rattle.message.specs.Limits.{max_sessions, max_items}
use Rattle.session.specs.declared.Session.{Session}
use Rattle.session.specs.Record as SessionRecord
use Rattle.session.specs.Seniority
use Rattle.session.proofs.Laws as SessionLaws
use Rattle.session.proofs.Seniority.{senior-order}
use Rattle.session.proofs.WellFormed.{held_fits}
use Rattle.item.specs.declared.Item.{Item}
use Rattle.item.specs.Record as ItemRecord
use Rattle.item.proofs.Laws as ItemLaws
use Rattle.item.proofs.WellFormed.{well_formed-packed}
use Rattle.table.specs.Layout.{header, session_stride, item_stride, session_place, items_start, item_place, ranks_place, size, sessions_of, items_of, sized, session, with_session, item, with_item, ranks, senior, well_formed, Config, config_of}

-- what `sized` says: S and M are within their bounds, and the length is that of S and M
pub record Sized (t : List ℕ) : Type 0 where
  pub some-sessions : 1 ≤ sessions_of t
  pub max-sessions : sessions_of t ≤ max_sessions
  pub some-items : 1 ≤ items_of t
  pub max-items : items_of t ≤ max_items
  pub whole : length t ≡ size (sessions_of t) (items_of t)

pub sized-facts : (t : List ℕ) → sized t ≡ true → Sized t
unfolding sized
sized-facts t e =
    let S = sessions_of t in
    let M = items_of t in
    let bounds = (and_both (between 1 max_sessions S && between 1 max_items M) (eqb (length t) (size S M)) e).0 in
    let s = (and_both (between 1 max_sessions S) (between 1 max_items M) bounds).0 in
    let m = (and_both (between 1 max_sessions S) (between 1 max_items M) bounds).1 in
    record {
      some-sessions = (within 1 max_sessions S s).0;
      max-sessions = (within 1 max_sessions S s).1;
      some-items = (within 1 max_items M m).0;
      max-items = (within 1 max_items M m).1;
      whole = eqb-true (length t) (size S M) (and_both (between 1 max_sessions S && between 1 max_items M) (eqb (length t) (size S M)) e).1;
    }

module _ (t : List ℕ) (e : sized t ≡ true) where
  -- a record's place is in the table
  pub session-fits : (k : ℕ) → 1 ≤ k → k ≤ sessions_of t → session_place k + SessionRecord.size ≤ length t
  session-fits k l h = let f = sized-facts t e in omega arith

  pub item-fits : (x : ℕ) → 1 ≤ x → x ≤ items_of t → item_place (sessions_of t) x + ItemRecord.size ≤ length t
  item-fits x l h = let f = sized-facts t e in omega arith

  pub ranks_fit : ranks_place (sessions_of t) (items_of t) + sessions_of t ≤ length t
  ranks_fit = let f = sized-facts t e in omega arith

  pub ranks-length : length (ranks t) ≡ sessions_of t
  unfolding ranks
  ranks-length = length-slice t (ranks_place (sessions_of t) (items_of t)) (sessions_of t) ranks_fit

  pub header-fits : header ≤ length t
  header-fits = let f = sized-facts t e in omega arith

-- what the answers to where a byte stands rest on
pub ruleset places = (sized-facts, session-fits, item-fits, ranks_fit, ranks-length, header-fits)

-- the record of session k is well-formed, and that of item x
unfoldable pub session_ok : List ℕ → ℕ → Bool
session_ok t k = SessionRecord.well_formed (sessions_of t) (items_of t) (session t k)

unfoldable pub item_ok : List ℕ → ℕ → Bool
item_ok t x = ItemRecord.well_formed (sessions_of t) (item t x)

-- the table is well-formed when every record is and the ranks are
pub in_form : (t : List ℕ) → well_formed t ≡ every (sessions_of t) (session_ok t) && every (items_of t) (item_ok t) && Seniority.well_formed (ranks t)
unfolding well_formed session_ok item_ok
in_form t = refl

-- one record that is not makes the table ill-formed
module _ (t : List ℕ) (k : ℕ) (l : 1 ≤ k) where
  pub sessions-false : k ≤ sessions_of t → session_ok t k ≡ false → well_formed t ≡ false
  sessions-false h e = in_form t ∙ rw (every-false (sessions_of t) (session_ok t) k l h e) refl

  pub items-false : k ≤ items_of t → item_ok t k ≡ false → well_formed t ≡ false
  items-false h e =
      in_form t ∙ rw (every-false (items_of t) (item_ok t) k l h e, and-false (every (sessions_of t) (session_ok t))) refl

-- the record that the check looks at, places counted from 0
pub session-here : (t : List ℕ) (k : ℕ) {S M : ℕ} → S ≡ sessions_of t → M ≡ items_of t → SessionRecord.well_formed S M (SessionRecord.session_at t (header + session_stride * k)) ≡ session_ok t (suc k)
unfolding session_ok session
session-here t k p q = let e : suc k - 1 ≡ k = omega arith in rw (p, q, e) refl

pub item-here : (t : List ℕ) (x : ℕ) {S from : ℕ} → S ≡ sessions_of t → from ≡ items_start S → ItemRecord.well_formed S (ItemRecord.item_at t (from + item_stride * x)) ≡ item_ok t (suc x)
unfolding item_ok item
item-here t x p q = let e : suc x - 1 ≡ x = omega arith in rw (q, p, e) refl

-- from a well-formed table, each of its records and the ranks; and back
module _ (t : List ℕ) where
  record Parts : Type 0 where
    sessions : every (sessions_of t) (session_ok t) ≡ true
    items : every (items_of t) (item_ok t) ≡ true
    ranks : Seniority.well_formed (ranks t) ≡ true

  parts : well_formed t ≡ true → Parts
  parts e =
      let records = every (sessions_of t) (session_ok t) && every (items_of t) (item_ok t) in
      let last = and_both records (Seniority.well_formed (ranks t)) (sym (in_form t) ∙ e) in
      let both = and_both (every (sessions_of t) (session_ok t)) (every (items_of t) (item_ok t)) last.0 in
      record { sessions = both.0; items = both.1; ranks = last.1 }

  pub well_formed-ranks : well_formed t ≡ true → Seniority.well_formed (ranks t) ≡ true
  well_formed-ranks e = (parts e).ranks

  -- so no two sessions are level
  pub senior-total : well_formed t ≡ true → StrictTotal (senior t)
  senior-total e = senior-order (ranks t) (well_formed-ranks e)

  pub well_formed-session : well_formed t ≡ true
      → (k : ℕ) → 1 ≤ k → k ≤ sessions_of t → SessionRecord.well_formed (sessions_of t) (items_of t) (session t k) ≡ true
  unfolding session_ok
  well_formed-session e = every-at (sessions_of t) (session_ok t) (parts e).sessions

  pub well_formed-item : well_formed t ≡ true → (x : ℕ) → 1 ≤ x → x ≤ items_of t → ItemRecord.well_formed (sessions_of t) (item t x) ≡ true
  unfolding item_ok
  well_formed-item e = every-at (items_of t) (item_ok t) (parts e).items

  pub well_formed_intro :
      ((k : ℕ) → 1 ≤ k → k ≤ sessions_of t → SessionRecord.well_formed (sessions_of t) (items_of t) (session t k) ≡ true)
      → ((x : ℕ) → 1 ≤ x → x ≤ items_of t → ItemRecord.well_formed (sessions_of t) (item t x) ≡ true)
      → Seniority.well_formed (ranks t) ≡ true
      → well_formed t ≡ true
  unfolding session_ok item_ok
  well_formed_intro f g r =
      in_form t ∙ rw (every_intro (sessions_of t) (session_ok t) f, every_intro (items_of t) (item_ok t) g, r) refl

-- a run of bytes behind the header leaves the header
module _ (t : List ℕ) (at : ℕ) (l : List ℕ) (h : at + length l ≤ length t) (f : header ≤ at) where
  header-byte : (i : ℕ) → i < header → get_or (splice t at l) i 0 ≡ get_or t i 0
  header-byte i g =
      sym (get_or-take header (splice t at l) i 0 g) ∙ ap (λ (r : List ℕ). get_or r i 0) (slice-splice-before t at l h 0 header f) ∙ get_or-take header t i 0 g

  sessions_of-splice : sessions_of (splice t at l) ≡ sessions_of t
  sessions_of-splice = header-byte 0 (omega arith)

  items_of-splice : items_of (splice t at l) ≡ items_of t
  items_of-splice = header-byte 1 (omega arith)

  -- and before the ranks leaves the ranks
  ranks-splice : at + length l ≤ ranks_place (sessions_of t) (items_of t) → ranks (splice t at l) ≡ ranks t
  unfolding ranks
  ranks-splice b =
      rw (sessions_of-splice, items_of-splice) (slice-splice-after t at l h (ranks_place (sessions_of t) (items_of t)) (sessions_of t) b)

  config_of-splice : at + length l ≤ ranks_place (sessions_of t) (items_of t) → config_of (splice t at l) ≡ config_of t
  config_of-splice b = rw (sessions_of-splice, items_of-splice, ranks-splice b) refl

  sized-splice : sized (splice t at l) ≡ sized t
  unfolding sized
  sized-splice = rw (sessions_of-splice, items_of-splice, length-splice t at l h) refl

module _ (t : List ℕ) (e : sized t ≡ true) where
  -- the arrays of a record have an element for each session that there could be
  pub juniors-length : (k : ℕ) → 1 ≤ k → k ≤ sessions_of t → length (session t k).juniors ≡ max_sessions
  unfolding session
  juniors-length k l h = length-slice t (session_place k + SessionRecord.juniors_place) max_sessions (omega (arith, session-fits t e k l h))

  pub queue-length : (x : ℕ) → 1 ≤ x → x ≤ items_of t → length (item t x).queue ≡ max_sessions
  unfolding item
  queue-length x l h = length-slice t (item_place (sessions_of t) x + ItemRecord.queue_place) max_sessions (omega (arith, item-fits t e x l h))

  -- a well-formed record has zeros behind its queue
  pub packed-item : well_formed t ≡ true → (x : ℕ) → 1 ≤ x → x ≤ items_of t → ItemRecord.Packed (item t x)
  packed-item w x l h =
      well_formed-packed (sessions_of t) (item t x) (well_formed-item t w x l h) (sized-facts t e).max-sessions (queue-length x l h)

  -- the table with the record of session k replaced
  module _ (k : ℕ) (l : 1 ≤ k) (h : k ≤ sessions_of t) (s : Session) (j : length s.juniors ≡ max_sessions) where
    session-written : session_place k + length (SessionRecord.session_bytes s) ≤ length t
    session-written = rw (SessionLaws.length-bytes s j) (session-fits t e k l h)

    pub config_of-with_session : config_of (with_session t k s) ≡ config_of t
    unfolding with_session
    config_of-with_session =
        let len = SessionLaws.length-bytes s j in
        config_of-splice t (session_place k) (SessionRecord.session_bytes s) session-written (omega arith) (omega arith)

    pub sessions_of-with_session : sessions_of (with_session t k s) ≡ sessions_of t
    sessions_of-with_session = ap (λ (c : Config). c.sessions) config_of-with_session

    pub items_of-with_session : items_of (with_session t k s) ≡ items_of t
    items_of-with_session = ap (λ (c : Config). c.items) config_of-with_session

    ranks-with_session : ranks (with_session t k s) ≡ ranks t
    ranks-with_session = ap (λ (c : Config). c.ranks) config_of-with_session

    pub length-with_session : length (with_session t k s) ≡ length t
    unfolding with_session
    length-with_session = length-splice t (session_place k) (SessionRecord.session_bytes s) session-written

    pub sized-with_session : sized (with_session t k s) ≡ true
    unfolding with_session
    sized-with_session = sized-splice t (session_place k) (SessionRecord.session_bytes s) session-written (omega arith) ∙ e

    pub session-with_session : s.held < 2 ^ 64 → session (with_session t k s) k ≡ s
    unfolding with_session session
    session-with_session f = SessionLaws.load_store t (session_place k) s (session-fits t e k l h) j f

    other-session : (i : ℕ) → 1 ≤ i → (i ≡ k → ⊥) → (b : Bool) → ltb i k ≡ b → session (with_session t k s) i ≡ session t i
    unfolding with_session session
    other-session i g f true q =
        SessionLaws.session_at-splice-before t (session_place k) (SessionRecord.session_bytes s) session-written (session_place i) (omega (arith, ltb-true i k q))
    other-session i g f false q =
        let len = SessionLaws.length-bytes s j in
        SessionLaws.session_at-splice-after t (session_place k) (SessionRecord.session_bytes s) session-written (session_place i) (omega (arith, f, ltb-false i k q))

    pub other-with_session : (i : ℕ) → 1 ≤ i → (i ≡ k → ⊥) → session (with_session t k s) i ≡ session t i
    other-with_session i g f = other-session i g f (ltb i k) refl

    pub item-with_session : (x : ℕ) → item (with_session t k s) x ≡ item t x
    unfolding item with_session
    item-with_session x =
        let len = SessionLaws.length-bytes s j in
        ap (λ (S : ℕ). ItemRecord.item_at (with_session t k s) (item_place S x)) sessions_of-with_session
        ∙ ItemLaws.item-after t (session_place k) (SessionRecord.session_bytes s) session-written (item_place (sessions_of t) x) (omega arith)

    session-kept : well_formed t ≡ true → SessionRecord.well_formed (sessions_of t) (items_of t) s ≡ true
        → (i : ℕ) → 1 ≤ i → i ≤ sessions_of t → (b : Bool) → eqb i k ≡ b
        → SessionRecord.well_formed (sessions_of t) (items_of t) (session (with_session t k s) i) ≡ true
    session-kept w f i g m true q =
        rw (eqb-true i k q, session-with_session (held_fits (sessions_of t) (items_of t) s (sized-facts t e).max-items f)) f
    session-kept w f i g m false q = rw (other-with_session i g (eqb-false i k q)) (well_formed-session t w i g m)

    pub well_formed-with_session : well_formed t ≡ true → SessionRecord.well_formed (sessions_of t) (items_of t) s ≡ true → well_formed (with_session t k s) ≡ true
    well_formed-with_session w f =
        well_formed_intro (with_session t k s)
        (λ i g m. rw (sessions_of-with_session, items_of-with_session) (session-kept w f i g (rw (sessions_of-with_session) at m) (eqb i k) refl))
        (λ x g m. rw (sessions_of-with_session, item-with_session x) (well_formed-item t w x g (rw (items_of-with_session) at m)))
        (rw (ranks-with_session) (well_formed-ranks t w))

  -- the table with the record of item x replaced
  module _ (x : ℕ) (l : 1 ≤ x) (h : x ≤ items_of t) (i : Item) (q : length i.queue ≡ max_sessions) where
    item-written : item_place (sessions_of t) x + length (ItemRecord.item_bytes i) ≤ length t
    item-written = rw (ItemLaws.length-bytes i q) (item-fits t e x l h)

    pub config_of-with_item : config_of (with_item t x i) ≡ config_of t
    unfolding with_item
    config_of-with_item =
        let len = ItemLaws.length-bytes i q in
        config_of-splice t (item_place (sessions_of t) x) (ItemRecord.item_bytes i) item-written (omega arith) (omega arith)

    pub sessions_of-with_item : sessions_of (with_item t x i) ≡ sessions_of t
    sessions_of-with_item = ap (λ (c : Config). c.sessions) config_of-with_item

    pub items_of-with_item : items_of (with_item t x i) ≡ items_of t
    items_of-with_item = ap (λ (c : Config). c.items) config_of-with_item

    ranks-with_item : ranks (with_item t x i) ≡ ranks t
    ranks-with_item = ap (λ (c : Config). c.ranks) config_of-with_item

    pub length-with_item : length (with_item t x i) ≡ length t
    unfolding with_item
    length-with_item = length-splice t (item_place (sessions_of t) x) (ItemRecord.item_bytes i) item-written

    pub sized-with_item : sized (with_item t x i) ≡ true
    unfolding with_item
    sized-with_item = sized-splice t (item_place (sessions_of t) x) (ItemRecord.item_bytes i) item-written (omega arith) ∙ e

    -- an item of the new table is read at its place in the old one
    item-at : (y : ℕ) → item (with_item t x i) y ≡ ItemRecord.item_at (with_item t x i) (item_place (sessions_of t) y)
    unfolding item
    item-at y = ap (λ (S : ℕ). ItemRecord.item_at (with_item t x i) (item_place S y)) sessions_of-with_item

    pub item-with_item : item (with_item t x i) x ≡ i
    unfolding with_item
    item-with_item = item-at x ∙ ItemLaws.load_store t (item_place (sessions_of t) x) i q (item-fits t e x l h)

    other_item : (y : ℕ) → 1 ≤ y → (y ≡ x → ⊥) → (b : Bool) → ltb y x ≡ b → item (with_item t x i) y ≡ item t y
    unfolding with_item item
    other_item y g f true r =
        item-at y
        ∙ ItemLaws.item-before t (item_place (sessions_of t) x) (ItemRecord.item_bytes i) item-written (item_place (sessions_of t) y) (omega (arith, ltb-true y x r))
    other_item y g f false r =
        let len = ItemLaws.length-bytes i q in
        item-at y
        ∙ ItemLaws.item-after t (item_place (sessions_of t) x) (ItemRecord.item_bytes i) item-written (item_place (sessions_of t) y) (omega (arith, f, ltb-false y x r))

    pub other-with_item : (y : ℕ) → 1 ≤ y → (y ≡ x → ⊥) → item (with_item t x i) y ≡ item t y
    other-with_item y g f = other_item y g f (ltb y x) refl

    pub session-with_item : (k : ℕ) → 1 ≤ k → k ≤ sessions_of t → session (with_item t x i) k ≡ session t k
    unfolding with_item session
    session-with_item k g m =
        SessionLaws.session_at-splice-before t (item_place (sessions_of t) x) (ItemRecord.item_bytes i) item-written (session_place k) (omega arith)

    item-kept : well_formed t ≡ true → ItemRecord.well_formed (sessions_of t) i ≡ true
        → (y : ℕ) → 1 ≤ y → y ≤ items_of t → (b : Bool) → eqb y x ≡ b → ItemRecord.well_formed (sessions_of t) (item (with_item t x i) y) ≡ true
    item-kept w f y g m true r = rw (eqb-true y x r, item-with_item) f
    item-kept w f y g m false r = rw (other-with_item y g (eqb-false y x r)) (well_formed-item t w y g m)

    pub well_formed-with_item : well_formed t ≡ true → ItemRecord.well_formed (sessions_of t) i ≡ true → well_formed (with_item t x i) ≡ true
    well_formed-with_item w f =
        well_formed_intro (with_item t x i)
        (λ k g m. let n = rw (sessions_of-with_item) at m in rw (sessions_of-with_item, items_of-with_item, session-with_item k g n) (well_formed-session t w k g n))
        (λ y g m. rw (sessions_of-with_item) (item-kept w f y g (rw (items_of-with_item) at m) (eqb y x) refl))
        (rw (ranks-with_item) (well_formed-ranks t w))
