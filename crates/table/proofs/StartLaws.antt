-- Laws of the table of a lock manager that starts.
use mathlib.Core.Path.{◌≡◌, refl, sym, ap, ◌∙◌}
use mathlib.Core.Bool.{true}
use mathlib.Core.List.{List, [], ◌∷◌, ◌++◌, append_assoc}
use Prim.Native.Nat.{ℕ, suc, ◌+◌, ◌-◌, ◌*◌, ◌≤◌, ◌<◌}
use native.Mathlib.Numerals.{add-one}
use native.Mathlib.Omega.{arith}
use borrow.Author.Tests.{eq-eqb}
use lib.ListN.{length, take, drop, set, replicate, length-append, take-append-drop}
use lib.Seq.{take-append_seam, take-take, drop-drop, drop_at, take_all}
use Rattle.buffer.specs.Bytes.{slice, splice, padded}
use Rattle.buffer.proofs.Laws.{put-padded, padded-full}
use Rattle.buffer.proofs.Padded.{length-padded, padded-zeros, splice-end}
use Rattle.lists.specs.Lists.{append_up_to}
use Rattle.lists.proofs.Tests.{between_intro}
use Rattle.lists.proofs.Laws.{length-append_up_to, append_up_to-part, append_up_to-replicate}
use Rattle.message.specs.Limits.{max_sessions, max_items}
use Rattle.session.specs.Record as SessionRecord
use Rattle.session.specs.Seniority
use Rattle.session.specs.Stage
use Rattle.session.proofs.Laws as SessionLaws
use Rattle.session.proofs.WellFormed.{fresh-formed}
use Rattle.item.specs.Record as ItemRecord
use Rattle.item.proofs.Laws as ItemLaws
use Rattle.item.proofs.WellFormed.{free-formed}
use Rattle.table.specs.Layout.{header, session_stride, item_stride, session_place, items_start, item_place, ranks_place, size, sessions_of, items_of, sized, session, item, ranks, well_formed, Config, config_of, Bounded, session_tail_of, item_tail_of, started_session, started_item, started}
use Rattle.table.proofs.Laws.{well_formed_intro}

-- the bytes of a session and of an item of a lock manager that starts
abbrev fresh : List ℕ
fresh = SessionRecord.session_bytes SessionRecord.fresh

abbrev free : List ℕ
free = ItemRecord.item_bytes (ItemRecord.packed ItemRecord.free)

-- the head of part k of parts that all begin with it
part-head : (head : List ℕ) (tail : ℕ → List ℕ) (w : ℕ) → ((k : ℕ) → length (head ++ tail k) ≡ w)
    → (n k : ℕ) → 1 ≤ k → k ≤ n → (r : List ℕ) → slice (append_up_to n (λ j. head ++ tail j) ++ r) (w * (k - 1)) (length head) ≡ head
part-head head tail w same n k l h r =
    sym (take-take (length head) w (drop (w * (k - 1)) (append_up_to n (λ j. head ++ tail j) ++ r)) (omega (arith, same k, length-append head (tail k))))
    ∙ ap (take (length head)) (append_up_to-part (λ j. head ++ tail j) w same n k l h r)
    ∙ take-append_seam head (tail k)

-- ---- what is written, part by part
module _ (c : Config) where
  abbrev S : ℕ
  S = c.sessions

  abbrev M : ℕ
  M = c.items

  -- the first k sessions, and the first k items
  abbrev sessions_up_to : ℕ → List ℕ
  sessions_up_to k = append_up_to k (started_session c)

  abbrev items_up_to : ℕ → List ℕ
  items_up_to k = append_up_to k (started_item c)

  length-sessions : (k : ℕ) → length (sessions_up_to k) ≡ session_stride * k
  length-sessions = length-append_up_to (started_session c) session_stride (λ k. refl)

  length-items : (k : ℕ) → length (items_up_to k) ≡ item_stride * k
  length-items = length-append_up_to (started_item c) item_stride (λ k. refl)

  -- the table with k of its sessions written, all else zero
  abbrev pub begun : ℕ → List ℕ
  begun k = padded (size S M) (S ∷ M ∷ sessions_up_to k)

  -- what stands before the ranks
  abbrev records : List ℕ
  records = S ∷ M ∷ (sessions_up_to S ++ items_up_to M)

  pub begun-none : set (set (replicate (size S M) 0) 0 S) 1 M ≡ begun 0
  unfolding append_up_to
  begun-none =
      let n : ℕ = session_stride * S + item_stride * M + S in
      let e : size S M ≡ suc (suc n) = omega arith in
      let f : suc (suc n) - header ≡ n = omega arith in
      rw (e, f) refl

  pub length-begun : (k : ℕ) → k ≤ S → length (begun k) ≡ size S M
  length-begun k h = length-padded (size S M) (S ∷ M ∷ sessions_up_to k) (omega (arith, length-sessions k))

  pub begun_more : (k : ℕ) → k < S → set (begun k) (header + session_stride * k) Stage.growing ≡ begun (k + 1)
  unfolding append_up_to
  begun_more k h =
      let p : List ℕ = S ∷ M ∷ sessions_up_to k in
      let staged : List ℕ = p ++ (Stage.growing ∷ []) in
      let len : length p ≡ header + session_stride * k = omega (arith, length-sessions k) in
      let more : length staged ≡ length p + 1 = length-append p (Stage.growing ∷ []) in
      ap (λ (n : ℕ). set (begun k) n Stage.growing) (sym len)
      ∙ put-padded (size S M) p Stage.growing (omega arith)
      ∙ sym (padded-zeros (size S M) staged (session_stride - 1) (omega arith))
      ∙ ap (padded (size S M)) (append_assoc p (Stage.growing ∷ []) (replicate (session_stride - 1) 0))
      ∙ rw (add-one k) refl

  records-length : length records ≡ ranks_place S M
  records-length = omega (arith, length-append (sessions_up_to S) (items_up_to M), length-sessions S, length-items M)

  begun_all : begun S ≡ padded (size S M) records
  begun_all =
      sym (padded-zeros (size S M) (S ∷ M ∷ sessions_up_to S) (item_stride * M) (omega (arith, length-sessions S)))
      ∙ ap (λ (l : List ℕ). padded (size S M) (S ∷ M ∷ (sessions_up_to S ++ l))) (sym (append_up_to-replicate M item_stride 0))

  -- and then the ranks
  pub begun-ranks : Bounded c → splice (begun S) (ranks_place S M) c.ranks ≡ started c
  unfolding started
  begun-ranks f =
      let given = c.ranks in
      let whole : length (records ++ given) ≡ size S M = omega (arith, length-append records given, records-length, f.ranks-whole) in
      ap (λ (l : List ℕ). splice l (ranks_place S M) given) begun_all
      ∙ ap (λ (n : ℕ). splice (padded (size S M) records) n given) (sym records-length)
      ∙ splice-end (size S M) records given (omega (arith, records-length, f.ranks-whole))
      ∙ padded-full (size S M) (records ++ given) whole
      ∙ ap (λ (l : List ℕ). S ∷ M ∷ l) (append_assoc (sessions_up_to S) (items_up_to M) given)

-- writing what stands there already changes nothing
splice-same : (t : List ℕ) (at : ℕ) (l : List ℕ) → slice t at (length l) ≡ l → splice t at l ≡ t
unfolding splice
splice-same t at l e =
    let n = length l in
    let back : l ++ drop (at + n) t ≡ drop at t =
    ap (λ (r : List ℕ). l ++ r) (sym (drop-drop n at t)) ∙ ap (λ (r : List ℕ). r ++ drop n (drop at t)) (sym e) ∙ take-append-drop n (drop at t) in
    ap (λ (r : List ℕ). take at t ++ r) back ∙ take-append-drop at t

-- ---- what is read of it
module _ (c : Config) (f : Bounded c) where
  sessions_of-started : sessions_of (started c) ≡ c.sessions
  unfolding started
  sessions_of-started = refl

  items_of-started : items_of (started c) ≡ c.items
  unfolding started
  items_of-started = refl

  length-started : length (started c) ≡ size c.sessions c.items
  unfolding started
  length-started =
      let a = sessions_up_to c c.sessions in
      let b = items_up_to c c.items in
      omega (arith, f.ranks-whole, length-append a (b ++ c.ranks), length-append b c.ranks, length-sessions c c.sessions, length-items c c.items)

  pub sized-started : sized (started c) ≡ true
  unfolding sized
  sized-started =
      rw (sessions_of-started, items_of-started, between_intro 1 max_sessions c.sessions f.some-sessions f.max-sessions, between_intro 1 max_items c.items f.some-items f.max-items, eq-eqb (length (started c)) (size c.sessions c.items) length-started) refl

  behind : (n : ℕ) → drop (header + n) (started c) ≡ drop n (sessions_up_to c c.sessions ++ (items_up_to c c.items ++ c.ranks))
  unfolding started
  behind n = sym (drop-drop n header (started c))

  -- behind the sessions
  behind-sessions : (n : ℕ) → drop (items_start c.sessions + n) (started c) ≡ drop n (items_up_to c c.items ++ c.ranks)
  behind-sessions n =
      let a = sessions_up_to c c.sessions in
      sym (drop-drop n (items_start c.sessions) (started c))
      ∙ ap (drop n) (behind (session_stride * c.sessions) ∙ drop_at a (items_up_to c c.items ++ c.ranks) (session_stride * c.sessions) (length-sessions c c.sessions))

  pub session-started : (k : ℕ) → 1 ≤ k → k ≤ c.sessions → session (started c) k ≡ SessionRecord.fresh
  unfolding session
  session-started k l h =
      let t = started c in
      let at = session_place k in
      let there : slice t at SessionRecord.size ≡ fresh =
      ap (take SessionRecord.size) (behind (session_stride * (k - 1)))
      ∙ part-head fresh (session_tail_of c) session_stride (λ k. refl) c.sessions k l h (items_up_to c c.items ++ c.ranks) in
      ap (λ (r : List ℕ). SessionRecord.session_at r at) (sym (splice-same t at fresh there))
      ∙ SessionLaws.load_store t at SessionRecord.fresh (omega (arith, length-started)) refl (omega arith)

  pub item-started : (x : ℕ) → 1 ≤ x → x ≤ c.items → item (started c) x ≡ ItemRecord.packed ItemRecord.free
  unfolding item
  item-started x l h =
      let t = started c in
      let at = item_place c.sessions x in
      let there : slice t at ItemRecord.size ≡ free =
      ap (take ItemRecord.size) (behind-sessions (item_stride * (x - 1)))
      ∙ part-head free (item_tail_of c) item_stride (λ k. refl) c.items x l h c.ranks in
      rw (sessions_of-started) (
      ap (λ (r : List ℕ). ItemRecord.item_at r at) (sym (splice-same t at free there))
      ∙ ItemLaws.load_store t at (ItemRecord.packed ItemRecord.free) refl (omega (arith, length-started)))

  ranks-started : ranks (started c) ≡ c.ranks
  unfolding ranks
  ranks-started =
      rw (sessions_of-started, items_of-started, behind-sessions (item_stride * c.items), drop_at (items_up_to c c.items) c.ranks (item_stride * c.items) (length-items c c.items)) (take_all c.sessions c.ranks (omega (arith, f.ranks-whole)))

  -- the config that stands in it is the one that it was started with
  pub config_of-started : config_of (started c) ≡ c
  config_of-started = rw (sessions_of-started, items_of-started, ranks-started) refl

  pub well_formed-started : Seniority.well_formed c.ranks ≡ true → well_formed (started c) ≡ true
  well_formed-started r =
      well_formed_intro (started c)
      (λ k l h. rw (sessions_of-started, items_of-started, session-started k l (rw (sessions_of-started) at h)) (fresh-formed c.sessions c.items))
      (λ x l h. rw (sessions_of-started, item-started x l (rw (items_of-started) at h)) (free-formed c.sessions f.max-sessions))
      (rw (ranks-started) r)
