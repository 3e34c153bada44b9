-- Laws of item records: their bytes, the record as a queue with zeros behind it, and what the loops do one step at a time.
use mathlib.Core.Path.{◌≡◌, refl, sym, ap, ◌∙◌}
use mathlib.Core.Bool.{Bool, true, false, cond, not, ◌||◌}
use mathlib.Core.List.{List, [], ◌∷◌, ◌++◌, map, map-append, append-nil}
use Rattle.std.proofs.Common.{Option, Some, None, MatchOption, position, subst}
use Rattle.std.specs.List.{list_any, position_or_len}
use borrow.Author.Tests.{ltb-true, ltb-false}
use Prim.Native.Nat.{ℕ, zero, suc, ◌+◌, ◌-◌, ◌≤◌, ◌<◌}
use native.Mathlib.Nat.{add-zero, zero-add, suc-add}
use native.Mathlib.Numerals.{add-one}
use native.Mathlib.Omega.{arith}
use lib.Dec.{eqb, ltb, lit<}
use lib.ListN.{length, length-take, get_or, take, drop, set, replicate, length-append, length-replicate, length-map}
use lib.Seq.{take_at, take-suc, take-append_seam, take-nil, take-take, paste, drop_at, drop-cons, drop-drop, get_or-drop, set_at, length-take-le}
use Rattle.buffer.specs.Bytes.{slice, splice, padded}
use Rattle.lists.specs.Lists.{member, filter, find_index, remove_at, without_places}
use Rattle.lists.proofs.Laws.{filter-append, filter-length, remove_at_le, remove_at-length, remove_at-without, remove_at-past}
use Rattle.lists.proofs.Tests.{by-test}
use Rattle.session.proofs.Laws.{either}
use Rattle.buffer.proofs.Laws.{sets-splice, splice-splice, drop-splice, slice-splice-before, slice-splice-after, get_d_slice, put-padded}
use Rattle.message.specs.Kind
use Rattle.message.specs.declared.Message.{Message}
use Rattle.message.specs.Outbox.{message, plain}
use Rattle.item.specs.declared.Item.{Item}
use Rattle.item.specs.declared.Event.{Event}
use Rattle.item.specs.declared.Event.TheVariants.{Nothing}
use Rattle.item.specs.declared.ItemStep.{ItemStep}
use Rattle.item.specs.Record.{size, Lock, lock, free, unpacked, packed, item_at, item_bytes, put_item, Packed}
use Rattle.item.specs.Rules.{After, after, step_of, dropped, resends, without, probes, granted, queued, on_request, on_release, on_probe, on_clean, on_rebroadcast, on_withdraw, handed_over, vacated, received}

module _ (i : Item) (q : length i.queue ≡ 64) where
  pub length-bytes : length (item_bytes i) ≡ size
  length-bytes = ap (λ (n : ℕ). suc (suc n)) q

  pub waiting-length : i.waiting ≤ 64 → length (unpacked i).queue ≡ i.waiting
  waiting-length h = length-take-le i.waiting i.queue (omega arith)

pub queue_short : (i : Item) → i.waiting ≤ 64 → length (unpacked i).queue ≤ 64
queue_short i h = omega (arith, length-take i.waiting i.queue)

module _ (t : List ℕ) (at : ℕ) (i : Item) (q : length i.queue ≡ 64) (h : at + size ≤ length t) where
  -- the stores that `store` makes
  pub store_eq : splice (set (set t at i.holder) (at + 1) i.waiting) (at + 2) i.queue ≡ put_item t at i
  store_eq =
      let two : set (set t at i.holder) (at + 1) i.waiting ≡ splice t at (i.holder ∷ i.waiting ∷ []) =
      rw (add-one) (sets-splice t at (i.holder ∷ i.waiting ∷ []) (omega arith)) in
      rw (two) (splice-splice t at (i.holder ∷ i.waiting ∷ []) (omega arith) i.queue)

  here : (k : ℕ) → drop (at + k) (put_item t at i) ≡ drop k (item_bytes i ++ drop (at + size) t)
  here k =
      let len = length-bytes i q in
      sym (drop-drop k at (put_item t at i))
      ∙ ap (drop k) (drop-splice t at (item_bytes i) (omega arith) ∙ ap (λ (n : ℕ). item_bytes i ++ drop (at + n) t) len)

  at_here : (k : ℕ) → get_or (put_item t at i) (at + k) 0 ≡ get_or (item_bytes i ++ drop (at + size) t) k 0
  at_here k =
      ap (λ (n : ℕ). get_or (put_item t at i) n 0) (sym (add-zero (at + k))) ∙ sym (get_or-drop (at + k) (put_item t at i) 0 0)
      ∙ ap (λ (l : List ℕ). get_or l 0 0) (here k) ∙ get_or-drop k (item_bytes i ++ drop (at + size) t) 0 0
      ∙ ap (λ (n : ℕ). get_or (item_bytes i ++ drop (at + size) t) n 0) (add-zero k)

  -- a record that was stored is loaded again
  pub load_store : item_at (put_item t at i) at ≡ i
  load_store =
      let holder : get_or (put_item t at i) at 0 ≡ i.holder = ap (λ (n : ℕ). get_or (put_item t at i) n 0) (sym (add-zero at)) ∙ at_here 0 in
      let queue : slice (put_item t at i) (at + 2) 64 ≡ i.queue = ap (take 64) (here 2) ∙ take_at i.queue (drop (at + size) t) 64 q in
      rw (holder, at_here 1, queue) refl

module _ {A : Type 0} where
  drop-take : (k m : ℕ) (l : List A) → drop k (take (k + m) l) ≡ take m (drop k l)
  drop-take zero m l = rw (zero-add) refl
  drop-take (suc k) m [] = rw (suc-add, take-nil) refl
  drop-take (suc k) m (a ∷ l) = rw (suc-add) (drop-take k m l)

-- a record is read from its own part of a table alone
pub item-slice : (t u : List ℕ) (p : ℕ) → slice t p size ≡ slice u p size → item_at t p ≡ item_at u p
item-slice t u p e =
    let byte : (k : ℕ) → k < size → get_or t (p + k) 0 ≡ get_or u (p + k) 0 =
    λ k h. sym (get_d_slice t p size k h) ∙ ap (λ (l : List ℕ). get_or l k 0) e ∙ get_d_slice u p size k h in
    let queue : (v : List ℕ) → drop 2 (slice v p size) ≡ slice v (p + 2) 64 =
    λ v. drop-take 2 64 (drop p v) ∙ ap (take 64) (drop-drop 2 p v) in
    let first : get_or t p 0 ≡ get_or u p 0 = rw (add-zero) at (byte 0 (lit< tt)) in
    rw (first, byte 1 (lit< tt), ← queue t, e, queue u) refl

module _ (t : List ℕ) (at : ℕ) (l : List ℕ) (h : at + length l ≤ length t) (p : ℕ) where
  -- what is written elsewhere leaves a record as it was
  pub item-before : p + size ≤ at → item_at (splice t at l) p ≡ item_at t p
  item-before f = item-slice (splice t at l) t p (slice-splice-before t at l h p size f)

  pub item-after : at + length l ≤ p → item_at (splice t at l) p ≡ item_at t p
  item-after f = item-slice (splice t at l) t p (slice-splice-after t at l h p size f)

turned : (b : Bool) (n : ℕ) → cond (not b) (1 + n) 0 ≡ cond b 0 (suc n)
turned true n = refl
turned false n = omega arith

-- the place of the first that passes, if there is one, and the place in the rules
module _ {A : Type 0} (p : A → Bool) where
  passed_eq : (l : List A) → position_or_len p l ≡ find_index p l
  unfolding find_index
  passed_eq [] = refl
  passed_eq (a ∷ l) = rw (passed_eq l) (turned (p a) (find_index p l))

  pub position_is : (l : List A) → MatchOption (position p l) (length l ≤ find_index p l) (λ k. (k < length l) × (find_index p l ≡ k))
  position_is l =
      by-test (λ o. MatchOption o (length l ≤ find_index p l) (λ k. (k < length l) × (find_index p l ≡ k))) (ltb (position_or_len p l) (length l))
      (λ e. (ltb-true _ _ e, sym (passed_eq l))) (λ e. omega (arith, ltb-false _ _ e, passed_eq l))

pub any-member : (t : ℕ) (l : List ℕ) → list_any (λ q. eqb q t) l ≡ member t l
unfolding member
any-member t [] = refl
any-member t (q ∷ l) = ap (λ (b : Bool). eqb q t || b) (any-member t l)

-- the record as a queue with zeros behind it
pub unpacked-packed : (k : Lock) → unpacked (packed k) ≡ k
unpacked-packed k = rw (take-append_seam) refl

pub length-packed : (k : Lock) → length k.queue ≤ 64 → length (packed k).queue ≡ 64
length-packed k h =
    let n = 64 - length k.queue in omega (arith, length-append k.queue (replicate n 0), length-replicate {A = ℕ} n 0)

-- a count and an array that hold a list
pub packed_eq : (h n : ℕ) (q l : List ℕ) → n ≡ length l → q ≡ padded 64 l → ◌≡◌ {A = Item} (record { holder = h; waiting = n; queue = q }) (packed (lock h l))
packed_eq h n q l e f = rw (e, f) refl

module _ (i : Item) (f : Packed i) where
  pub queue-length : length (unpacked i).queue ≡ i.waiting
  queue-length = sym (ap (λ (j : Item). j.waiting) f.zeros)

  pub queue-padded : i.queue ≡ padded 64 (unpacked i).queue
  queue-padded = ap (λ (j : Item). j.queue) f.zeros

  pub queue-put : (t : ℕ) → i.waiting < 64 → set i.queue i.waiting t ≡ padded 64 ((unpacked i).queue ++ (t ∷ []))
  queue-put t h =
      let n = queue-length in
      ap (λ (l : List ℕ). set l i.waiting t) queue-padded
      ∙ ap (λ (k : ℕ). set (padded 64 (unpacked i).queue) k t) (sym n) ∙ put-padded 64 (unpacked i).queue t (omega arith)

-- the elements behind place k, up to i, each moved one place to the front
abbrev pub shifted : ℕ → List ℕ → ℕ → List ℕ
shifted k q i = remove_at k (take (i + 1) q) ++ drop i q

module _ (k i : ℕ) (h : k ≤ i) where
  pub shift_all : (q : List ℕ) → i < length q → paste q k (drop (k + 1) q) (i - k) ≡ shifted k q i
  unfolding without_places
  shift_all q f =
      let whole : k + (i - k) ≡ i = omega arith in
      let front : i + 1 ≡ k + 1 + (i - k) = omega arith in
      let out = remove_at-without k (take (i + 1) q) (rw (length-take-le (i + 1) q (omega arith)) (omega arith)) in
      rw (whole, out, take-take k (i + 1) q (omega arith), front, drop-take (k + 1) (i - k) q) refl

  pub shift_last : (m : ℕ) (l : List ℕ) → length l ≡ i + 1 → length l ≤ m → set (shifted k (padded m l) i) i 0 ≡ padded m (remove_at k l)
  shift_last m l e f =
      let all_of : take (i + 1) (padded m l) ≡ l = take_at l (replicate (m - length l) 0) (i + 1) e in
      let left = remove_at-length k l (omega arith) in
      let more : m - length (remove_at k l) ≡ suc (m - length l) = omega arith in
      let zeros : List ℕ = replicate (m - length l) 0 in
      let rest : drop i (padded m l) ≡ get_or (padded m l) i 0 ∷ zeros =
      drop-cons (padded m l) i 0 (omega (arith, length-append l zeros)) ∙ ap (λ (r : List ℕ). get_or (padded m l) i 0 ∷ r) (drop_at l zeros (suc i) (omega arith)) in
      rw (all_of, rest, more) (set_at (remove_at k l) (get_or (padded m l) i 0) zeros 0 i (omega arith))

-- a session taken out at its place, if it has one
module _ (i : Item) (f : Packed i) (t : ℕ) where
  abbrev Placed : Option ℕ → Type 0
  Placed o =
      let l = (unpacked i).queue in
      MatchOption o (length l ≤ find_index (λ q. eqb q t) l) (λ k. (k < length l) × (find_index (λ q. eqb q t) l ≡ k))

  placed : (o : Option ℕ) → o ≡ position (λ q. eqb q t) (unpacked i).queue → Placed o
  placed o e = subst Placed (sym e) (position_is (λ q. eqb q t) (unpacked i).queue)

  pub taken_out : (o : Option ℕ) (r : Item) → o ≡ position (λ q. eqb q t) (unpacked i).queue
      → MatchOption o (r ≡ i) (λ k. r ≡ packed (lock i.holder (remove_at k (unpacked i).queue))) → r ≡ packed (lock i.holder (without t (unpacked i).queue))
  unfolding without
  taken_out None r e m =
      m ∙ f.zeros ∙ ap (λ (q : List ℕ). packed (lock i.holder q)) (sym (remove_at-past _ (unpacked i).queue (placed None e)))
  taken_out (Some k) r e m = m ∙ ap (λ (n : ℕ). packed (lock i.holder (remove_at n (unpacked i).queue))) (sym (placed (Some k) e).1)

module _ (q : List ℕ) (i : ℕ) (h : i < length q) where
  more : take (i + 1) q ≡ take i q ++ (get_or q i 0 ∷ [])
  more = rw (add-one) (take-suc q i 0 h)

  -- one turn of the loops that send
  pub resends-more : resends (take (i + 1) q) ≡ resends (take i q) ++ (plain (get_or q i 0) Kind.resend ∷ [])
  unfolding resends
  resends-more = ap resends more ∙ map-append (λ r. plain r Kind.resend) (take i q) (get_or q i 0 ∷ [])

  module _ (senior : ℕ → ℕ → Bool) (n : ℕ) where
    probes-turn : (b : Bool) → senior (get_or q i 0) n ≡ b
        → probes senior n (take (i + 1) q) ≡ probes senior n (take i q) ++ map (λ r. message n Kind.probe r n) (cond b (get_or q i 0 ∷ []) [])
    unfolding probes filter
    probes-turn b e =
        let s : ℕ → Bool = λ r. senior r n in
        ap (λ (l : List ℕ). map (λ r. message n Kind.probe r n) (filter s l)) more
        ∙ ap (map (λ r. message n Kind.probe r n)) (filter-append s (take i q) (get_or q i 0 ∷ []))
        ∙ map-append (λ r. message n Kind.probe r n) (filter s (take i q)) (filter s (get_or q i 0 ∷ [])) ∙ rw (e) refl

    pub probes-more : senior (get_or q i 0) n ≡ true → probes senior n (take (i + 1) q) ≡ probes senior n (take i q) ++ (message n Kind.probe (get_or q i 0) n ∷ [])
    probes-more = probes-turn true

    pub probes-same : senior (get_or q i 0) n ≡ false → probes senior n (take (i + 1) q) ≡ probes senior n (take i q)
    probes-same e = probes-turn false e ∙ append-nil (probes senior n (take i q))

pub resends-length : (q : List ℕ) → length (resends q) ≡ length q
unfolding resends
resends-length q = length-map q (λ r. plain r Kind.resend)

pub probes-length : (senior : ℕ → ℕ → Bool) (n : ℕ) (q : List ℕ) → length (probes senior n q) ≤ length q
unfolding probes
probes-length senior n q =
    let l = length-map (filter (λ r. senior r n) q) (λ r. message n Kind.probe r n) in
    omega (arith, filter-length (λ r. senior r n) q)

-- what the code hands back
pub step_eq : (i : Item) (o : List Message) (e : Event) (k : Lock) (l : List Message) → i ≡ packed k → o ≡ l
    → ◌≡◌ {A = ItemStep} (record { item = i; outbox = o; event = e }) (step_of (after k l e))
step_eq i o e k l f g = rw (f, g) refl

-- a record that holds a list
module _ (i : Item) (h : ℕ) (l : List ℕ) (e : i ≡ packed (lock h l)) where
  pub holds-queue : (unpacked i).queue ≡ l
  holds-queue = ap (λ (j : Item). (unpacked j).queue) e ∙ ap (λ (k : Lock). k.queue) (unpacked-packed (lock h l))

  pub holds-waiting : i.waiting ≡ length l
  holds-waiting = ap (λ (j : Item). j.waiting) e

  pub holds-other : (n : ℕ) → ◌≡◌ {A = Item} (record { holder = n; waiting = i.waiting; queue = i.queue }) (packed (lock n l))
  holds-other n = packed_eq n i.waiting i.queue l holds-waiting (ap (λ (j : Item). j.queue) e)

  pub holds-packed : length l < 64 → Packed i
  holds-packed f =
      rw (e) (record { fits = omega arith; room = λ _. f; zeros = sym (ap packed (unpacked-packed (lock h l))) })

pub vacated-none : (senior : ℕ → ℕ → Bool) (next : List ℕ → ℕ) (q : List ℕ) → length q ≡ 0 → vacated senior next q ≡ after free [] Nothing
unfolding vacated
vacated-none senior next [] h = refl
vacated-none senior next (r ∷ q) h = absurd (omega arith)

pub vacated-more : (senior : ℕ → ℕ → Bool) (next : List ℕ → ℕ) (q : List ℕ) → 0 < length q → vacated senior next q ≡ handed_over senior (get_or q (next q) 0) (remove_at (next q) q)
unfolding vacated
vacated-more senior next [] h = absurd (omega arith)
vacated-more senior next (r ∷ q) h = refl

-- the number of messages sent at once fits a byte
abbrev Fits : After → Type 0
Fits r = length r.sends ≤ 129

module _ (senior : ℕ → ℕ → Bool) (next : List ℕ → ℕ) where
  vacated-fits : (q : List ℕ) → length q ≤ 64 → Fits (vacated senior next q)
  unfolding vacated handed_over
  vacated-fits [] h = omega arith
  vacated-fits (r ∷ q) h =
      let k = next (r ∷ q) in
      let rest = remove_at k (r ∷ q) in
      simp (length-append, resends-length) (omega (arith, probes-length senior (get_or (r ∷ q) k 0) rest, remove_at_le k (r ∷ q)))

  -- a step sends at most 129 messages
  pub received-fits : (k : Lock) (m : Message) → length k.queue ≤ 64 → length (received senior next k m).sends ≤ 129
  unfolding received on_request on_release on_probe on_clean on_rebroadcast on_withdraw granted queued without
  received-fits k m h =
      let none : Fits (dropped k) = omega arith in
      let q = k.queue in
      let fan = probes-length senior k.holder q in
      either Fits (eqb m.kind Kind.request)
      (either Fits (eqb k.holder m.peer || member m.peer q) none
      (either Fits (eqb k.holder 0) (omega arith) (either (λ l. length l ≤ 129) (senior m.peer k.holder) {x = message k.holder Kind.probe m.peer k.holder ∷ []} {y = []} (omega arith) (omega arith))))
      (either Fits (eqb m.kind Kind.release) (either Fits (eqb k.holder m.peer) (vacated-fits q h) none)
      (either Fits (eqb m.kind Kind.probe)
      (either Fits (not (member m.peer q) || eqb k.holder 0 || senior k.holder m.a) none (either Fits (eqb k.holder m.a) (omega arith) (omega arith)))
      (either Fits (eqb m.kind Kind.clean)
      (either Fits (eqb k.holder 0) none (simp (length-append, resends-length) (omega (arith, remove_at_le (find_index (λ r. eqb r m.peer) q) q))))
      (either Fits (eqb m.kind Kind.rebroadcast)
      (either Fits (eqb k.holder 0) none (simp (length-append, resends-length) (omega arith))) (either Fits (eqb m.kind Kind.withdraw) (omega arith) none)))))
