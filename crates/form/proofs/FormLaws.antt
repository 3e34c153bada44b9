-- Laws of the tests that the checks make: a row of bytes with its limits, the sessions of a queue, and ranks.
use mathlib.Core.Path.{◌≡◌, refl, sym, ap, ◌∙◌}
use mathlib.Core.Bool.{Bool, true, false, cond, not, ◌&&◌, ◌||◌, and-true, and-false, and_assoc, and_comm, or-false, or_assoc}
use mathlib.Core.List.{List, [], ◌∷◌, ◌++◌, append-nil}
use Prim.Native.Nat.{ℕ, zero, suc, ◌+◌, ◌-◌, ◌^◌, ◌≤◌, ◌<◌}
use native.Mathlib.Omega.{arith}
use borrow.Author.Tests.{eqb-true, eq-eqb, ne_eqb, leb-true, leb-false, le-leb}
use lib.Dec.{eqb, leb, ltb, eqb-suc-zero, leb-suc-zero, leb-suc-suc}
use lib.ListN.{length, get_or, take, drop, replicate, length-replicate}
use lib.Pow.{suc_ones, ones_lt, pow_mono}
use lib.Seq.{take-suc, drop-append-le, take-append-add, append_snoc}
use Rattle.std.specs.List.{zip}
use Rattle.std.proofs.lemmas.List.{take-append-drop, drop-replicate, take-replicate}
use Rattle.buffer.specs.Bytes.{slice}
use Rattle.lists.specs.Lists.{between, member, distinct, all_of}
use Rattle.lists.proofs.Tests.{and_both, and_intro, eqb-sym, refuted, tests_agree, by_answer}
use Rattle.lists.proofs.Searches.{distinct-all, all-distinct}
use Rattle.lists.proofs.Laws.{all_append, all_get_d, all_intro, all-member, all_both, distinct-last, member-append, member-last}
use Rattle.bitset.specs.Bitset.{has, single, full, insert}
use Rattle.bitset.proofs.MemberLaws.{has-single, has-insert, has_above, has-full, same-members}
use Rattle.message.specs.Limits.{max_sessions}
use Rattle.session.specs.declared.Session.{Session}
use Rattle.session.specs.Record as SessionRecord
use Rattle.session.specs.Seniority
use Rattle.session.specs.Stage
use Rattle.item.specs.Record as ItemRecord
use Rattle.form.specs.Rows.{limits_of}

-- the first n are at most s, and the others zero
abbrev pub within : ℕ → ℕ → List ℕ → Bool
within s n l = all_of (λ b. leb b s) (take n l) && all_of (λ b. eqb b 0) (drop n l)

zero-leb : (v : ℕ) → eqb v 0 ≡ leb v 0
zero-leb zero = refl
zero-leb (suc v) = eqb-suc-zero v ∙ sym (leb-suc-zero v)

-- a byte and its limit
abbrev pub ordered : ℕ × ℕ → Bool
ordered p = leb p.0 p.1

zeros_within : (m : ℕ) (l : List ℕ) → length l ≤ m → all_of ordered (zip l (replicate m 0)) ≡ all_of (λ b. eqb b 0) l
unfolding all_of
zeros_within m [] h = refl
zeros_within zero (v ∷ l) h = absurd (omega arith)
zeros_within (suc m) (v ∷ l) h = rw (zero-leb v, zeros_within m l (omega arith)) refl

row_within : (s n m : ℕ) (l : List ℕ) → length l ≤ n + m → all_of ordered (zip l (replicate n s ++ replicate m 0)) ≡ within s n l
unfolding all_of
row_within s zero m l h = zeros_within m l (omega arith)
row_within s (suc n) m [] h = refl
row_within s (suc n) m (v ∷ l) h = rw (row_within s n m l (omega arith)) (sym (and_assoc (leb v s) (all_of (λ b. leb b s) (take n l)) (all_of (λ b. eqb b 0) (drop n l))))

-- the limits of a row, read so that n of them are s
limits_from : (c s n : ℕ) → n ≤ c → take c (drop (c - n) (replicate c s ++ replicate c 0)) ≡ replicate n s ++ replicate (c - n) 0
limits_from c s n h =
    let left : c - (c - n) ≡ n = omega arith in
    let whole : c ≡ length (replicate n s) + (c - n) = rw (length-replicate) (omega arith) in
    rw (drop-append-le (c - n) (replicate c s) (replicate c 0) (rw (length-replicate) (omega arith)), drop-replicate (c - n) c s, left)
    (ap (λ (k : ℕ). take k (replicate n s ++ replicate c 0)) whole ∙ take-append-add (replicate n s) (replicate c 0) (c - n) ∙ rw (take-replicate {X = ℕ} (c - n) c 0 (omega arith)) refl)

pub row_form : (s n : ℕ) (l : List ℕ) → length l ≡ max_sessions → n ≤ max_sessions → all_of ordered (zip l (take max_sessions (drop (max_sessions - n) (limits_of s)))) ≡ within s n l
row_form s n l e h = rw (limits_from max_sessions s n h) (row_within s n (max_sessions - n) l (omega arith))

-- the bytes within their limits are at most s
pub taken_low : (s n : ℕ) (l : List ℕ) → within s n l ≡ true → (k : ℕ) → k < length (take n l) → get_or (take n l) k 0 ≤ s
taken_low s n l e k f =
    leb-true (get_or (take n l) k 0) s (all_get_d (λ b. leb b s) (take n l) k 0 (and_both (all_of (λ b. leb b s) (take n l)) (all_of (λ b. eqb b 0) (drop n l)) e).0 f)

-- the mask has h and the sessions of a list
pub Seen : ℕ → List ℕ → ℕ → Type 0
Seen h l mask = (k : ℕ) → 1 ≤ k → has k mask ≡ eqb h k || member k l

-- no session is zero, none stands there twice, and none is h
abbrev pub in_line : ℕ → List ℕ → Bool
in_line h l = all_of (leb 1) l && distinct l && not (member h l)

pub none_seen : (h : ℕ) → Seen h [] (single h)
unfolding member Seen
none_seen h k l = has-single k h l ∙ sym (or-false (eqb h k))

neither : (a b : Bool) → not (a || b) ≡ not a && not b
neither true b = refl
neither false b = refl

line_step : (a p d v h e : Bool)
    → ((a && (p && true)) && (d && not v)) && not (h || (e || false)) ≡ ((a && d) && not h) && (p && (not e && not v))
line_step false p d v h e = refl
line_step true false d v h e = sym (and-false (d && not h))
line_step true true false v h e = refl
line_step true true true v true e = and-false (not v)
line_step true true true v false true = and-false (not v)
line_step true true true v false false = and-true (not v)

module _ (h : ℕ) (l : List ℕ) (v : ℕ) where
  -- one session more
  line-more : in_line h (l ++ (v ∷ [])) ≡ in_line h l && (leb 1 v && (not (eqb h v) && not (member v l)))
  unfolding all_of member
  line-more =
      rw (all_append (leb 1) l (v ∷ []), distinct-last l v, member-append h l (v ∷ []), eqb-sym v h) (line_step (all_of (leb 1) l) (leb 1 v) (distinct l) (member v l) (member h l) (eqb h v))

  pub line-zero : v ≡ 0 → in_line h (l ++ (v ∷ [])) ≡ false
  line-zero e = line-more ∙ rw (e) (and-false (in_line h l))

  module _ (mask : ℕ) (s : Seen h l mask) (p : 1 ≤ v) where
    not_seen : not (has v mask) ≡ not (eqb h v) && not (member v l)
    unfolding Seen
    not_seen = rw (s v p) (neither (eqb h v) (member v l))

    pub line_seen : has v mask ≡ true → in_line h (l ++ (v ∷ [])) ≡ false
    line_seen e = line-more ∙ rw (← not_seen, e, and-false (leb 1 v)) (and-false (in_line h l))

    pub line_new : has v mask ≡ false → in_line h l ≡ true → in_line h (l ++ (v ∷ [])) ≡ true
    line_new e f = line-more ∙ rw (f, ← not_seen, e, le-leb 1 v p) refl

    pub seen_more : Seen h (l ++ (v ∷ [])) (insert v mask)
    unfolding Seen
    seen_more k q = has-insert k v mask q p ∙ rw (s k q, member-last k l v) (or_assoc (eqb h k) (member k l) (eqb v k))

-- a line is refused by what stands in front
pub line-front : (h : ℕ) (k l : List ℕ) → in_line h k ≡ false → in_line h (k ++ l) ≡ false
line-front h k [] e = rw (append-nil) e
line-front h k (v ∷ l) e = rw (← append_snoc k v l) (line-front h (k ++ (v ∷ [])) l (line-more h k v ∙ rw (e) refl))

pub line-stop : (l : List ℕ) (h i : ℕ) → i < length l → in_line h (take i l ++ (get_or l i 0 ∷ [])) ≡ false → in_line h l ≡ false
line-stop l h i f e =
    rw (← take-append-drop (suc i) l) (line-front h (take (suc i) l) (drop (suc i) l) (rw (take-suc l i 0 f) e))

-- ---- ranks: a list of n numbers from 1 to n, with the mask that has them
module _ (l : List ℕ) where
  abbrev n : ℕ
  n = length l

  -- one that is out of bounds
  pub ranks_beyond : (i : ℕ) → i < n → between 1 n (get_or l i 0) ≡ false → Seniority.well_formed l ≡ false
  unfolding Seniority.well_formed
  ranks_beyond i h e = rw (refuted (all_of (between 1 n) l) (between 1 n (get_or l i 0)) (λ a. all_get_d (between 1 n) l i 0 a h) e) refl

  module _ (few : n ≤ 64) (known : (k : ℕ) → k < n → between 1 n (get_or l k 0) ≡ true) (mask : ℕ) (seen : Seen 0 l mask) (fits : mask < 2 ^ 64) where
    in_bounds : all_of (between 1 n) l ≡ true
    in_bounds = all_intro (between 1 n) l 0 known

    has-member : (k : ℕ) → 1 ≤ k → has k mask ≡ member k l
    unfolding Seen
    has-member k low = seen k low ∙ rw (ne_eqb 0 k (λ e. omega arith)) refl

    -- the mask is full where none stands there twice
    full-mask : distinct l ≡ true → mask ≡ full n
    full-mask d =
        same-members 64 mask (full n) fits (omega (arith, ones_lt n, pow_mono {i = n} {j = 64} few))
        (λ k low high. by_answer (leb k n)
        (λ e. let le = leb-true k n e in has-member k low ∙ distinct-all l d in_bounds k low le ∙ sym (has-full n k low le))
        (λ e. let gt : n < k = omega (arith, leb-false k n e) in
        has-member k low ∙ all-member (between 1 n) k l in_bounds (rw (e) (and-false (leb 1 k))) ∙ sym (has_above n k (full n) (ones_lt n) gt)))

    -- and only there
    mask_full : mask ≡ full n → distinct l ≡ true
    mask_full e = all-distinct l (λ k low high. sym (has-member k low) ∙ ap (has k) e ∙ has-full n k low high)

    pub ranks_form : eqb mask (full n) ≡ Seniority.well_formed l
    unfolding Seniority.well_formed
    ranks_form =
        tests_agree (eqb mask (full n)) (all_of (between 1 n) l && distinct l)
        (λ e. and_intro in_bounds (mask_full (eqb-true mask (full n) e)))
        (λ e. eq-eqb mask (full n) (full-mask (and_both (all_of (between 1 n) l) (distinct l) e).1))

choice : (w x y : Bool) → w && x || not w && y ≡ cond w x y
choice true x y = or-false x
choice false x y = refl

held_below : (M held : ℕ) → leb held (full M) ≡ ltb held (2 ^ M)
held_below M held = sym (leb-suc-suc held (2 ^ M - 1)) ∙ ap (λ (n : ℕ). leb (suc held) n) (suc_ones M)

-- a session record, by the tests that its check makes
pub session_form : (S M : ℕ) (s : Session)
    → between Stage.growing Stage.rolled_back s.stage
    && (Stage.awaits s.stage && between 1 M s.awaited || not (Stage.awaits s.stage) && eqb s.awaited 0)
    && leb s.held (full M)
    && within S S s.juniors
    ≡ SessionRecord.well_formed S M s
unfolding SessionRecord.well_formed
session_form S M s =
    rw (choice (Stage.awaits s.stage) (between 1 M s.awaited) (eqb s.awaited 0), held_below M s.held) (simp and_assoc)

item-step : (p l h d m z : Bool) → p && (l && h) && d && m && z ≡ p && ((h && z) && (l && d && m))
item-step false l h d m z = refl
item-step true false h d m z = sym (and-false (h && z))
item-step true true false d m z = refl
item-step true true true d m z = and_comm (d && m) z

-- an item record, by the tests that its check makes
pub item_form : (t : List ℕ) (at S : ℕ) {n : ℕ} {l : List ℕ} → n ≡ get_or t (at + ItemRecord.waiting_place) 0 → l ≡ slice t (at + ItemRecord.queue_place) max_sessions
    → ItemRecord.well_formed S (ItemRecord.item_at t at) ≡ leb (get_or t at 0) S && leb n max_sessions && (within S n l && in_line (get_or t at 0) (take n l))
unfolding ItemRecord.well_formed
item_form t at S {n = n} {l = l} p q =
    rw (← p, ← q, all_both (leb 1) (λ b. leb b S) (take n l)) (item-step (leb (get_or t at 0) S && leb n max_sessions) (all_of (leb 1) (take n l)) (all_of (λ b. leb b S) (take n l)) (distinct (take n l)) (not (member (get_or t at 0) (take n l))) (all_of (λ b. eqb b 0) (drop n l)))
