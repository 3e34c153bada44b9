-- Laws of the mailbox: its bytes hold its entries, and a well-formed mailbox is the bytes of its entries.
use mathlib.Core.Path.{◌≡◌, refl, sym, ap, ◌∙◌}
use mathlib.Core.Bool.{true, false, ◌&&◌, and-false}
use mathlib.Core.List.{List, [], ◌++◌, append-nil}
use Prim.Native.Nat.{ℕ, ◌+◌, ◌-◌, ◌*◌, ◌≤◌, ◌<◌}
use native.Mathlib.Nat.{add-zero}
use native.Mathlib.Omega.{arith}
use lib.Dec.{eqb, leb}
use lib.ListN.{length, get_or, replicate, length-append, get_or-append}
use lib.Seq.{take-length, get_or-append-add, ext_get_or}
use borrow.Author.Tests.{leb-true, eqb-true, le-leb, eq-eqb, ne_eqb}
use Rattle.buffer.specs.Bytes.{slice, from_bytes, to_bytes, padded}
use Rattle.lists.specs.Lists.{between, all_of, tabulate}
use Rattle.lists.proofs.Laws.{all_get_d, all-zeros, get_d_tabulate, length-tabulate, zeros-all}
use Rattle.lists.proofs.Tests.{and_both, within}
use Rattle.buffer.proofs.Laws.{AreBytes, length-slice, slice-split, bytes-slice, to_bytes-from_bytes}
use Rattle.entry.specs.Entry as Entry
use Rattle.entry.specs.Entry.{Entry, unused, width}
use Rattle.mailbox.specs.Layout.{max_capacity, header, count_place, size, route_place, body_place, capacity_of, count_of, sized, entry_at, entries_of, well_formed, routes, bodies, mail_bytes, Kept}
use Rattle.buffer.proofs.Padded.{slice-within, length-padded, slice_padding}
use Rattle.mailbox.proofs.Triples.{triples, routes-triples, bodies-triples, length-triples, first-number, second-number, third_number, triples-tabulate}

-- C, a count and two runs of bytes
abbrev pub framed : ℕ → ℕ → List ℕ → List ℕ → List ℕ
framed C n r q = to_bytes 2 C ++ (to_bytes 2 n ++ (r ++ q))

-- the header
abbrev pub head : ℕ → ℕ → List ℕ
head C n = to_bytes 2 C ++ to_bytes 2 n

pub length-routes : (l : List Entry) → length (routes l) ≡ width * length l
length-routes l = ap length (routes-triples l) ∙ length-triples (λ e. e.direction) (λ e. e.session) (λ e. e.item) l

pub length-bodies : (l : List Entry) → length (bodies l) ≡ width * length l
length-bodies l = ap length (bodies-triples l) ∙ length-triples (λ e. e.kind) (λ e. e.a) (λ e. e.b) l

-- the second run, as the middle of three lists
pub framed-second : (C n : ℕ) (r q : List ℕ) → framed C n r q ≡ (head C n ++ r) ++ (q ++ [])
framed-second C n r q = simp append-nil

module _ (C : ℕ) (l : List Entry) (low : 1 ≤ C) (high : C ≤ max_capacity) (room : length l ≤ C) where
  pub capacity-mail : capacity_of (mail_bytes C l) ≡ C
  unfolding mail_bytes
  capacity-mail = omega arith

  pub count-mail : count_of (mail_bytes C l) ≡ length l
  unfolding mail_bytes
  count-mail = omega arith

  routes_fill : length (padded (width * C) (routes l)) ≡ width * C
  routes_fill = length-padded (width * C) (routes l) (omega (arith, length-routes l))

  bodies_fill : length (padded (width * C) (bodies l)) ≡ width * C
  bodies_fill = length-padded (width * C) (bodies l) (omega (arith, length-bodies l))

  pub length-mail : length (mail_bytes C l) ≡ size C
  unfolding mail_bytes
  length-mail = omega (arith, length-append (padded (width * C) (routes l)) (padded (width * C) (bodies l)), routes_fill, bodies_fill)

  pub sized-mail : sized (mail_bytes C l) ≡ true
  unfolding sized
  sized-mail = rw (capacity-mail, le-leb 1 C low, le-leb C max_capacity high) (eq-eqb (length (mail_bytes C l)) (size C) length-mail)

  -- the byte at a place of the first run and of the second
  route-byte : (i : ℕ) → i < width * length l → get_or (mail_bytes C l) (header + i) 0 ≡ get_or (routes l) i 0
  unfolding mail_bytes
  route-byte i h =
      get_or-append-add (head C (length l)) (padded (width * C) (routes l) ++ padded (width * C) (bodies l)) i 0
      ∙ get_or-append (padded (width * C) (routes l)) (padded (width * C) (bodies l)) 0 i (omega (arith, routes_fill))
      ∙ get_or-append (routes l) (replicate (width * C - length (routes l)) 0) 0 i (omega (arith, length-routes l))

  body-byte : (i : ℕ) → i < width * length l → get_or (mail_bytes C l) (route_place C + i) 0 ≡ get_or (bodies l) i 0
  unfolding mail_bytes
  body-byte i h =
      let at : route_place C + i ≡ header + (length (padded (width * C) (routes l)) + i) = omega (arith, routes_fill) in
      ap (λ (n : ℕ). get_or (mail_bytes C l) n 0) at
      ∙ get_or-append-add (head C (length l)) (padded (width * C) (routes l) ++ padded (width * C) (bodies l)) (length (padded (width * C) (routes l)) + i) 0
      ∙ get_or-append-add (padded (width * C) (routes l)) (padded (width * C) (bodies l)) i 0
      ∙ get_or-append (bodies l) (replicate (width * C - length (bodies l)) 0) 0 i (omega (arith, length-bodies l))

  -- entry k is read off the bytes
  pub entry-mail : (k : ℕ) → k < length l → entry_at (mail_bytes C l) k ≡ get_or l k unused
  unfolding entry_at
  entry-mail k h =
      let route : (j : ℕ) → j < width → get_or (mail_bytes C l) (route_place k + j) 0 ≡ get_or (triples (λ e. e.direction) (λ e. e.session) (λ e. e.item) l) (width * k + j) 0 =
      λ j p. let at : route_place k + j ≡ header + (width * k + j) = omega arith in rw (at, route-byte (width * k + j) (omega arith), routes-triples l) refl in
      let body : (j : ℕ) → j < width → get_or (mail_bytes C l) (body_place C k + j) 0 ≡ get_or (triples (λ e. e.kind) (λ e. e.a) (λ e. e.b) l) (width * k + j) 0 =
      λ j p. let at : body_place C k + j ≡ route_place C + (width * k + j) = omega arith in rw (at, body-byte (width * k + j) (omega arith), bodies-triples l) refl in
      let first : get_or (mail_bytes C l) (route_place k) 0 ≡ (get_or l k unused).direction = (rw (add-zero (route_place k), add-zero (width * k)) at (route 0 (omega arith))) ∙ first-number (λ e. e.direction) (λ e. e.session) (λ e. e.item) k l h in
      let fourth : get_or (mail_bytes C l) (body_place C k) 0 ≡ (get_or l k unused).kind = (rw (add-zero (body_place C k), add-zero (width * k)) at (body 0 (omega arith))) ∙ first-number (λ e. e.kind) (λ e. e.a) (λ e. e.b) k l h in
      rw (
        capacity-mail,
        first,
        route 1 (omega arith) ∙ second-number (λ e. e.direction) (λ e. e.session) (λ e. e.item) k l h,
        route 2 (omega arith) ∙ third_number (λ e. e.direction) (λ e. e.session) (λ e. e.item) k l h,
        fourth,
        body 1 (omega arith) ∙ second-number (λ e. e.kind) (λ e. e.a) (λ e. e.b) k l h,
        body 2 (omega arith) ∙ third_number (λ e. e.kind) (λ e. e.a) (λ e. e.b) k l h,
      )
      refl

  pub entries-mail : entries_of (mail_bytes C l) ≡ l
  unfolding entries_of
  entries-mail =
      let n : length (tabulate (count_of (mail_bytes C l)) (entry_at (mail_bytes C l))) ≡ length l =
      length-tabulate (count_of (mail_bytes C l)) (entry_at (mail_bytes C l)) ∙ count-mail in
      ext_get_or unused (tabulate (count_of (mail_bytes C l)) (entry_at (mail_bytes C l))) l n
      (λ i h. get_d_tabulate (count_of (mail_bytes C l)) (entry_at (mail_bytes C l)) i unused (omega (arith, count-mail)) ∙ entry-mail i (omega arith))

  pub kept-mail : Kept (mail_bytes C l)
  kept-mail =
      record {
        low = rw (capacity-mail) low;
        high = rw (capacity-mail) high;
        fits = rw (capacity-mail, count-mail) room;
        bytes = rw (capacity-mail, entries-mail) refl;
      }

  unused-routes : slice (mail_bytes C l) (route_place (length l)) (width * (C - length l)) ≡ replicate (width * (C - length l)) 0
  unfolding mail_bytes
  unused-routes =
      slice-within (head C (length l)) (padded (width * C) (routes l)) (padded (width * C) (bodies l)) (width * length l) (width * (C - length l)) (omega (arith, routes_fill))
      ∙ slice_padding (width * C) (routes l) (width * length l) (width * (C - length l)) (sym (length-routes l)) (omega (arith, length-routes l))

  unused-bodies : slice (mail_bytes C l) (body_place C (length l)) (width * (C - length l)) ≡ replicate (width * (C - length l)) 0
  unfolding mail_bytes
  unused-bodies =
      let r : List ℕ = padded (width * C) (routes l) in
      let q : List ℕ = padded (width * C) (bodies l) in
      let at : body_place C (length l) ≡ length (head C (length l) ++ r) + width * length l = omega (arith, length-append (head C (length l)) r, routes_fill) in
      rw (at, framed-second C (length l) r q)
      (slice-within (head C (length l) ++ r) q [] (width * length l) (width * (C - length l)) (omega (arith, bodies_fill)))
      ∙ slice_padding (width * C) (bodies l) (width * length l) (width * (C - length l)) (sym (length-bodies l)) (omega (arith, length-bodies l))

  -- well-formed entries make a well-formed mailbox
  pub well_formed-mail : (S M : ℕ) → all_of (Entry.well_formed S M) l ≡ true → well_formed S M (mail_bytes C l) ≡ true
  unfolding well_formed
  well_formed-mail S M e =
      rw (capacity-mail, count-mail, entries-mail, unused-routes, unused-bodies, le-leb (length l) C room, e, all-zeros (width * (C - length l))) refl

pub length-entries : (m : List ℕ) → length (entries_of m) ≡ count_of m
unfolding entries_of
length-entries m = length-tabulate (count_of m) (entry_at m)

-- entry k of the list is entry k of the bytes
pub get_d_entries : (m : List ℕ) (k : ℕ) → k < count_of m → get_or (entries_of m) k unused ≡ entry_at m k
unfolding entries_of
get_d_entries m k h = get_d_tabulate (count_of m) (entry_at m) k unused h

-- the length of a kept mailbox
pub kept-length : (m : List ℕ) → Kept m → length m ≡ size (capacity_of m)
kept-length m k =
    ap length k.bytes ∙ length-mail (capacity_of m) (entries_of m) k.low k.high (rw (length-entries m) k.fits)

-- what `sized` tells
pub record SizeFacts (m : List ℕ) : Type 0 where
  pub low : 1 ≤ capacity_of m
  pub high : capacity_of m ≤ max_capacity
  pub whole : length m ≡ size (capacity_of m)
  pub head : header ≤ length m

pub sized-facts : (m : List ℕ) → sized m ≡ true → SizeFacts m
unfolding sized
sized-facts m e =
    let C = capacity_of m in
    let bounds = (and_both (between 1 max_capacity C) (eqb (length m) (size C)) e).0 in
    let len : length m ≡ size C = eqb-true (length m) (size C) (and_both (between 1 max_capacity C) (eqb (length m) (size C)) e).1 in
    record {
      low = (within 1 max_capacity C bounds).0;
      high = (within 1 max_capacity C bounds).1;
      whole = len;
      head = omega arith;
    }

-- what the answers to where a byte stands rest on
pub ruleset lengths = (kept-length, sized-facts)

pub short_unsized : (m : List ℕ) → length m < header → sized m ≡ false
unfolding sized
short_unsized m h = rw (ne_eqb (length m) (size (capacity_of m)) (λ e. omega arith)) (and-false (between 1 max_capacity (capacity_of m)))

-- what `well_formed` tells
pub record FormFacts (S M : ℕ) (m : List ℕ) : Type 0 where
  pub fits : count_of m ≤ capacity_of m
  pub entries : all_of (Entry.well_formed S M) (entries_of m) ≡ true
  pub routes : all_of (λ b. eqb b 0) (slice m (route_place (count_of m)) (width * (capacity_of m - count_of m))) ≡ true
  pub bodies : all_of (λ b. eqb b 0) (slice m (body_place (capacity_of m) (count_of m)) (width * (capacity_of m - count_of m))) ≡ true

pub formed-facts : (S M : ℕ) (m : List ℕ) → well_formed S M m ≡ true → FormFacts S M m
unfolding well_formed
formed-facts S M m e =
    let fits = leb (count_of m) (capacity_of m) in
    let entries = all_of (Entry.well_formed S M) (entries_of m) in
    let routes = all_of (λ b. eqb b 0) (slice m (route_place (count_of m)) (width * (capacity_of m - count_of m))) in
    let bodies = all_of (λ b. eqb b 0) (slice m (body_place (capacity_of m) (count_of m)) (width * (capacity_of m - count_of m))) in
    let three = (and_both (fits && entries && routes) bodies e).0 in
    let two = (and_both (fits && entries) routes three).0 in
    record {
      fits = leb-true (count_of m) (capacity_of m) (and_both fits entries two).0;
      entries = (and_both fits entries two).1;
      routes = (and_both (fits && entries) routes three).1;
      bodies = (and_both (fits && entries && routes) bodies e).1;
    }

-- each entry of a well-formed mailbox is well-formed
pub formed-entry : (S M : ℕ) (m : List ℕ) → well_formed S M m ≡ true → (k : ℕ) → k < count_of m → Entry.well_formed S M (entry_at m k) ≡ true
formed-entry S M m e k h =
    rw (get_d_entries m k h) at (all_get_d (Entry.well_formed S M) (entries_of m) k unused (formed-facts S M m e).entries (omega (arith, length-entries m)))

-- a run of entries and the zeros behind it
padded-slice : (m r : List ℕ) (at n C : ℕ) → at + width * C ≤ length m → n ≤ C → r ≡ slice m at (width * n)
    → all_of (λ b. eqb b 0) (slice m (at + width * n) (width * (C - n))) ≡ true → slice m at (width * C) ≡ padded (width * C) r
padded-slice m r at n C h p e z =
    let split : width * C ≡ width * n + width * (C - n) = omega arith in
    let len : length r ≡ width * n = ap length e ∙ length-slice m at (width * n) (omega arith) in
    let left : width * (C - n) ≡ width * C - length r = omega arith in
    let zeros : slice m (at + width * n) (width * (C - n)) ≡ replicate (width * C - length r) 0 =
    zeros-all (slice m (at + width * n) (width * (C - n))) z ∙ ap (λ (k : ℕ). replicate k 0) (length-slice m (at + width * n) (width * (C - n)) (omega arith) ∙ left) in
    ap (slice m at) split ∙ slice-split m at (width * n) (width * (C - n)) ∙ rw (← e, zeros) refl

framed-parts : (C n : ℕ) {h c r r' q q' : List ℕ} → to_bytes 2 C ≡ h → to_bytes 2 n ≡ c → r ≡ r' → q ≡ q' → h ++ (c ++ (r ++ q)) ≡ framed C n r' q'
framed-parts C n e f g k = rw (← e, ← f, g, k) refl

-- a well-formed mailbox is the bytes of its entries
pub formed-kept : (S M : ℕ) (m : List ℕ) → sized m ≡ true → well_formed S M m ≡ true → AreBytes m → Kept m
unfolding mail_bytes entry_at entries_of
formed-kept S M m s w b =
    let z = sized-facts m s in
    let f = formed-facts S M m w in
    let C = capacity_of m in
    let n = count_of m in
    let two : (at : ℕ) → at + 2 ≤ length m → to_bytes 2 (from_bytes (slice m at 2)) ≡ slice m at 2 =
    λ at h. rw (length-slice m at 2 h) at (to_bytes-from_bytes (slice m at 2) (bytes-slice m at 2 h b)) in
    let routes : slice m header (width * C) ≡ padded (width * C) (routes (entries_of m)) =
    padded-slice m (routes (entries_of m)) header n C (omega (arith, z.whole)) f.fits
    (routes-triples (entries_of m) ∙ triples-tabulate (λ e. e.direction) (λ e. e.session) (λ e. e.item) m n header (entry_at m) (omega (arith, z.whole, f.fits)) (λ k. refl) (λ k. refl) (λ k. refl))
    f.routes in
    let bodies : slice m (route_place C) (width * C) ≡ padded (width * C) (bodies (entries_of m)) =
    padded-slice m (bodies (entries_of m)) (route_place C) n C (omega (arith, z.whole)) f.fits
    (bodies-triples (entries_of m) ∙ triples-tabulate (λ e. e.kind) (λ e. e.a) (λ e. e.b) m n (route_place C) (entry_at m) (omega (arith, z.whole, f.fits)) (λ k. refl) (λ k. refl) (λ k. refl))
    f.bodies in
    let whole : m ≡ slice m 0 2 ++ (slice m count_place 2 ++ (slice m header (width * C) ++ slice m (route_place C) (width * C))) =
    let all_of : length m ≡ 2 + (2 + (width * C + width * C)) = omega (arith, z.whole) in
    sym (take-length m) ∙ ap (λ (k : ℕ). slice m 0 k) all_of
    ∙ slice-split m 0 2 (2 + (width * C + width * C))
    ∙ ap (λ (k : List ℕ). slice m 0 2 ++ k) (slice-split m count_place 2 (width * C + width * C))
    ∙ ap (λ (k : List ℕ). slice m 0 2 ++ (slice m count_place 2 ++ k)) (slice-split m header (width * C) (width * C)) in
    record {
      low = z.low;
      high = z.high;
      fits = f.fits;
      bytes = whole ∙ framed-parts C n (two 0 (omega (arith, z.head))) (two 2 (omega (arith, z.head))) routes bodies ∙ rw (length-entries m) refl;
    }
