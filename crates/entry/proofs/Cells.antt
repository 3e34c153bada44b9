-- The tests of the code, in the code's order, make a well-formed entry; 48 cells are sixteen entries.
use mathlib.Core.Path.{◌≡◌, refl, sym, ap, ◌∙◌}
use mathlib.Core.Bool.{Bool, true, false, not, cond, ◌&&◌, ◌||◌, and-true, and-false, and_comm}
use mathlib.Core.List.{List, [], ◌∷◌, ◌++◌}
use Prim.Native.Nat.{ℕ, zero, suc, ◌+◌, ◌*◌, ◌<◌}
use native.Mathlib.Numerals.{add-one, towards_suc}
use native.Mathlib.Omega.{arith}
use lib.Dec.{eqb, leb, leb-zero, eqb-suc-zero}
use lib.ListN.{length, get_or, set}
use borrow.Author.Tests.{leb-true, eqb-true, le-leb}
use Rattle.buffer.specs.Bytes.{splice, padded}
use Rattle.lists.specs.Lists.{between, every_below}
use Rattle.lists.proofs.Tests.{and_both}
use Rattle.lists.proofs.Laws.{below_add, below_cong, below_weaken, below-three}
use Rattle.buffer.proofs.Laws.{sets-splice}
use Rattle.buffer.proofs.Padded.{length-padded, splice-end}
use Rattle.message.specs.Kind
use Rattle.entry.specs.Entry.{Entry, width, entry_from, to_item, to_session, carried, well_formed, on_route}
use Rattle.entry.specs.Cells.{block_entries, block_cells, fits, agree, cell, cell_at, thrice, differs, differ_cell, misses}

-- the test of direction and kind, given a kind of at most 10
abbrev runs : ℕ → ℕ → Bool
runs d k = eqb d to_item && leb Kind.request k && leb k Kind.withdraw || eqb d to_session && (eqb k Kind.probe || eqb k Kind.clean || leb Kind.grant k)

abbrev low-kind : ℕ → ℕ → Bool
low-kind d k = leb 1 d && leb d 2 && leb k Kind.withdrawn

kinds-item : (k : ℕ) (b : Bool) → leb k Kind.withdraw ≡ b → (leb k Kind.withdrawn && (leb Kind.request k && b || false)) ≡ (leb Kind.request k && b || false)
kinds-item k true e = let h = leb-true k Kind.withdraw e in rw (le-leb k Kind.withdrawn (omega arith)) refl
kinds-item k false e = simp and-false

kinds-session : (k : ℕ) (b c : Bool) → eqb k Kind.probe ≡ b → eqb k Kind.clean ≡ c → (leb k Kind.withdrawn && (b || c || leb Kind.grant k)) ≡ (b || c || between Kind.grant Kind.withdrawn k)
kinds-session k true c e f = rw (eqb-true k Kind.probe e) refl
kinds-session k false true e f = rw (eqb-true k Kind.clean f) refl
kinds-session k false false e f = and_comm (leb k Kind.withdrawn) (leb Kind.grant k)

kinds_case : (d k : ℕ) (b c : Bool) → eqb d to_item ≡ b → eqb d to_session ≡ c → (low-kind d k && runs d k) ≡ carried d k
kinds_case d k true c e f = rw (eqb-true d to_item e) (kinds-item k (leb k Kind.withdraw) refl)
kinds_case d k false true e f = rw (eqb-true d to_session f) (kinds-session k (eqb k Kind.probe) (eqb k Kind.clean) refl refl)
kinds_case d k false false e f = rw (e, f) (and-false (low-kind d k))

kinds-same : (d k : ℕ) → (low-kind d k && runs d k) ≡ carried d k
kinds-same d k = kinds_case d k (eqb d to_item) (eqb d to_session) refl refl

-- one number that the kind carries or not
number_same : (p : Bool) (S v : ℕ) → (leb v S && fits p v) ≡ cond p (between 1 S v) (eqb v 0)
number_same true S zero = and-false (leb 0 S)
number_same false S zero = rw (leb-zero S) refl
number_same true S (suc v) = rw (eqb-suc-zero v, le-leb 1 (suc v) (omega arith)) (and-true (leb (suc v) S))
number_same false S (suc v) = rw (eqb-suc-zero v) (and-false (leb (suc v) S))

pair_same : (p : Bool) (S a b : ℕ) → ((leb a S && fits p a) && (leb b S && fits p b)) ≡ cond p (between 1 S a && between 1 S b) (eqb a 0 && eqb b 0)
pair_same true S a b = rw (number_same true S a, number_same true S b) refl
pair_same false S a b = rw (number_same false S a, number_same false S b) refl

-- nine tests in the order of the code and in the order of the definition
reorder : (k f a b e t p x q : Bool) → ((k && (f && a && b && e)) && (t && p) && (x && q)) ≡ ((k && f) && t && x && ((p && a) && (q && b)) && e)
reorder false f a b e t p x q = refl
reorder true false a b e t p x q = refl
reorder true true a b e false p x q = simp and-false
reorder true true a b e true p false q = simp and-false
reorder true true a b e true false true q = simp and-false
reorder true true false b e true true true q = refl
reorder true true true b e true true true false = and-false (b && e && true)
reorder true true true false e true true true true = refl
reorder true true true true e true true true true = and-true (e && true) ∙ and-true e

-- the tests of the code on one entry
pub tests_entry : (S M : ℕ) (m : List ℕ) (at to : ℕ)
    → let e : Entry = entry_from m at to in
    (cell m at to to_session Kind.withdrawn 0 && (leb 1 e.session && leb e.session S && leb e.a S) && (leb 1 e.item && leb e.item M && leb e.b S))
    ≡ well_formed S M e
unfolding agree well_formed
tests_entry S M m at to =
    let e : Entry = entry_from m at to in
    let d = e.direction in
    let k = e.kind in
    let p = Kind.carries k in
    reorder (low-kind d k) (runs d k) (fits p e.a) (fits p e.b) (not (eqb k Kind.abort) || eqb e.a e.session) (between 1 S e.session) (leb e.a S) (between 1 M e.item) (leb e.b S)
    ∙ rw (kinds-same d k, pair_same p S e.a e.b) refl

module _ (a b c : ℕ) where
  pub length-thrice : (n : ℕ) → length (thrice n a b c) ≡ 3 * n
  unfolding thrice
  length-thrice zero = refl
  length-thrice (suc n) = let rest = length-thrice n in omega arith

  thrice-more : (n : ℕ) → thrice n a b c ++ (a ∷ b ∷ c ∷ []) ≡ thrice (suc n) a b c
  unfolding thrice
  thrice-more zero = refl
  thrice-more (suc n) = ap (λ (l : List ℕ). a ∷ b ∷ c ∷ l) (thrice-more n)

  -- three stores add the three numbers once more
  pub thrice-put : (n : ℕ) → n < block_entries → set (set (set (padded block_cells (thrice n a b c)) (3 * n) a) (3 * n + 1) b) (3 * n + 2) c ≡ padded block_cells (thrice (n + 1) a b c)
  thrice-put n h =
      let len = length-thrice n in
      let full = length-padded block_cells (thrice n a b c) (omega arith) in
      simp towards_suc (sets-splice (padded block_cells (thrice n a b c)) (3 * n) (a ∷ b ∷ c ∷ []) (omega arith))
      ∙ ap (λ (k : ℕ). splice (padded block_cells (thrice n a b c)) k (a ∷ b ∷ c ∷ [])) (sym len)
      ∙ splice-end block_cells (thrice n a b c) (a ∷ b ∷ c ∷ []) (omega arith)
      ∙ ap (padded block_cells) (thrice-more n)
      ∙ ap (λ (k : ℕ). padded block_cells (thrice k a b c)) (sym (add-one n))

  -- the first, the second and the third of each three
  first_of : (n j : ℕ) → j < n → get_or (thrice n a b c) (3 * j) 0 ≡ a
  unfolding thrice
  first_of zero j h = absurd (omega arith)
  first_of (suc n) zero h = refl
  first_of (suc n) (suc j) h = let e : 3 * suc j ≡ suc (suc (suc (3 * j))) = omega arith in rw (e) (first_of n j (omega arith))

  second_of : (n j : ℕ) → j < n → get_or (thrice n a b c) (3 * j + 1) 0 ≡ b
  unfolding thrice
  second_of zero j h = absurd (omega arith)
  second_of (suc n) zero h = refl
  second_of (suc n) (suc j) h = let e : 3 * suc j + 1 ≡ suc (suc (suc (3 * j + 1))) = omega arith in rw (e) (second_of n j (omega arith))

  third_of : (n j : ℕ) → j < n → get_or (thrice n a b c) (3 * j + 2) 0 ≡ c
  unfolding thrice
  third_of zero j h = absurd (omega arith)
  third_of (suc n) zero h = refl
  third_of (suc n) (suc j) h = let e : 3 * suc j + 2 ≡ suc (suc (suc (3 * j + 2))) = omega arith in rw (e) (third_of n j (omega arith))

-- the cells of a block for S sessions and M items
abbrev form_cell : List ℕ → ℕ → ℕ → ℕ → ℕ → ℕ → Bool
form_cell m S M at to i = cell_at m (thrice block_entries to_session S M) (thrice block_entries Kind.withdrawn S S) (thrice block_entries 0 1 1) at to i

-- three cells are an entry
module _ (m : List ℕ) (S M at to j : ℕ) (h : j < block_entries) where
  cell_0 : form_cell m S M at to (3 * j)
      ≡ cell m (at + 3 * j) (to + 3 * j) to_session Kind.withdrawn 0
  cell_0 = rw (first_of to_session S M block_entries j h, first_of Kind.withdrawn S S block_entries j h, first_of 0 1 1 block_entries j h) refl

  cell_1 : form_cell m S M at to (3 * j + 1) ≡ (leb 1 (get_or m (at + 3 * j + 1) 0) && leb (get_or m (at + 3 * j + 1) 0) S && leb (get_or m (to + 3 * j + 1) 0) S)
  cell_1 =
      let e : at + (3 * j + 1) ≡ at + 3 * j + 1 = omega arith in
      let f : to + (3 * j + 1) ≡ to + 3 * j + 1 = omega arith in
      rw (second_of to_session S M block_entries j h, second_of Kind.withdrawn S S block_entries j h, second_of 0 1 1 block_entries j h, e, f)
      (and-true (leb 1 (get_or m (at + 3 * j + 1) 0) && leb (get_or m (at + 3 * j + 1) 0) S && leb (get_or m (to + 3 * j + 1) 0) S))

  cell_2 : form_cell m S M at to (3 * j + 2) ≡ (leb 1 (get_or m (at + 3 * j + 2) 0) && leb (get_or m (at + 3 * j + 2) 0) M && leb (get_or m (to + 3 * j + 2) 0) S)
  cell_2 =
      let e : at + (3 * j + 2) ≡ at + 3 * j + 2 = omega arith in
      let f : to + (3 * j + 2) ≡ to + 3 * j + 2 = omega arith in
      rw (third_of to_session S M block_entries j h, third_of Kind.withdrawn S S block_entries j h, third_of 0 1 1 block_entries j h, e, f)
      (and-true (leb 1 (get_or m (at + 3 * j + 2) 0) && leb (get_or m (at + 3 * j + 2) 0) M && leb (get_or m (to + 3 * j + 2) 0) S))

  cells-entry : (form_cell m S M at to (3 * j) && form_cell m S M at to (3 * j + 1) && form_cell m S M at to (3 * j + 2)) ≡ well_formed S M (entry_from m (at + 3 * j) (to + 3 * j))
  cells-entry = rw (cell_0, cell_1, cell_2) (tests_entry S M m (at + 3 * j) (to + 3 * j))

-- the test of entry k, its route and body counted from two places
abbrev pub form_at : List ℕ → ℕ → ℕ → ℕ → ℕ → ℕ → Bool
form_at m S M at to k = well_formed S M (entry_from m (at + width * k) (to + width * k))

-- 48 cells are sixteen entries
cells-from : (m : List ℕ) (S M at to i : ℕ) → every_below block_cells (form_cell m S M (at + width * i) (to + width * i)) ≡ every_below block_entries (λ j. form_at m S M at to (i + j))
cells-from m S M at to i =
    below-three block_entries (form_cell m S M (at + width * i) (to + width * i))
    ∙ below_cong block_entries _ (λ j. form_at m S M at to (i + j))
    (λ j h.
    let e : at + width * i + width * j ≡ at + width * (i + j) = omega arith in
    let f : to + width * i + width * j ≡ to + width * (i + j) = omega arith in
    cells-entry m S M (at + width * i) (to + width * i) j h ∙ rw (e, f) refl)

-- sixteen entries more
pub block_on : (m : List ℕ) (S M at to i : ℕ) {tops highs skips : List ℕ} {r : Bool}
    → tops ≡ thrice block_entries to_session S M → highs ≡ thrice block_entries Kind.withdrawn S S → skips ≡ thrice block_entries 0 1 1
    → r ≡ every_below block_cells (cell_at m tops highs skips (at + width * i) (to + width * i)) → every_below i (form_at m S M at to) ≡ true
    → every_below (i + block_entries) (form_at m S M at to) ≡ r
block_on m S M at to i et eh es e h = rw (e, et, eh, es, cells-from m S M at to i, below_add i block_entries (form_at m S M at to), h) refl

not-all : (a b c : Bool) → (not c || not b || not a) ≡ not (a && b && c)
not-all a b false = rw (and-false (a && b)) refl
not-all a false true = rw (and-false a) refl
not-all a true true = rw (and-true a, and-true a) refl

-- the three bytes at the place of a route are not the route, or they are
pub misses-route : (m : List ℕ) (d t x at to : ℕ) → misses m d t x at ≡ not (on_route d t x (entry_from m at to))
unfolding differs
misses-route m d t x at to = not-all (eqb (get_or m at 0) d) (eqb (get_or m (at + 1) 0) t) (eqb (get_or m (at + 2) 0) x)

-- what differs in a part differs
looked_at-differs : (a f b g c : Bool) → (a || f && b || g && c) ≡ true → (a || b || c) ≡ true
looked_at-differs true f b g c e = refl
looked_at-differs false f true g c e = refl
looked_at-differs false f false g c e = (and_both g c (rw (and-false f) at e)).1

module _ (m : List ℕ) (depth d t x : ℕ) where
  abbrev differ_at : ℕ → Bool
  differ_at at = differs m depth d t x at

  differs-misses : (at : ℕ) → differ_at at ≡ true → misses m d t x at ≡ true
  unfolding differs
  differs-misses at = looked_at-differs (not (eqb (get_or m (at + 2) 0) x)) (leb 2 depth) (not (eqb (get_or m (at + 1) 0) t)) (leb 3 depth) (not (eqb (get_or m at 0) d))

  -- three cells are a route
  cells-route : (at j : ℕ) → j < block_entries
      → let c : ℕ → Bool = differ_cell m (thrice block_entries 0 1 1) depth d t x at in (c (3 * j) && c (3 * j + 1) && c (3 * j + 2)) ≡ differ_at (at + 3 * j)
  cells-route at j h =
      rw (first_of 0 1 1 block_entries j h, second_of 0 1 1 block_entries j h, third_of 0 1 1 block_entries j h) (and-true (differ_at (at + 3 * j) && true) ∙ and-true (differ_at (at + 3 * j)))

  -- sixteen entries more that are not on the route
  pub miss_on : (at i : ℕ) {skips : List ℕ} → skips ≡ thrice block_entries 0 1 1 → every_below block_cells (differ_cell m skips depth d t x (at + width * i)) ≡ true
      → every_below i (λ k. misses m d t x (at + width * k)) ≡ true → every_below (i + block_entries) (λ k. misses m d t x (at + width * k)) ≡ true
  miss_on at i es e h =
      let cells : every_below block_cells (differ_cell m (thrice block_entries 0 1 1) depth d t x (at + width * i)) ≡ every_below block_entries (λ j. differ_at (at + width * (i + j))) =
      below-three block_entries (differ_cell m (thrice block_entries 0 1 1) depth d t x (at + width * i))
      ∙ below_cong block_entries _ (λ j. differ_at (at + width * (i + j)))
      (λ j l. let q : at + width * i + width * j ≡ at + width * (i + j) = omega arith in cells-route (at + width * i) j l ∙ rw (q) refl) in
      let more = below_weaken block_entries (λ j. differ_at (at + width * (i + j))) (λ j. misses m d t x (at + width * (i + j))) (λ j. differs-misses (at + width * (i + j))) (sym cells ∙ (rw (es) at e)) in
      rw (below_add i block_entries (λ k. misses m d t x (at + width * k)), h, more) refl
