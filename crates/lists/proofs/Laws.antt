-- Laws of the definitions on lists.
use mathlib.Core.Path.{◌≡◌, refl, sym, ap, ◌∙◌}
use mathlib.Core.Bool.{Bool, true, false, cond, not, ◌&&◌, ◌||◌, and-true, and-false, and_assoc, or_assoc, or-false, or-true, true≢false}
use mathlib.Core.List.{List, [], ◌∷◌, ◌++◌, map, append_assoc, append-nil}
use Prim.Native.Nat.{ℕ, zero, suc, ◌+◌, ◌-◌, ◌*◌, ◌≤◌, ◌<◌, zero-le}
use native.Mathlib.Nat.{add-zero, mul-zero, mul-suc}
use native.Mathlib.Numerals.{add-one}
use native.Mathlib.Omega.{arith}
use lib.Dec.{eqb, leb, ltb, leb-zero, leb-suc-suc}
use lib.ListN.{length, get_or, take, drop, set, replicate, length-append, length-drop, length-replicate, length-set, replicate-append-replicate, drop_of_length-le, take-append-drop}
use lib.Seq.{drop-cons, drop_at, set_at, take_at, take-suc, ext_get_or, get_or_at, get_or-set_same, get_or-set_other, length-take-le, take-append-le, drop-append-le}
use borrow.Author.Tests.{eqb-true, eqb-false, leb-true, leb-false, ne_eqb, not-true}
use Rattle.lists.specs.Lists.{every_below, member, distinct, all_of, filter, find_index, remove_at, without_places, tabulate, append_up_to}
use Rattle.lists.proofs.Tests.{and_both, and_intro, or_neither, by-test, eqb-sym, eqb_self}

-- ---- filter, find_index, remove_at, without, tabulate, append_up_to
cond-find_index : (t : Bool) (k n : ℕ) → k ≤ n → cond t 0 (suc k) ≤ suc n
cond-find_index true k n h = omega arith
cond-find_index false k n h = omega arith

module _ {A : Type 0} where
  cond-append : (t : Bool) (a : A) (k l : List A) → cond t (a ∷ k) k ++ l ≡ cond t (a ∷ (k ++ l)) (k ++ l)
  cond-append true a k l = refl
  cond-append false a k l = refl

  pub filter-append : (p : A → Bool) (k l : List A) → filter p (k ++ l) ≡ filter p k ++ filter p l
  unfolding filter
  filter-append p [] l = refl
  filter-append p (a ∷ k) l =
      ap (λ (r : List A). cond (p a) (a ∷ r) r) (filter-append p k l) ∙ sym (cond-append (p a) a (filter p k) (filter p l))

  cond-length : (t : Bool) (a : A) (k : List A) (n : ℕ) → length k ≤ n → length (cond t (a ∷ k) k) ≤ suc n
  cond-length true a k n h = omega arith
  cond-length false a k n h = omega arith

  pub filter-length : (p : A → Bool) (l : List A) → length (filter p l) ≤ length l
  unfolding filter
  filter-length p [] = zero-le
  filter-length p (a ∷ l) = cond-length (p a) a (filter p l) (length l) (filter-length p l)

  pub find_index-length : (p : A → Bool) (l : List A) → find_index p l ≤ length l
  unfolding find_index
  find_index-length p [] = zero-le
  find_index-length p (a ∷ l) = cond-find_index (p a) (find_index p l) (length l) (find_index-length p l)

  found-step : (p : A → Bool) (a : A) (l : List A) (d : A) (k : ℕ) (t : Bool) → p a ≡ t → (k < length l → p (get_or l k d) ≡ true)
      → cond t 0 (suc k) < suc (length l) → p (get_or (a ∷ l) (cond t 0 (suc k)) d) ≡ true
  found-step p a l d k true e f h = e
  found-step p a l d k false e f h = f (omega arith)

  -- what stands at the place found passes the test
  pub find_index-found : (p : A → Bool) (l : List A) (d : A) → find_index p l < length l → p (get_or l (find_index p l) d) ≡ true
  unfolding find_index
  find_index-found p [] d h = absurd (omega arith)
  find_index-found p (a ∷ l) d h = found-step p a l d (find_index p l) (p a) refl (find_index-found p l d) h

  -- the first element that passes the test: those before it do not
  pub find_index-first : (p : A → Bool) (l : List A) (d : A) (k : ℕ) → k < length l → p (get_or l k d) ≡ true
      → ((j : ℕ) → j < k → p (get_or l j d) ≡ false) → find_index p l ≡ k
  unfolding find_index
  find_index-first p [] d k h e f = absurd (omega arith)
  find_index-first p (a ∷ l) d zero h e f = rw (e) refl
  find_index-first p (a ∷ l) d (suc k) h e f =
      rw (f 0 (omega arith)) (ap suc (find_index-first p l d k (omega arith) e (λ j g. f (suc j) (omega arith))))

  -- where an element passes, the first that does is found there or before it
  pub find_index_le : (p : A → Bool) (l : List A) (d : A) (k : ℕ) → k < length l → p (get_or l k d) ≡ true → find_index p l ≤ k
  unfolding find_index
  find_index_le p [] d k h e = absurd (omega arith)
  find_index_le p (a ∷ l) d zero h e = rw (e) (omega arith)
  find_index_le p (a ∷ l) d (suc k) h e = cond-find_index (p a) (find_index p l) k (find_index_le p l d k (omega arith) e)

  -- where none passes, none is found
  pub find_index-none : (p : A → Bool) → ((a : A) → p a ≡ false) → (l : List A) → find_index p l ≡ length l
  unfolding find_index
  find_index-none p none [] = refl
  find_index-none p none (a ∷ l) = rw (none a) (ap suc (find_index-none p none l))

  first_step : (p : A → Bool) (a : A) (l : List A) (k : ℕ) (b : Bool) → p a ≡ b → filter p (remove_at k l) ≡ drop 1 (filter p l)
      → filter p (remove_at (cond b 0 (suc k)) (a ∷ l)) ≡ drop 1 (cond b (a ∷ filter p l) (filter p l))
  unfolding remove_at filter
  first_step p a l k true q e = refl
  first_step p a l k false q e = rw (q) e

  -- without the first that passes, those that pass are the others
  pub filter-first : (p : A → Bool) (l : List A) → filter p (remove_at (find_index p l) l) ≡ drop 1 (filter p l)
  unfolding find_index filter remove_at
  filter-first p [] = refl
  filter-first p (a ∷ l) = first_step p a l (find_index p l) (p a) refl (filter-first p l)

  -- and those that pass a test which it fails stay
  module _ (p q : A → Bool) (apart : (a : A) → p a ≡ true → q a ≡ false) where
    others-step : (a : A) (l : List A) (k : ℕ) (b : Bool) → p a ≡ b → filter q (remove_at k l) ≡ filter q l
        → filter q (remove_at (cond b 0 (suc k)) (a ∷ l)) ≡ cond (q a) (a ∷ filter q l) (filter q l)
    unfolding remove_at filter
    others-step a l k true e f = rw (apart a e) refl
    others-step a l k false e f = ap (λ (r : List A). cond (q a) (a ∷ r) r) f

    pub filter-others : (l : List A) → filter q (remove_at (find_index p l) l) ≡ filter q l
    unfolding find_index filter remove_at
    filter-others [] = refl
    filter-others (a ∷ l) = others-step a l (find_index p l) (p a) refl (filter-others l)

  -- where every element fails the test none is kept
  pub filter_none : (p : A → Bool) (l : List A) → all_of (λ a. not (p a)) l ≡ true → filter p l ≡ []
  unfolding filter all_of
  filter_none p [] e = refl
  filter_none p (a ∷ l) e =
      let h = and_both (not (p a)) (all_of (λ a. not (p a)) l) e in rw (not-true (p a) h.0) (filter_none p l h.1)

  -- without an element the list is what stands before it and what stands behind it
  pub remove_at-without : (k : ℕ) (l : List A) → k < length l → remove_at k l ≡ without_places k (k + 1) l
  unfolding remove_at without_places
  remove_at-without k [] h = absurd (omega arith)
  remove_at-without zero (a ∷ l) h = refl
  remove_at-without (suc k) (a ∷ l) h = ap (λ (r : List A). a ∷ r) (remove_at-without k l (omega arith)) ∙ rw (add-one k, add-one (suc k)) refl

  pub remove_at-length : (k : ℕ) (l : List A) → k < length l → length (remove_at k l) ≡ length l - 1
  unfolding remove_at
  remove_at-length k [] h = absurd (omega arith)
  remove_at-length zero (a ∷ l) h = omega arith
  remove_at-length (suc k) (a ∷ l) h = omega (arith, remove_at-length k l (omega arith))

  pub remove_at-past : (k : ℕ) (l : List A) → length l ≤ k → remove_at k l ≡ l
  unfolding remove_at
  remove_at-past k [] h = refl
  remove_at-past zero (a ∷ l) h = absurd (omega arith)
  remove_at-past (suc k) (a ∷ l) h = ap (λ (r : List A). a ∷ r) (remove_at-past k l (omega arith))

  remove_at-at : (p : List A) (a : A) (l : List A) (k : ℕ) → length p ≡ k → remove_at k (p ++ a ∷ l) ≡ p ++ l
  unfolding remove_at
  remove_at-at [] a l zero e = refl
  remove_at-at [] a l (suc k) e = absurd (omega (arith, e))
  remove_at-at (b ∷ p) a l zero e = absurd (omega (arith, e))
  remove_at-at (b ∷ p) a l (suc k) e = ap (λ (r : List A). b ∷ r) (remove_at-at p a l k (omega (arith, e)))

  pub remove_at_le : (k : ℕ) (l : List A) → length (remove_at k l) ≤ length l
  unfolding remove_at
  remove_at_le k [] = zero-le
  remove_at_le zero (a ∷ l) = omega arith
  remove_at_le (suc k) (a ∷ l) = omega (arith, remove_at_le k l)

  -- where no place goes, nothing does
  pub without-none : (a : ℕ) (l : List A) → without_places a a l ≡ l
  unfolding without_places
  without-none a l = take-append-drop a l

  module _ (a b : ℕ) (l : List A) (order : a ≤ b) where
    module _ (inside : b ≤ length l) where
      front : length (take a l) ≡ a
      front = length-take-le a l (omega (arith, order, inside))

      pub length_without : length (without_places a b l) ≡ length l - (b - a)
      unfolding without_places
      length_without = length-append (take a l) (drop b l) ∙ rw (front, length-drop b l) (omega (arith, order, inside))

      -- what is added goes to the end
      pub without-append : (r : List A) → without_places a b (l ++ r) ≡ without_places a b l ++ r
      unfolding without_places
      without-append r = rw (take-append-le a l r (omega (arith, order, inside)), drop-append-le b l r inside) (sym (append_assoc (take a l) (drop b l) r))

    -- what stands at b stands at a, and if it goes too, the places up to b + 1 are gone
    module _ (inside : b < length l) (d : A) where
      here : without_places a b l ≡ take a l ++ get_or l b d ∷ drop (suc b) l
      unfolding without_places
      here = ap (λ (r : List A). take a l ++ r) (drop-cons l b d inside)

      pub get_d_without : get_or (without_places a b l) a d ≡ get_or l b d
      get_d_without = rw (here) (get_or_at (take a l) (get_or l b d) (drop (suc b) l) d a (front (omega (arith, inside))))

      pub without_more : remove_at a (without_places a b l) ≡ without_places a (b + 1) l
      unfolding without_places
      without_more =
          ap (remove_at a) here
          ∙ remove_at-at (take a l) (get_or l b d) (drop (suc b) l) a (front (omega (arith, inside)))
          ∙ rw (add-one) refl

  pub length-tabulate : (n : ℕ) (f : ℕ → A) → length (tabulate n f) ≡ n
  unfolding tabulate
  length-tabulate zero f = refl
  length-tabulate (suc n) f = ap suc (length-tabulate n (λ k. f (suc k)))

  pub get_d_tabulate : (n : ℕ) (f : ℕ → A) (k : ℕ) (d : A) → k < n → get_or (tabulate n f) k d ≡ f k
  unfolding tabulate
  get_d_tabulate zero f k d h = absurd (omega arith)
  get_d_tabulate (suc n) f zero d h = refl
  get_d_tabulate (suc n) f (suc k) d h = get_d_tabulate n (λ j. f (suc j)) k d (omega arith)

  pub take-tabulate : (n m : ℕ) (f : ℕ → A) → n ≤ m → take n (tabulate m f) ≡ tabulate n f
  unfolding tabulate
  take-tabulate zero m f h = refl
  take-tabulate (suc n) zero f h = absurd (omega arith)
  take-tabulate (suc n) (suc m) f h = ap (λ (l : List A). f 0 ∷ l) (take-tabulate n m (λ k. f (suc k)) (omega arith))

  pub tabulate-last : (n : ℕ) (f : ℕ → A) → tabulate (suc n) f ≡ tabulate n f ++ (f n ∷ [])
  unfolding tabulate
  tabulate-last zero f = refl
  tabulate-last (suc n) f = ap (λ (r : List A). f 0 ∷ r) (tabulate-last n (λ k. f (suc k)))

-- parts of the same length, one behind the other
module _ {A : Type 0} (f : ℕ → List A) (w : ℕ) (same : (k : ℕ) → length (f k) ≡ w) where
  pub length-append_up_to : (n : ℕ) → length (append_up_to n f) ≡ w * n
  unfolding append_up_to
  length-append_up_to zero = sym (mul-zero w)
  length-append_up_to (suc n) =
      omega (arith, length-append (append_up_to n f) (f (suc n)), length-append_up_to n, same (suc n), mul-suc w n)

  -- part k, whatever follows
  abbrev PartAt : ℕ → ℕ → Type 0
  PartAt n k = (r : List A) → take w (drop (w * (k - 1)) (append_up_to n f ++ r)) ≡ f k

  one_more : (n k : ℕ) → k ≤ suc n → (k ≤ n → PartAt n k) → (b : Bool) → leb k n ≡ b → PartAt (suc n) k
  unfolding append_up_to
  one_more n k h before true e r = rw (append_assoc (append_up_to n f) (f (suc n)) r) (before (leb-true k n e) (f (suc n) ++ r))
  one_more n k h before false e r =
      let last : k ≡ suc n = omega (arith, leb-false k n e) in
      let at : suc n - 1 ≡ n = omega arith in
      rw (last, at, append_assoc (append_up_to n f) (f (suc n)) r, drop_at (append_up_to n f) (f (suc n) ++ r) (w * n) (length-append_up_to n)) (take_at (f (suc n)) r w (same (suc n)))

  pub append_up_to-part : (n k : ℕ) → 1 ≤ k → k ≤ n → PartAt n k
  append_up_to-part zero k l h = absurd (omega arith)
  append_up_to-part (suc n) k l h = one_more n k h (append_up_to-part n k l) (leb k n) refl

pub append_up_to-replicate : {A : Type 0} (n k : ℕ) (a : A) → append_up_to n (λ _. replicate k a) ≡ replicate (k * n) a
unfolding append_up_to
append_up_to-replicate zero k a = rw (mul-zero) refl
append_up_to-replicate (suc n) k a =
    rw (append_up_to-replicate n k a, replicate-append-replicate (k * n) k a, mul-suc k n) refl

module _ (n : ℕ) (f g : ℕ → ℕ) where
  pub tabulate-same : ((k : ℕ) → k < n → f k ≡ g k) → tabulate n f ≡ tabulate n g
  tabulate-same h =
      let a = length-tabulate n f in
      let b = length-tabulate n g in
      ext_get_or 0 (tabulate n f) (tabulate n g) (a ∙ sym b) (λ i l. rw (get_d_tabulate n f i 0 (omega arith), get_d_tabulate n g i 0 (omega arith)) (h i (omega arith)))

  -- one element is replaced
  pub set-tabulate : (j v : ℕ) → j < n → g j ≡ v → ((k : ℕ) → k < n → (k ≡ j → ⊥) → f k ≡ g k) → set (tabulate n f) j v ≡ tabulate n g
  set-tabulate j v l e h =
      let a = length-tabulate n f in
      let b = length-tabulate n g in
      ext_get_or 0 (set (tabulate n f) j v) (tabulate n g) (length-set (tabulate n f) j v ∙ a ∙ sym b) (λ i m. element i (eqb i j) refl (omega (arith, length-set (tabulate n f) j v)))
    where
      element : (i : ℕ) (b : Bool) → eqb i j ≡ b → i < n → get_or (set (tabulate n f) j v) i 0 ≡ get_or (tabulate n g) i 0
      element i true q m =
          let a = length-tabulate n f in
          let w = eqb-true i j q in
          rw (w, get_or-set_same (tabulate n f) j v 0 (omega arith), get_d_tabulate n g j 0 l) (sym e)
      element i false q m =
          let other = eqb-false i j q in
          rw (get_or-set_other (tabulate n f) j i v 0 other, get_d_tabulate n f i 0 m, get_d_tabulate n g i 0 m) (h i m other)

-- ---- tests of every element
module _ {A : Type 0} (p : A → Bool) where
  pub all_none : all_of p [] ≡ true
  unfolding all_of
  all_none = refl

  pub all_cons : (a : A) (l : List A) → p a ≡ true → all_of p l ≡ true → all_of p (a ∷ l) ≡ true
  unfolding all_of
  all_cons a l e f = and_intro e f

  pub all_one : (a : A) → p a ≡ true → all_of p (a ∷ []) ≡ true
  all_one a e = all_cons a [] e all_none

  pub all_append : (k l : List A) → all_of p (k ++ l) ≡ all_of p k && all_of p l
  unfolding all_of
  all_append [] l = refl
  all_append (a ∷ k) l = ap (λ (b : Bool). p a && b) (all_append k l) ∙ sym (and_assoc (p a) (all_of p k) (all_of p l))

  pub all_join : (k l : List A) → all_of p k ≡ true → all_of p l ≡ true → all_of p (k ++ l) ≡ true
  all_join k l e f = all_append k l ∙ and_intro e f

  pub all_get_d : (l : List A) (k : ℕ) (d : A) → all_of p l ≡ true → k < length l → p (get_or l k d) ≡ true
  unfolding all_of
  all_get_d [] k d e h = absurd (omega arith)
  all_get_d (a ∷ l) zero d e h = (and_both (p a) (all_of p l) e).0
  all_get_d (a ∷ l) (suc k) d e h = all_get_d l k d (and_both (p a) (all_of p l) e).1 (omega arith)

  pub all_intro : (l : List A) (d : A) → ((k : ℕ) → k < length l → p (get_or l k d) ≡ true) → all_of p l ≡ true
  unfolding all_of
  all_intro [] d f = refl
  all_intro (a ∷ l) d f = and_intro (f 0 (omega arith)) (all_intro l d (λ k h. f (suc k) (omega arith)))

  pub all_take : (n : ℕ) (l : List A) → all_of p l ≡ true → all_of p (take n l) ≡ true
  unfolding all_of
  all_take zero l e = refl
  all_take (suc n) [] e = refl
  all_take (suc n) (a ∷ l) e = let h = and_both (p a) (all_of p l) e in and_intro h.0 (all_take n l h.1)

  pub all_drop : (n : ℕ) (l : List A) → all_of p l ≡ true → all_of p (drop n l) ≡ true
  unfolding all_of
  all_drop zero l e = e
  all_drop (suc n) [] e = refl
  all_drop (suc n) (a ∷ l) e = all_drop n l (and_both (p a) (all_of p l) e).1

  pub all_replicate : (n : ℕ) (a : A) → p a ≡ true → all_of p (replicate n a) ≡ true
  unfolding all_of
  all_replicate zero a e = refl
  all_replicate (suc n) a e = and_intro e (all_replicate n a e)

  pub all_map : {B : Type 0} (f : B → A) (l : List B) → all_of (λ b. p (f b)) l ≡ true → all_of p (map f l) ≡ true
  unfolding all_of
  all_map f [] e = refl
  all_map f (b ∷ l) e = let h = and_both (p (f b)) (all_of (λ b. p (f b)) l) e in and_intro h.0 (all_map f l h.1)

  pub all_filter : (q : A → Bool) (l : List A) → all_of p l ≡ true → all_of p (filter q l) ≡ true
  unfolding all_of filter
  all_filter q [] e = refl
  all_filter q (a ∷ l) e =
      let h = and_both (p a) (all_of p l) e in
      let rest = all_filter q l h.1 in
      by-test (λ (r : List A). all_of p r ≡ true) (q a) (λ _. and_intro h.0 rest) (λ _. rest)

  pub all_weaken : (q : A → Bool) → ((a : A) → p a ≡ true → q a ≡ true) → (l : List A) → all_of p l ≡ true → all_of q l ≡ true
  unfolding all_of
  all_weaken q f [] e = refl
  all_weaken q f (a ∷ l) e = let h = and_both (p a) (all_of p l) e in and_intro (f a h.0) (all_weaken q f l h.1)

  pub all_set : (l : List A) (k : ℕ) (v : A) → all_of p l ≡ true → p v ≡ true → all_of p (set l k v) ≡ true
  unfolding all_of
  all_set [] k v e f = refl
  all_set (a ∷ l) zero v e f = and_intro f (and_both (p a) (all_of p l) e).1
  all_set (a ∷ l) (suc k) v e f = let h = and_both (p a) (all_of p l) e in and_intro h.0 (all_set l k v h.1 f)

  pub all-remove_at : (k : ℕ) (l : List A) → all_of p l ≡ true → all_of p (remove_at k l) ≡ true
  unfolding all_of remove_at
  all-remove_at k [] e = refl
  all-remove_at zero (a ∷ l) e = (and_both (p a) (all_of p l) e).1
  all-remove_at (suc k) (a ∷ l) e = let h = and_both (p a) (all_of p l) e in and_intro h.0 (all-remove_at k l h.1)

and_swap : (a b c d : Bool) → (a && b) && (c && d) ≡ (a && c) && (b && d)
and_swap true true c d = refl
and_swap true false c d = sym (and-false c)
and_swap false b c d = refl

-- two tests on each element
pub all_both : {A : Type 0} (p q : A → Bool) (l : List A) → all_of (λ a. p a && q a) l ≡ all_of p l && all_of q l
unfolding all_of
all_both p q [] = refl
all_both p q (a ∷ l) = ap (λ (b : Bool). (p a && q a) && b) (all_both p q l) ∙ and_swap (p a) (q a) (all_of p l) (all_of q l)

-- zeros, and only they, pass the test for zero
pub all-zeros : (n : ℕ) → all_of (λ b. eqb b 0) (replicate n 0) ≡ true
all-zeros n = all_replicate (λ b. eqb b 0) n 0 refl

pub zeros-all : (l : List ℕ) → all_of (λ b. eqb b 0) l ≡ true → l ≡ replicate (length l) 0
unfolding all_of
zeros-all [] e = refl
zeros-all (b ∷ l) e =
    let h = and_both (eqb b 0) (all_of (λ b. eqb b 0) l) e in rw (eqb-true b 0 h.0, ← zeros-all l h.1) refl

pub zeros_get_d : (l : List ℕ) (n : ℕ) → all_of (λ b. eqb b 0) l ≡ true → get_or l n 0 ≡ 0
unfolding all_of
zeros_get_d [] n e = refl
zeros_get_d (j ∷ l) zero e = eqb-true j 0 (and_both (eqb j 0) (all_of (λ j. eqb j 0) l) e).0
zeros_get_d (j ∷ l) (suc n) e = zeros_get_d l n (and_both (eqb j 0) (all_of (λ j. eqb j 0) l) e).1

-- ---- members
pub member-append : (n : ℕ) (k l : List ℕ) → member n (k ++ l) ≡ member n k || member n l
unfolding member
member-append n [] l = refl
member-append n (a ∷ k) l = rw (member-append n k l) (sym (or_assoc (eqb a n) (member n k) (member n l)))

-- one element more
pub member-last : (n : ℕ) (l : List ℕ) (v : ℕ) → member n (l ++ (v ∷ [])) ≡ member n l || eqb v n
unfolding member
member-last n l v = member-append n l (v ∷ []) ∙ ap (λ (b : Bool). member n l || b) (or-false (eqb v n))

pub member-more : (n : ℕ) (l : List ℕ) (j : ℕ) → j < length l → member n (take (j + 1) l) ≡ member n (take j l) || eqb (get_or l j 0) n
member-more n l j h = rw (add-one, take-suc l j 0 h) (member-last n (take j l) (get_or l j 0))

member-step : (t m : Bool) (k n : ℕ) → m ≡ ltb k n → t || m ≡ ltb (cond t 0 (suc k)) (suc n)
member-step true m k n e = sym (leb-suc-suc 0 n ∙ leb-zero n)
member-step false m k n e = e ∙ sym (leb-suc-suc (suc k) n)

-- a number stands in a list where it has a place
pub member-find_index : (n : ℕ) (l : List ℕ) → member n l ≡ ltb (find_index (λ k. eqb k n) l) (length l)
unfolding member find_index
member-find_index n [] = refl
member-find_index n (k ∷ l) =
    member-step (eqb k n) (member n l) (find_index (λ j. eqb j n) l) (length l) (member-find_index n l)

-- the element at a place of a list
pub get_d_member : (l : List ℕ) (k : ℕ) → k < length l → member (get_or l k 0) l ≡ true
unfolding member
get_d_member [] k h = absurd (omega arith)
get_d_member (a ∷ l) zero h = rw (eqb_self a) refl
get_d_member (a ∷ l) (suc k) h = rw (get_d_member l k (omega arith)) (or-true (eqb a (get_or l k 0)))

-- a number that does not stand in the list is no other than what stands there
pub absent_differs : (a b : ℕ) (l : List ℕ) → member a l ≡ false → member b l ≡ true → a ≡ b → ⊥
absent_differs a b l e f q = true≢false (sym f ∙ ap (λ (n : ℕ). member n l) (sym q) ∙ e)

-- a number that fails a test that every element passes is no member
pub all-member : (p : ℕ → Bool) (n : ℕ) (l : List ℕ) → all_of p l ≡ true → p n ≡ false → member n l ≡ false
unfolding all_of member
all-member p n [] e h = refl
all-member p n (a ∷ l) e h =
    let parts = and_both (p a) (all_of p l) e in
    let other : a ≡ n → ⊥ = λ q. true≢false (sym parts.0 ∙ ap p q ∙ h) in
    rw (ne_eqb a n other) (all-member p n l parts.1 h)

pub remove_at_absent : (n k : ℕ) (l : List ℕ) → member n l ≡ false → member n (remove_at k l) ≡ false
unfolding member remove_at
remove_at_absent n k [] e = refl
remove_at_absent n zero (a ∷ l) e = (or_neither (eqb a n) (member n l) e).1
remove_at_absent n (suc k) (a ∷ l) e =
    let h = or_neither (eqb a n) (member n l) e in rw h.0 (remove_at_absent n k l h.1)

-- ---- distinct elements
distinct-step : (m d e n : Bool) → not (m || e) && (d && not n) ≡ (not m && d) && not (e || n)
distinct-step true d e n = refl
distinct-step false d true n = sym (and-false d)
distinct-step false d false n = refl

-- one element more
pub distinct-last : (l : List ℕ) (v : ℕ) → distinct (l ++ (v ∷ [])) ≡ distinct l && not (member v l)
unfolding distinct member
distinct-last [] v = refl
distinct-last (a ∷ l) v =
    rw (member-last a l v, distinct-last l v, eqb-sym v a) (distinct-step (member a l) (distinct l) (eqb a v) (member v l))

pub distinct-remove_at : (k : ℕ) (l : List ℕ) → distinct l ≡ true → distinct (remove_at k l) ≡ true
unfolding distinct remove_at
distinct-remove_at k [] e = refl
distinct-remove_at zero (a ∷ l) e = (and_both (not (member a l)) (distinct l) e).1
distinct-remove_at (suc k) (a ∷ l) e =
    let h = and_both (not (member a l)) (distinct l) e in
    rw (remove_at_absent a k l (not-true (member a l) h.0)) (distinct-remove_at k l h.1)

-- what was taken out is gone
pub removed_absent : (k : ℕ) (l : List ℕ) → distinct l ≡ true → k < length l → member (get_or l k 0) (remove_at k l) ≡ false
unfolding distinct remove_at member
removed_absent k [] e h = absurd (omega arith)
removed_absent zero (a ∷ l) e h = not-true (member a l) (and_both (not (member a l)) (distinct l) e).0
removed_absent (suc k) (a ∷ l) e h =
    let f = and_both (not (member a l)) (distinct l) e in
    let other = absent_differs a (get_or l k 0) l (not-true (member a l) f.0) (get_d_member l k (omega arith)) in
    rw (ne_eqb a (get_or l k 0) other) (removed_absent k l f.1 (omega arith))

-- what stands at one place stands at no other
pub distinct_apart : (l : List ℕ) → distinct l ≡ true → (i j : ℕ) → i < length l → j < length l → get_or l i 0 ≡ get_or l j 0 → i ≡ j
unfolding distinct
distinct_apart [] d i j h g e = absurd (omega arith)
distinct_apart (a ∷ l) d zero zero h g e = refl
distinct_apart (a ∷ l) d zero (suc j) h g e =
    absurd (absent_differs a (get_or l j 0) l (not-true (member a l) (and_both (not (member a l)) (distinct l) d).0) (get_d_member l j (omega arith)) e)
distinct_apart (a ∷ l) d (suc i) zero h g e =
    absurd (absent_differs a (get_or l i 0) l (not-true (member a l) (and_both (not (member a l)) (distinct l) d).0) (get_d_member l i (omega arith)) (sym e))
distinct_apart (a ∷ l) d (suc i) (suc j) h g e =
    ap suc (distinct_apart l (and_both (not (member a l)) (distinct l) d).1 i j (omega arith) (omega arith) e)

-- and back
pub distinct_intro : (l : List ℕ) → ((i j : ℕ) → i < j → j < length l → get_or l i 0 ≡ get_or l j 0 → ⊥) → distinct l ≡ true
unfolding distinct
distinct_intro [] f = refl
distinct_intro (a ∷ l) f =
    let others = all_intro (λ k. not (eqb k a)) l 0 (λ j h. ap not (ne_eqb (get_or l j 0) a (λ e. f 0 (suc j) (omega arith) (omega arith) (sym e)))) in
    rw (all-member (λ k. not (eqb k a)) a l others (ap not (eqb_self a))) (distinct_intro l (λ i j h g e. f (suc i) (suc j) (omega arith) (omega arith) e))

-- ---- a list whose first i elements are v
abbrev pub filled : ℕ → ℕ → List ℕ → List ℕ
filled v i l = replicate i v ++ drop i l

module _ (v i : ℕ) (l : List ℕ) where
  pub filled_more : i < length l → set (filled v i l) i v ≡ filled v (i + 1) l
  filled_more h =
      let more : replicate (i + 1) v ++ drop (i + 1) l ≡ replicate i v ++ v ∷ drop (i + 1) l =
      rw (← replicate-append-replicate i 1 v) (append_assoc (replicate i v) (v ∷ []) (drop (i + 1) l)) in
      rw (more, drop-cons l i 0 h, add-one i) (set_at (replicate i v) (get_or l i 0) (drop (suc i) l) v i (length-replicate i v))

  pub filled-length : i ≤ length l → length (filled v i l) ≡ length l
  filled-length h = simp (length-append, length-replicate, length-drop) (omega arith)

  pub filled-all : length l ≤ i → filled v i l ≡ replicate i v
  filled-all h = rw (drop_of_length-le l h) (append-nil (replicate i v))

-- ---- every number below a bound
pub below_more : (n : ℕ) (f : ℕ → Bool) → every_below (n + 1) f ≡ every_below n f && f n
unfolding every_below
below_more n f = rw (add-one) refl

below-first : (n : ℕ) (f : ℕ → Bool) → every_below (suc n) f ≡ f 0 && every_below n (λ k. f (suc k))
unfolding every_below
below-first zero f = sym (and-true (f 0))
below-first (suc n) f =
    ap (λ (t : Bool). t && f (suc n)) (below-first n f) ∙ and_assoc (f 0) (every_below n (λ k. f (suc k))) (f (suc n))

pub below_cong : (n : ℕ) (f g : ℕ → Bool) → ((k : ℕ) → k < n → f k ≡ g k) → every_below n f ≡ every_below n g
unfolding every_below
below_cong zero f g h = refl
below_cong (suc n) f g h = rw (below_cong n f g (λ k l. h k (omega arith)), h n (omega arith)) refl

-- a test that follows from another
pub below_weaken : (n : ℕ) (f g : ℕ → Bool) → ((k : ℕ) → f k ≡ true → g k ≡ true) → every_below n f ≡ true → every_below n g ≡ true
unfolding every_below
below_weaken zero f g h e = refl
below_weaken (suc n) f g h e = let p = and_both (every_below n f) (f n) e in and_intro (below_weaken n f g h p.0) (h n p.1)

-- the numbers below a + b
pub below_add : (a b : ℕ) (f : ℕ → Bool) → every_below (a + b) f ≡ every_below a f && every_below b (λ k. f (a + k))
unfolding every_below
below_add a zero f = rw (add-zero) (sym (and-true (every_below a f)))
below_add a (suc b) f =
    let e : a + suc b ≡ suc (a + b) = omega arith in
    rw (e) (ap (λ (q : Bool). q && f (a + b)) (below_add a b f) ∙ and_assoc (every_below a f) (every_below b (λ k. f (a + k))) (f (a + b)))

-- a failure stays one
pub below_fails : (n m : ℕ) (f : ℕ → Bool) → n ≤ m → every_below n f ≡ false → every_below m f ≡ false
below_fails n m f h e = let s : m ≡ n + (m - n) = omega arith in rw (s, below_add n (m - n) f, e) refl

-- one number at which the test fails
pub below_false : (n k : ℕ) (f : ℕ → Bool) → k < n → f k ≡ false → every_below n f ≡ false
below_false n k f h e = below_fails (k + 1) n f (omega arith) (rw (below_more k f, e) (and-false (every_below k f)))

regroup : (q a b c : Bool) → ((q && a) && b) && c ≡ q && ((a && b) && c)
regroup true a b c = refl
regroup false a b c = refl

-- three numbers at a time
pub below-three : (n : ℕ) (f : ℕ → Bool) → every_below (3 * n) f ≡ every_below n (λ j. f (3 * j) && f (3 * j + 1) && f (3 * j + 2))
unfolding every_below
below-three zero f = refl
below-three (suc n) f =
    let e : 3 * suc n ≡ suc (suc (suc (3 * n))) = omega arith in
    let a : suc (3 * n) ≡ 3 * n + 1 = omega arith in
    let b : suc (suc (3 * n)) ≡ 3 * n + 2 = omega arith in
    ap (λ (q : ℕ). every_below q f) e
    ∙ ap (λ (q : ℕ). every_below (3 * n) f && f (3 * n) && f q && f (suc (suc (3 * n)))) a
    ∙ ap (λ (q : ℕ). every_below (3 * n) f && f (3 * n) && f (3 * n + 1) && f q) b
    ∙ ap (λ (q : Bool). q && f (3 * n) && f (3 * n + 1) && f (3 * n + 2)) (below-three n f)
    ∙ regroup (every_below n (λ j. f (3 * j) && f (3 * j + 1) && f (3 * j + 2))) (f (3 * n)) (f (3 * n + 1)) (f (3 * n + 2))

module _ {A : Type 0} where
  -- a test of f 0, f 1 and so on
  pub all-tabulate : (p : A → Bool) (n : ℕ) (f : ℕ → A) → all_of p (tabulate n f) ≡ every_below n (λ k. p (f k))
  unfolding all_of tabulate every_below
  all-tabulate p zero f = refl
  all-tabulate p (suc n) f =
      ap (λ (t : Bool). p (f 0) && t) (all-tabulate p n (λ k. f (suc k))) ∙ sym (below-first n (λ k. p (f k)))

  -- the first that passes: those before it do not
  pub find_index-tabulate : (p : A → Bool) (n r : ℕ) (f : ℕ → A) → r ≤ n → every_below r (λ k. not (p (f k))) ≡ true → (r < n → p (f r) ≡ true)
      → find_index p (tabulate n f) ≡ r
  unfolding find_index tabulate
  find_index-tabulate p zero r f h e g = omega arith
  find_index-tabulate p (suc n) zero f h e g = rw (g (omega arith)) refl
  find_index-tabulate p (suc n) (suc r) f h e g =
      let parts = and_both (not (p (f 0))) (every_below r (λ k. not (p (f (suc k))))) (sym (below-first r (λ k. not (p (f k)))) ∙ e) in
      rw (not-true (p (f 0)) parts.0) (ap suc (find_index-tabulate p n r (λ k. f (suc k)) (omega arith) parts.1 (λ l. g (omega arith))))
