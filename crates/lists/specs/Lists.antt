-- Tests on numbers and lists, and what the other definitions do with lists.
use Rattle.std.specs.Prelude.{ℕ, zero, suc, ◌+◌, Bool, true, false, cond, not, ◌&&◌, ◌||◌, List, [], ◌∷◌, ◌++◌, eqb, leb, take, drop}

-- low ≤ n ≤ high
abbrev pub between : ℕ → ℕ → ℕ → Bool
between low high n = leb low n && leb n high

-- each number from 1 to n passes the test
unfoldable pub every : ℕ → (ℕ → Bool) → Bool
every zero p = true
every (suc n) p = every n p && p (suc n)

-- each number below n passes the test
unfoldable pub every_below : ℕ → (ℕ → Bool) → Bool
every_below zero p = true
every_below (suc n) p = every_below n p && p n

-- the lowest number from 1 to n that passes the test, or 0
unfoldable pub lowest : ℕ → (ℕ → Bool) → ℕ
lowest zero p = 0
lowest (suc n) p = let k = lowest n p in cond (eqb k 0) (cond (p (suc n)) (suc n) 0) k

-- how many numbers from 1 to n pass the test
unfoldable pub count_up_to : ℕ → (ℕ → Bool) → ℕ
count_up_to zero p = 0
count_up_to (suc n) p = cond (p (suc n)) (suc (count_up_to n p)) (count_up_to n p)

-- f 1 + .. + f n
unfoldable pub sum_up_to : ℕ → (ℕ → ℕ) → ℕ
sum_up_to zero f = 0
sum_up_to (suc k) f = f (suc k) + sum_up_to k f

-- the number stands in the list
unfoldable pub member : ℕ → List ℕ → Bool
member n [] = false
member n (k ∷ l) = eqb k n || member n l

-- no number stands in the list twice
unfoldable pub distinct : List ℕ → Bool
distinct [] = true
distinct (k ∷ l) = not (member k l) && distinct l

module _ {A : Type 0} where
  -- every element passes the test
  unfoldable pub all_of : (A → Bool) → List A → Bool
  all_of p [] = true
  all_of p (a ∷ l) = p a && all_of p l

  -- the elements that pass the test, in order
  unfoldable pub filter : (A → Bool) → List A → List A
  filter p [] = []
  filter p (a ∷ l) = cond (p a) (a ∷ filter p l) (filter p l)

  -- the place, from 0, of the first element that passes the test, or the length
  unfoldable pub find_index : (A → Bool) → List A → ℕ
  find_index p [] = 0
  find_index p (a ∷ l) = cond (p a) 0 (suc (find_index p l))

  -- the list without the element at a place; past the end nothing goes
  unfoldable pub remove_at : ℕ → List A → List A
  remove_at k [] = []
  remove_at zero (a ∷ l) = l
  remove_at (suc k) (a ∷ l) = a ∷ remove_at k l

  -- the list without its places from a on and before b, a ≤ b
  unfoldable pub without_places : ℕ → ℕ → List A → List A
  without_places a b l = take a l ++ drop b l

  -- f 0, f 1 and so on, n elements
  unfoldable pub tabulate : ℕ → (ℕ → A) → List A
  tabulate zero f = []
  tabulate (suc n) f = f 0 ∷ tabulate n (λ k. f (suc k))

  -- f 1, .., f n, one behind the other
  unfoldable pub append_up_to : ℕ → (ℕ → List A) → List A
  append_up_to zero f = []
  append_up_to (suc n) f = append_up_to n f ++ f (suc n)
