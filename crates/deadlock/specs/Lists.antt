-- Functions with one value changed, and lists of numbers: what the machine is made of.
use Rattle.std.specs.Prelude.{Bool, cond, false, true, [], ◌++◌, ◌∷◌, List, ◌+◌, suc, zero, ℕ, eqb}

-- a test as a number, so that linear arithmetic speaks of it
abbrev pub bit : Bool → ℕ
bit true = 1
bit false = 0

-- the function f, but v at k
unfoldable pub updated : {A : Type 0} → (ℕ → A) → ℕ → A → ℕ → A
updated f k v j = cond (eqb k j) v (f j)

-- how often a number stands in the list
unfoldable pub occurs : ℕ → List ℕ → ℕ
occurs a [] = 0
occurs a (b ∷ l) = bit (eqb b a) + occurs a l

-- the list less the first occurrence of a number
unfoldable pub without : ℕ → List ℕ → List ℕ
without a [] = []
without a (b ∷ l) = cond (eqb b a) l (b ∷ without a l)

-- 1 to n, rising
unfoldable pub one_to : ℕ → List ℕ
one_to zero = []
one_to (suc n) = one_to n ++ suc n ∷ []
