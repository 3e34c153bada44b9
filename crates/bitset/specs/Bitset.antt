-- A 64-bit mask as a set of the numbers 1 to 64: bit k − 1 is k.
use Rattle.std.specs.Prelude.{ℕ, zero, suc, ◌+◌, ◌-◌, ◌/◌, ◌%◌, ◌^◌, Bool, cond, List, [], ◌∷◌, eqb}

-- k is in the mask
unfoldable pub has : ℕ → ℕ → Bool
has k mask = eqb (mask / 2 ^ (k - 1) % 2) 1

-- the mask of k alone, empty where k is 0
unfoldable pub single : ℕ → ℕ
single k = cond (eqb k 0) 0 (2 ^ (k - 1))

-- the mask of 1 to m
abbrev pub full : ℕ → ℕ
full m = 2 ^ m - 1

-- the mask with k in it
unfoldable pub insert : ℕ → ℕ → ℕ
insert k mask = cond (has k mask) mask (mask + 2 ^ (k - 1))

-- the mask without k
unfoldable pub remove : ℕ → ℕ → ℕ
remove k mask = cond (has k mask) (mask - 2 ^ (k - 1)) mask

-- k in front of l where the digit is set
abbrev pub with_bit : ℕ → ℕ → List ℕ → List ℕ
with_bit zero k l = l
with_bit (suc d) k l = k ∷ l

-- the numbers of the set bits, rising, of the d lowest bits of a mask whose lowest bit is k
unfoldable pub bits_from : ℕ → ℕ → ℕ → List ℕ
bits_from zero k mask = []
bits_from (suc d) k mask = with_bit (mask % 2) k (bits_from d (suc k) (mask / 2))

-- the members of a mask, rising
abbrev pub members : ℕ → List ℕ
members mask = bits_from 64 1 mask
