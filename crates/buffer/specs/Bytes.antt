-- Little-endian numbers and runs of bytes in a buffer.
use Rattle.std.specs.Prelude.{ℕ, zero, suc, ◌+◌, ◌-◌, ◌*◌, ◌/◌, ◌%◌, List, [], ◌∷◌, ◌++◌, length, take, drop, replicate}

-- n bytes of t from `at` on
abbrev pub slice : List ℕ → ℕ → ℕ → List ℕ
slice t at n = take n (drop at t)

-- t with l written over what stands from `at` on
unfoldable pub splice : List ℕ → ℕ → List ℕ → List ℕ
splice t at l = take at t ++ (l ++ drop (at + length l) t)

-- the number whose bytes, lowest first, are l
abbrev pub from_bytes : List ℕ → ℕ
from_bytes [] = 0
from_bytes (b ∷ l) = b + 256 * from_bytes l

-- the k lowest bytes of n, lowest first
abbrev pub to_bytes : ℕ → ℕ → List ℕ
to_bytes zero n = []
to_bytes (suc k) n = n % 256 ∷ to_bytes k (n / 256)

-- l, then zeros, n elements in all
abbrev pub padded : ℕ → List ℕ → List ℕ
padded n l = l ++ replicate (n - length l) 0
