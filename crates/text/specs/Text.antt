-- Words and numbers as text, in ASCII.
use Rattle.std.specs.Prelude.{ℕ, zero, suc, ◌+◌, ◌/◌, ◌%◌, cond, List, [], ◌∷◌, ◌++◌, ltb}
use Prim.Native.Char.{code}
use Prim.Native.String.{String, [] as noCharacters, ◌∷◌ as ◌then◌}

-- the codes of the characters of words
unfoldable pub ascii : String → List ℕ
ascii noCharacters = []
ascii (c then s) = code c ∷ ascii s

-- 0 to 9
abbrev pub digit : ℕ → ℕ
digit d = 48 + d

abbrev pub space : ℕ
space = 32

abbrev pub line_feed : ℕ
line_feed = 10

-- the digits of n, the most significant first, where there are at most k
unfoldable pub digits : ℕ → ℕ → List ℕ
digits zero n = []
digits (suc k) n = cond (ltb n 10) (digit n ∷ []) (digits k (n / 10) ++ (digit (n % 10) ∷ []))

-- n in decimal, which never has more than suc n digits
unfoldable pub decimal : ℕ → List ℕ
decimal n = digits (suc n) n

-- a space before each number
unfoldable pub spaced : List ℕ → List ℕ
spaced [] = []
spaced (n ∷ l) = space ∷ (decimal n ++ spaced l)

-- the rest of a line: numbers, single spaces between, and the line feed
abbrev pub rest : List ℕ → List ℕ
rest l = spaced l ++ (line_feed ∷ [])

-- a line of numbers: single spaces between, and the line feed
abbrev pub line : ℕ → List ℕ → List ℕ
line n l = decimal n ++ rest l
