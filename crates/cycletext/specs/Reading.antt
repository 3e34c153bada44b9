-- The text of a cycle, read back: each three numbers in it are a session, its item and the holder. The words are not looked at.
use Rattle.std.specs.Prelude.{ℕ, List, [], ◌∷◌}
use Rattle.text.specs.Reading.{numbers}
use Rattle.waits.specs.declared.Wait.{Wait}

-- one or two numbers that are left over are no wait
unfoldable pub in_threes : List ℕ → List Wait
in_threes [] = []
in_threes (t ∷ []) = []
in_threes (t ∷ x ∷ []) = []
in_threes (t ∷ x ∷ h ∷ l) = record { session = t; item = x; holder = h } ∷ in_threes l

abbrev pub read_back : List ℕ → List Wait
read_back text = in_threes (numbers text)
