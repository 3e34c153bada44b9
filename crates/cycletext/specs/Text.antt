-- The text of a cycle: a line for each member. RULES is docs/RULES.md.
use Rattle.std.specs.Prelude.{ℕ, List, [], ◌∷◌, ◌++◌}
use Rattle.text.specs.Text.{ascii, decimal, line_feed}
use Rattle.waits.specs.declared.Wait.{Wait}

-- RULES 7.8
unfoldable pub line : Wait → List ℕ
line w =
    ascii "session " ++ decimal w.session ++ ascii " waits for item " ++ decimal w.item ++ ascii " held by session "
    ++ decimal w.holder ++ (line_feed ∷ [])

unfoldable pub lines : List Wait → List ℕ
lines [] = []
lines (w ∷ l) = line w ++ lines l
