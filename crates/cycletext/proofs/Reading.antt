-- The text of a cycle, read back, is the cycle.
use mathlib.Core.Path.{◌≡◌, refl, sym, ap, ◌∙◌}
use mathlib.Core.List.{List, [], ◌∷◌, ◌++◌, append_assoc}
use mathlib.Core.Logic.{◌≢◌}
use Prim.Native.Nat.{ℕ}
use Rattle.text.specs.Text.{ascii}
use Rattle.text.specs.Reading.{numbers}
use Rattle.text.proofs.Reading.{numbers-other, numbers-decimal}
use Rattle.waits.specs.declared.Wait.{Wait}
use Rattle.waits.specs.OnTable.{cycle}
use Rattle.cycletext.specs.Text.{line, lines}
use Rattle.cycletext.specs.Reading.{in_threes, read_back}
use Rattle.cycletext.specs.OnTable.{text}

-- the numbers of a line are its three
numbers-line : (w : Wait) (l : List ℕ) → numbers (line w ++ l) ≡ w.session ∷ w.item ∷ w.holder ∷ numbers l
unfolding line ascii
numbers-line w l = simp (append_assoc, numbers-other, numbers-decimal)

pub reads_lines : (l : List Wait) → read_back (lines l) ≡ l
unfolding lines in_threes numbers
reads_lines [] = refl
reads_lines (w ∷ l) = rw (numbers-line w (lines l)) (ap (λ (k : List Wait). w ∷ k) (reads_lines l))

pub reads_back : (table : List ℕ) (t : ℕ) → read_back (text table t) ≡ cycle table t
reads_back table t = reads_lines (cycle table t)

-- one text is read back as one cycle
pub differ : (table other : List ℕ) (t u : ℕ) → cycle table t ≢ cycle other u → text table t ≢ text other u
differ table other t u d e = d (sym (reads_back table t) ∙ ap read_back e ∙ reads_back other u)
