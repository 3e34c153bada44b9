-- Laws of lines, and of the first of several.
use mathlib.Core.Path.{◌≡◌, refl, sym, ap, ◌∙◌}
use mathlib.Core.List.{List, [], ◌∷◌, ◌++◌, append_assoc, append-nil}
use Prim.Native.Nat.{ℕ, ◌+◌, ◌≤◌, ◌<◌}
use native.Mathlib.Omega.{arith}
use lib.ListN.{length, length-append}
use Rattle.text.specs.Text.{ascii, decimal}
use Rattle.text.proofs.Laws.{length-decimal}
use Rattle.waits.specs.declared.Wait.{Wait}
use Rattle.cycletext.specs.Text.{line, lines}

-- how many digits a number has
abbrev pub digits_of : ℕ → ℕ
digits_of n = length (decimal n)

-- a byte has at most three
pub short_digits : (n : ℕ) → n < 256 → digits_of n ≤ 3
short_digits n h = length-decimal 2 n (omega (arith, h))

-- the words of a line, and its three numbers
pub length_line : (w : Wait) → length (line w) ≡ 42 + digits_of w.session + digits_of w.item + digits_of w.holder
unfolding line ascii
length_line w = simp (length-append) (omega arith)

pub lines-append : (k l : List Wait) → lines (k ++ l) ≡ lines k ++ lines l
unfolding lines
lines-append [] l = refl
lines-append (w ∷ k) l = ap (λ (s : List ℕ). line w ++ s) (lines-append k l) ∙ sym (append_assoc (line w) (lines k) (lines l))

-- one line more
pub lines_more : (l : List Wait) (w : Wait) → lines (l ++ (w ∷ [])) ≡ lines l ++ line w
unfolding lines
lines_more l w = lines-append l (w ∷ []) ∙ ap (λ (s : List ℕ). lines l ++ s) (append-nil (line w))

pub length_more : (l : List Wait) (w : Wait) → length (lines (l ++ (w ∷ []))) ≡ length (lines l) + length (line w)
length_more l w = ap length (lines_more l w) ∙ length-append (lines l) (line w)

-- one line less
pub length_less : {l k : List Wait} {w : Wait} → l ≡ w ∷ k → length (lines l) ≡ length (line w) + length (lines k)
unfolding lines
length_less {l} {k} {w} e = ap (λ (m : List Wait). length (lines m)) e ∙ length-append (line w) (lines k)

pub no_lines : {l : List Wait} → l ≡ [] → length (lines l) ≡ 0
unfolding lines
no_lines e = rw (e) refl
