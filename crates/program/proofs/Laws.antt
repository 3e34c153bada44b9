-- Laws of what a program prints and reads.
use mathlib.Core.Path.{◌≡◌, refl, sym, ap, ◌∙◌}
use mathlib.Core.List.{List}
use mathlib.Core.Bool.{Bool, true, false}
use Prim.Native.Nat.{ℕ, ◌+◌, ◌≤◌, ◌<◌, zero-le}
use native.Mathlib.Omega.{arith}
use borrow.Author.Tests.{leb-true, leb-false, le-leb, lt-leb}
use lib.Dec.{leb}
use lib.ListN.{length, take}
use lib.Seq.{length-take-le, take_all}
use Rattle.buffer.specs.Bytes.{splice}
use Rattle.buffer.proofs.Laws.{length-splice}
use Rattle.std.specs.Counts.{IsPrefixLen}
use Rattle.program.specs.Program.{output, at_start, DecidedBy}

counts : (n : ℕ) (l : List ℕ) → n ≤ length l → IsPrefixLen n l
counts n l h = (h, sym (length-take-le n l h))

module _ (longest : ℕ) (text buffer : List ℕ) where
  pub at-start_short : length buffer < longest → (output 0 buffer ≡ at_start longest text buffer) × IsPrefixLen 0 buffer
  unfolding at_start
  at-start_short h = (rw (lt-leb longest (length buffer) h) refl, counts 0 buffer zero-le)

  pub at-start-long : longest ≤ length buffer → length text ≤ longest → {b : List ℕ} {n : ℕ} → b ≡ splice buffer 0 text → n ≡ length text
      → (output n b ≡ at_start longest text buffer) × IsPrefixLen n b
  unfolding at_start
  at-start-long h k {b} {n} e f =
      let same = ap length e ∙ length-splice buffer 0 text (omega arith) in
      (rw (le-leb longest (length buffer) h, e, f) refl, counts n b (omega arith))

-- where every input longer than that is refused alike, one byte more is enough
pub refused-longer : (longest : ℕ) (program : List ℕ → List ℕ) (refused : List ℕ) → ((l : List ℕ) → longest < length l → program l ≡ refused)
    → DecidedBy (longest + 1) program
refused-longer longest program refused h input = at (leb (length input) longest) refl
  where
    at : (b : Bool) → leb (length input) longest ≡ b → program (take (longest + 1) input) ≡ program input
    at true e = ap program (take_all (longest + 1) input (omega (arith, leb-true (length input) longest e)))
    at false e =
        let long = leb-false (length input) longest e in
        let cut = length-take-le (longest + 1) input (omega arith) in
        h (take (longest + 1) input) (omega arith) ∙ sym (h input (omega arith))
