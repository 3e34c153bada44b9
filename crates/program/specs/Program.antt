-- What the programs have in common: a text that is printed into a lent buffer, and how much of an input has to be read.
use Rattle.std.specs.Prelude.{ℕ, ◌≡◌, cond, List, leb, length, take}
use Rattle.buffer.specs.Bytes.{splice}

-- what is answered, and the buffer after
pub record Output : Type 0 where
  pub answer : ℕ
  pub buffer : List ℕ

abbrev pub output : ℕ → List ℕ → Output
output answer buffer = record { answer = answer; buffer = buffer }

-- the text at the start of the buffer, and its length; a buffer with no room for the longest text stays as it was, and the answer is 0
unfoldable pub at_start : ℕ → List ℕ → List ℕ → Output
at_start longest text buffer =
    cond (leb longest (length buffer)) (output (length text) (splice buffer 0 text)) (output 0 buffer)

-- the first n bytes of an input decide what is printed: no more need be read
abbrev pub DecidedBy : ℕ → (List ℕ → List ℕ) → Type 0
DecidedBy n printed = (input : List ℕ) → printed (take n input) ≡ printed input
