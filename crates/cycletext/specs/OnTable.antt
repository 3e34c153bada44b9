-- The texts of a table's cycles, and what a call that writes one answers and leaves. RULES is docs/RULES.md.
use Rattle.std.specs.Prelude.{ℕ, Bool, cond, List, [], ◌∷◌, eqb, ltb, length}
use Rattle.buffer.specs.Bytes.{splice}
use Rattle.table.specs.Layout.{senior}
use Rattle.waits.specs.OnTable.{cycle_length, cycle_by}
use Rattle.refusal.specs.Refusal
use Rattle.refusal.specs.Refusal.{Cause, cause}
use Rattle.cycletext.specs.declared.Text.{Text}
use Rattle.cycletext.specs.Text.{lines}

-- the text of the cycle on which t lies; by a seniority, and by that of the table
abbrev pub text_by : (ℕ → ℕ → Bool) → List ℕ → ℕ → List ℕ
text_by senior table t = lines (cycle_by senior table t)

abbrev pub text : List ℕ → ℕ → List ℕ
text table t = text_by (senior table) table t

-- what is judged once the table and the session are: RULES 8.10 and 8.11
abbrev pub text_causes_by : (ℕ → ℕ → Bool) → ℕ → List ℕ → List ℕ → List Cause
text_causes_by senior t table buffer =
    cause (eqb (cycle_length table t) 0) Refusal.no_cycle
    ∷ cause (ltb (length buffer) (length (text_by senior table t))) Refusal.short_buffer
    ∷ []

abbrev pub text_causes : ℕ → List ℕ → List ℕ → List Cause
text_causes t table buffer = text_causes_by (senior table) t table buffer

-- what is answered, and the buffer after
pub record Described : Type 0 where
  pub answer : Text
  pub buffer : List ℕ

abbrev pub described : Text → List ℕ → Described
described a buffer = record { answer = a; buffer = buffer }

abbrev pub text_answer : ℕ → ℕ → Text
text_answer refusal n = record { refusal = refusal; length = n }

-- the text at the start of the buffer, and its length; where it is refused, the buffer as it was: RULES 4.11
abbrev pub unless_refused : ℕ → List ℕ → List ℕ → Described
unless_refused refusal l buffer =
    cond (eqb refusal 0) (described (text_answer 0 (length l)) (splice buffer 0 l)) (described (text_answer refusal 0) buffer)
