-- What is answered of a text that may be refused: its length, or the number of the refusal.
use Rattle.std.specs.Prelude.{ℕ, Result, Ok, Err}
use Rattle.refusal.specs.declared.Refusal.{Refusal}
use Rattle.refusal.specs.Number.{number}
use Rattle.cycletext.specs.declared.Text.{Text}
use Rattle.cycletext.specs.OnTable.{text_answer}

abbrev pub told : Result ℕ Refusal → Text
told (Ok n) = text_answer 0 n
told (Err e) = text_answer (number e) 0
