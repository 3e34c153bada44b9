-- Rules that meet the laws: the lower-numbered session is senior, and the most senior session of the queue is the next holder.
use Rattle.std.specs.Prelude.{ℕ, ◌∷◌, ltb, get_or}
use Rattle.session.specs.MostSenior.{most_senior}
use Rattle.deadlock.specs.Machine.{Rules}

-- with S sessions and M items
abbrev pub senior_first : ℕ → ℕ → Rules
senior_first S M = record { S = S; M = M; senior = ltb; next = λ x xs. get_or (x ∷ xs) (most_senior ltb (x ∷ xs)) 0 }
