-- Who holds an item next when it is released: the most senior session of its queue, by any seniority. The rules do not know how this is decided: they take it as a parameter.
use Rattle.std.specs.Prelude.{ℕ, Bool, List}
use Rattle.session.specs.MostSenior.{most_senior}

-- the place of the next holder in a queue that is not empty, the rule by which N is chosen: RULES 5.2
unfoldable pub next_holder : (ℕ → ℕ → Bool) → List ℕ → ℕ
next_holder = most_senior
