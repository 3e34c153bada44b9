-- Who is senior: the session with the lower rank. Nothing else knows how this is decided; the rules take it as a parameter. RULES is docs/RULES.md.
use Rattle.std.specs.Prelude.{ℕ, suc, ◌-◌, Bool, cond, ◌&&◌, List, ltb, length, get_or}
use Rattle.lists.specs.Lists.{between, all_of, distinct, tabulate}

-- the rank of session t, in a list that has one for each session; a number that is no session's is its own rank
unfoldable pub rank : List ℕ → ℕ → ℕ
rank ranks t = cond (between 1 (length ranks) t) (get_or ranks (t - 1) 0) t

-- session a is senior to session b: RULES 1.3
unfoldable pub senior : List ℕ → ℕ → ℕ → Bool
senior ranks a b = ltb (rank ranks a) (rank ranks b)

-- ranks are well-formed: the numbers from 1 to how many there are, none twice (so that none is missing): RULES 2.8
unfoldable pub well_formed : List ℕ → Bool
well_formed ranks = all_of (between 1 (length ranks)) ranks && distinct ranks

-- rank k for session k, of S sessions
unfoldable pub plain : ℕ → List ℕ
plain S = tabulate S suc
