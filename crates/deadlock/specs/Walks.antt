-- Walks along the edges of a graph.
use Rattle.std.specs.Prelude.{[], ◌∷◌, List, ℕ}

module _ (E : ℕ → ℕ → Type 0) (a : ℕ) where
  -- from a, by any number of edges
  pub data Walk : ℕ → Type 0 where
    rest : Walk a
    onward : {u t : ℕ} → Walk u → E u t → Walk t

  -- the same, with the places that are left on the way, the last first
  pub data Path : ℕ → List ℕ → Type 0 where
    rest_path : Path a []
    onward_path : {u t : ℕ} {ps : List ℕ} → Path u ps → E u t → Path t (u ∷ ps)

-- one edge or more, with the last one apart
pub record LastApart (E : ℕ → ℕ → Type 0) (a t : ℕ) : Type 0 where
  pub from : ℕ
  pub walk : Walk E a from
  pub last : E from t

-- one edge or more, with the first one apart; a cycle where a is t
pub record FirstApart (E : ℕ → ℕ → Type 0) (a t : ℕ) : Type 0 where
  pub next : ℕ
  pub out : E a next
  pub walk : Walk E next t
