-- The places of the sessions as the code keeps them.
use Rattle.std.specs.Prelude.{ℕ, suc, ◌≡◌, List}
use Rattle.lists.specs.Lists.{tabulate}
use Rattle.message.specs.Limits.{max_sessions}
use Rattle.table.specs.Layout.{items_of, Formed}
use Rattle.waits.specs.Waits
use Rattle.waits.specs.OnTable.{locks}

-- for each session the item at which it waits, or 0, where the first n items alone count
abbrev pub places_among : ℕ → List ℕ → List ℕ
places_among n table = tabulate max_sessions (λ k. Waits.waits_at n (locks table) (suc k))

-- where all items count
abbrev pub places : List ℕ → List ℕ
places table = places_among (items_of table) table

-- what a graph of waits keeps of its table, and of the places read from it
pub record WithPlaces (table at : List ℕ) : Type 0 where
  pub formed : Formed table
  pub read : at ≡ places table
