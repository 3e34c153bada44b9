-- What the code that goes through the days asks.
use Rattle.std.specs.Prelude.{ℕ, ◌≤◌, ◌≡◌, List, length}
use Rattle.yearly.specs.Input.{days_in, max_days, size}

-- an input of n days
pub record Days (input : List ℕ) (n : ℕ) : Type 0 where
  pub count : n ≡ days_in input
  pub some : 1 ≤ n
  pub few : n ≤ max_days
  pub whole : length input ≡ size n

-- no value of 2 bytes is greater
abbrev pub max_value : ℕ
max_value = 65535
