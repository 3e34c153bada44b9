-- A capacity with which no delivery is refused for want of room where sessions call at an empty mailbox only, with S sessions and M items.
use Rattle.std.specs.Prelude.{◌*◌, ◌+◌, ℕ}

unfoldable pub capacity_bound : ℕ → ℕ → ℕ
capacity_bound S M = 6 * S + M + 1
