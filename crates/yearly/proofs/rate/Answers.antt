-- `rate` meets its contract: each answer is the exact rate rounded half to even, and so is the definition; only one number is.
use mathlib.Core.Path.{◌≡◌}
use Prim.Native.Nat.{ℕ, ◌*◌, ◌%◌, ◌≤◌, ◌<◌}
use Rattle.std.proofs.Common.{rules}
use Rattle.yearly.specs.Input.{max_days}
use Rattle.yearly.specs.Rate.{rate}
use Rattle.yearly.specs.Parts.{max_value}
use Rattle.yearly.specs.Claims.{HalfEven}
use Rattle.yearly.proofs.Rounding.{below_half, above_half, at-half, rounded, one-rounded}
use Rattle.yearly.proofs.rate.Goals as goal

-- of numbers that the function is called with
module _ {rollbacks sessions : ℕ} (h : (1 ≤ sessions) × (rollbacks ≤ sessions) × (sessions ≤ max_days * max_value)) where
  is-rate : (k : ℕ) → HalfEven (1000 * rollbacks) sessions k → k ≡ rate rollbacks sessions
  is-rate k e = one-rounded (1000 * rollbacks) sessions k (rate rollbacks sessions) h.0 e (rounded rollbacks sessions h.0)

pub returns-in-Less : goal.returns-in-Less
returns-in-Less c =
    let a = c.args in
    let below : 2 * (1000 * a.rollbacks % a.sessions) < a.sessions = search rules in
    is-rate c.requires _ (below_half (1000 * a.rollbacks) a.sessions c.requires.0 below)

pub returns-in-Equal : goal.returns-in-Equal
returns-in-Equal c =
    let a = c.args in
    let half : 2 * (1000 * a.rollbacks % a.sessions) ≡ a.sessions = search rules in
    is-rate c.requires _ (at-half (1000 * a.rollbacks) a.sessions c.requires.0 half)

pub returns-in-Greater : goal.returns-in-Greater
returns-in-Greater c =
    let a = c.args in
    let above : a.sessions < 2 * (1000 * a.rollbacks % a.sessions) = search rules in
    is-rate c.requires _ (above_half (1000 * a.rollbacks) a.sessions c.requires.0 above)
