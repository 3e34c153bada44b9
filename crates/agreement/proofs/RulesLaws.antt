-- Where seniority is a strict total order and the most senior of a queue is the next holder, the machine's theorem holds of the lock manager's rules.
use mathlib.Core.Bool.{Bool}
use mathlib.Core.List.{◌∷◌}
use Prim.Native.Nat.{ℕ}
use native.Mathlib.Omega.{arith}
use Rattle.lists.proofs.Laws.{get_d_member}
use Rattle.lists.proofs.Orders.{StrictTotal, weak}
use Rattle.item.specs.NextHolder.{next_holder}
use Rattle.item.proofs.NextHolder.{next-inside}
use Rattle.deadlock.specs.Machine
use Rattle.agreement.specs.Reading.{rules}

pub rules_laws : {senior : ℕ → ℕ → Bool} → StrictTotal senior → (S M : ℕ) → Machine.Laws (rules S M senior (next_holder senior))
rules_laws {senior} order S M = record {
  irreflexive = order.irreflexive;
  transitive = order.transitive;
  total = order.total;
  next-member = λ x xs. get_d_member (x ∷ xs) (next_holder senior (x ∷ xs)) (next-inside (weak order) (x ∷ xs) (omega arith));
}
