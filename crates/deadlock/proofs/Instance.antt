-- The theorem holds of the rules of module Instance, since they meet the laws.
use mathlib.Core.Bool.{Bool}
use mathlib.Core.List.{◌∷◌}
use Prim.Native.Nat.{ℕ}
use native.Mathlib.Omega.{arith}
use lib.Dec.{ltb}
use Rattle.lists.proofs.Laws.{get_d_member}
use Rattle.lists.proofs.Orders.{less, weak}
use Rattle.session.specs.MostSenior.{most_senior}
use Rattle.session.proofs.MostSenior.{most-senior-inside}
use Rattle.deadlock.specs.Machine.{Call, Laws, State}
use Rattle.deadlock.specs.Statement.{Guarantees}
use Rattle.deadlock.specs.Instance.{senior_first}
use Rattle.deadlock.proofs.Theorem.{theorem}

module _ (S M : ℕ) where
  senior-first_laws : Laws (senior_first S M)
  senior-first_laws = record {
    irreflexive = less.irreflexive;
    transitive = less.transitive;
    total = less.total;
    next-member = λ x xs. get_d_member (x ∷ xs) (most_senior ltb (x ∷ xs)) (most-senior-inside (weak less) (x ∷ xs) (omega arith));
  }

  pub senior-first : (admits : State → Call → Bool) → Guarantees (senior_first S M) admits
  senior-first = theorem (senior_first S M) senior-first_laws
