-- Laws of the first cause that holds, over lists of any length.
use mathlib.Core.Path.{◌≡◌, refl}
use mathlib.Core.Bool.{Bool, true, false, cond, not}
use mathlib.Core.List.{List, [], ◌∷◌, ◌++◌}
use Prim.Native.Nat.{ℕ, suc}
use native.Mathlib.Omega.{arith}
use lib.Dec.{eqb}
use borrow.Author.Tests.{eqb-false, not-true, not-false}
use Rattle.lists.specs.Lists.{all_of}
use Rattle.lists.proofs.Tests.{and_both}
use Rattle.refusal.specs.Refusal.{Cause, cause, first}

-- a cause has a number other than 0
abbrev pub numbered : Cause → Bool
numbered c = not (eqb c.refusal 0)

stops : (b : Bool) (n m p : ℕ) → ((p ≡ 0 → ⊥) → m ≡ p) → (cond b n p ≡ 0 → ⊥) → cond b n m ≡ cond b n p
stops true n m p f h = refl
stops false n m p f h = f h

goes_on : (b : Bool) (n m p q : ℕ) → not (eqb n 0) ≡ true → (p ≡ 0 → m ≡ q) → cond b n p ≡ 0 → cond b n m ≡ q
goes_on true n m p q e f z = absurd (eqb-false n 0 (not-true (eqb n 0) e) z)
goes_on false n m p q e f z = f z

-- a cause of the first list holds
pub first_stops : (k l : List Cause) → (first k ≡ 0 → ⊥) → first (k ++ l) ≡ first k
unfolding first
first_stops [] l h = absurd (h refl)
first_stops (c ∷ k) l h = stops c.holds c.refusal (first (k ++ l)) (first k) (first_stops k l) h

-- none of the first list holds
pub first-goes-on : (k l : List Cause) → all_of numbered k ≡ true → first k ≡ 0 → first (k ++ l) ≡ first l
unfolding first all_of
first-goes-on [] l e z = refl
first-goes-on (c ∷ k) l e z =
    let h = and_both (numbered c) (all_of numbered k) e in
    goes_on c.holds c.refusal (first (k ++ l)) (first k) (first l) h.0 (first-goes-on k l h.1) z

-- where no cause holds, the first does not, nor does any behind it
pub unmet : (b : Bool) (n : ℕ) (l : List Cause) → first (cause b (suc n) ∷ l) ≡ 0 → (b ≡ false) × (first l ≡ 0)
unfolding first
unmet true n l e = absurd (omega arith)
unmet false n l e = (refl, e)

pub unmet-not : (b : Bool) (n : ℕ) (l : List Cause) → first (cause (not b) (suc n) ∷ l) ≡ 0 → (b ≡ true) × (first l ≡ 0)
unmet-not b n l e = let p = unmet (not b) n l e in (not-false b p.0, p.1)
