-- Laws of the definitions on numbers and lists that the waits are read with.
use mathlib.Core.Path.{◌≡◌, refl}
use mathlib.Core.Bool.{Bool, true, false, cond}
use Prim.Native.Nat.{ℕ, zero, suc}
use lib.Dec.{eqb, eqb-suc-zero}
use Rattle.lists.specs.Lists.{lowest}
use Rattle.waits.specs.Walk.{one_more}

-- ---- the lowest number that passes a test
first_step : (a b : Bool) (l n : ℕ)
    → cond (eqb (cond a 1 (one_more l)) 0) (cond b (suc (suc n)) 0) (cond a 1 (one_more l)) ≡ cond a 1 (one_more (cond (eqb l 0) (cond b (suc n) 0) l))
first_step true b l n = refl
first_step false true zero n = refl
first_step false false zero n = refl
first_step false b (suc l) n = rw (eqb-suc-zero, eqb-suc-zero) refl

-- the first number is tried first
pub lowest-first : (n : ℕ) (p : ℕ → Bool) → lowest (suc n) p ≡ cond (p 1) 1 (one_more (lowest n (λ k. p (suc k))))
unfolding lowest
lowest-first zero p = refl
lowest-first (suc n) p = rw (lowest-first n p) (first_step (p 1) (p (suc (suc n))) (lowest n (λ k. p (suc k))) n)
