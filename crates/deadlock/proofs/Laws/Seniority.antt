-- Laws of not being senior.
use mathlib.Core.Path.{◌∙◌, ◌≡◌, refl, sym}
use mathlib.Core.Bool.{Bool, false, true, true≢false}
use Prim.Native.Nat.{ℕ}
use Rattle.deadlock.specs.Machine.{Laws, Rules}
use Rattle.deadlock.specs.World.{NotSenior}

module _ (R : Rules) (L : Laws R) where
  pub not-senior-refl : (a : ℕ) → NotSenior R a a
  not-senior-refl a = L.irreflexive a

  pub not-senior-trans : (a b c : ℕ) → NotSenior R a b → NotSenior R b c → NotSenior R a c
  not-senior-trans a b c p q = cases (R.senior a c) refl (R.senior c b) refl
    where
      cases : (u : Bool) → R.senior a c ≡ u → (v : Bool) → R.senior c b ≡ v → NotSenior R a c
      cases false e v f = e
      cases true e true f = absurd (true≢false (sym (L.transitive a c b e f) ∙ p))
      cases true e false f = absurd (true≢false (sym (rw (← L.total b c q f) at e) ∙ p))

  pub senior-not-senior : (a b : ℕ) → R.senior a b ≡ true → NotSenior R b a
  senior-not-senior a b e = cases (R.senior b a) refl
    where
      cases : (u : Bool) → R.senior b a ≡ u → NotSenior R b a
      cases false f = f
      cases true f = absurd (true≢false (sym (L.transitive a b a e f) ∙ L.irreflexive a))
