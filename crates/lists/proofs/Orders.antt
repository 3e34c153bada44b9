-- Strict orders of numbers: weak ones, which may leave two different numbers level, and total ones.
use mathlib.Core.Path.{◌≡◌, sym, ap, ◌∙◌}
use mathlib.Core.Bool.{Bool, true, false, true≢false}
use Prim.Native.Nat.{ℕ}
use native.Mathlib.Omega.{arith}
use lib.Dec.{ltb}
use borrow.Author.Tests.{ltb-true, ltb-false, lt-ltb, le-ltb}
use Rattle.lists.proofs.Tests.{refuted, by_answer}

-- irreflexive, transitive, and who stands before b stands before everyone who does not
pub record StrictWeak (before : ℕ → ℕ → Bool) : Type 0 where
  pub irreflexive : (a : ℕ) → before a a ≡ false
  pub transitive : (a b c : ℕ) → before a b ≡ true → before b c ≡ true → before a c ≡ true
  pub above : (a b c : ℕ) → before a b ≡ true → before c b ≡ false → before a c ≡ true

-- irreflexive, transitive, and of two different numbers one stands before the other
pub record StrictTotal (before : ℕ → ℕ → Bool) : Type 0 where
  pub irreflexive : (a : ℕ) → before a a ≡ false
  pub transitive : (a b c : ℕ) → before a b ≡ true → before b c ≡ true → before a c ≡ true
  pub total : (a b : ℕ) → before a b ≡ false → before b a ≡ false → a ≡ b

-- a total order leaves none level
pub weak : {before : ℕ → ℕ → Bool} → StrictTotal before → StrictWeak before
weak {before} o = record {
  irreflexive = o.irreflexive;
  transitive = o.transitive;
  above = λ a b c e f.
      let below : before c a ≡ false = refuted (before c a) (before c b) (λ h. o.transitive c a b h e) f in
      by_answer (before a c) (λ h. h) (λ h. absurd (true≢false (sym e ∙ ap (λ (n : ℕ). before n b) (o.total a c h below) ∙ f)));
}

-- the order of the numbers by a measure: weak, and total where no two have the same
module _ (f : ℕ → ℕ) where
  pub measured : StrictWeak (λ a b. ltb (f a) (f b))
  measured = record {
    irreflexive = λ a. le-ltb (f a) (f a) (omega arith);
    transitive = λ a b c e g. lt-ltb (f a) (f c) (omega (arith, ltb-true (f a) (f b) e, ltb-true (f b) (f c) g));
    above = λ a b c e g. lt-ltb (f a) (f c) (omega (arith, ltb-true (f a) (f b) e, ltb-false (f c) (f b) g));
  }

  pub measured-total : ((a b : ℕ) → f a ≡ f b → a ≡ b) → StrictTotal (λ a b. ltb (f a) (f b))
  measured-total apart = record {
    irreflexive = measured.irreflexive;
    transitive = measured.transitive;
    total = λ a b e g. apart a b (omega (arith, ltb-false (f a) (f b) e, ltb-false (f b) (f a) g));
  }

-- the order of the numbers themselves
pub less : StrictTotal ltb
less = measured-total (λ a. a) (λ a b e. e)
