-- What a list of messages weighs that an item or a session sends.
use mathlib.Core.Path.{◌≡◌}
use mathlib.Core.Bool.{Bool}
use mathlib.Core.List.{[], ◌++◌, ◌∷◌, List, map}
use Prim.Native.Nat.{◌*◌, ◌+◌, ◌≤◌, suc, ℕ}
use native.Mathlib.Omega.{arith}
use lib.Dec.{eqb}
use lib.ListN.{length}
use Rattle.lists.specs.Lists.{filter}
use Rattle.lists.proofs.Tests.{by-test}
use Rattle.deadlock.specs.Machine.{down, Message, probe, probes_from, probes_to, resend, resends, Rules, Sends, to_each}

-- each message by its receiver
module _ (g : ℕ → Message → ℕ) where
  unfoldable pub sent_weight : Sends → ℕ
  sent_weight [] = 0
  sent_weight (p ∷ l) = g p.0 p.1 + sent_weight l

  pub sent-append : (l k : Sends) → sent_weight (l ++ k) ≡ sent_weight l + sent_weight k
  unfolding sent_weight
  sent-append [] k = omega arith
  sent-append (p ∷ l) k = omega (arith, sent-append l k)

  pub sent-probes_to : (R : Rules) (h : ℕ) → ((i j : ℕ) → g h (probe i j) ≡ 1) → (l : List ℕ) → sent_weight (probes_to R h l) ≤ length l
  unfolding sent_weight probes_to filter
  sent-probes_to R h e [] = omega arith
  sent-probes_to R h e (b ∷ l) =
      by-test (λ (q : List ℕ). sent_weight (map (λ (a : ℕ). (h, probe a h)) q) ≤ suc (length l)) (R.senior b h)
      (λ _. omega (arith, sent-probes_to R h e l, e b h)) (λ _. omega (arith, sent-probes_to R h e l))

  module _ (c : ℕ) where
    pub sent-resends : ((a : ℕ) → g a (down resend) ≡ c) → (l : List ℕ) → sent_weight (resends l) ≤ length l * c
    unfolding sent_weight resends
    sent-resends e [] = omega arith
    sent-resends e (a ∷ l) = omega (arith, e a, sent-resends e l)

    pub sent-to_each : (m : Message) → ((x : ℕ) → g x m ≡ c) → (f : ℕ → Bool) (l : List ℕ) → sent_weight (to_each m f l) ≤ length l * c
    unfolding sent_weight to_each
    sent-to_each m e f [] = omega arith
    sent-to_each m e f (x ∷ l) =
        by-test (λ (q : Sends). sent_weight q ≤ suc (length l) * c) (f x) (λ _. omega (arith, e x, sent-to_each m e f l)) (λ _. omega (arith, sent-to_each m e f l))

    pub sent-probes_from : (x : ℕ) → ((i j : ℕ) → g x (probe i j) ≡ c) → (f : ℕ → ℕ) (l : List ℕ) → sent_weight (probes_from f x l) ≤ length l * c
    unfolding sent_weight probes_from
    sent-probes_from x e f [] = omega arith
    sent-probes_from x e f (i ∷ l) =
        by-test (λ (q : Sends). sent_weight q ≤ suc (length l) * c) (eqb (f i) 0)
        (λ _. omega (arith, sent-probes_from x e f l)) (λ _. omega (arith, e i (f i), sent-probes_from x e f l))
