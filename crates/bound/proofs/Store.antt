-- A probe that is news leaves fewer juniors that would be news.
use mathlib.Core.Path.{◌≡◌, ap, refl}
use mathlib.Core.Bool.{◌||◌, Bool, false, true}
use Prim.Native.Nat.{◌*◌, ◌+◌, ◌≤◌, ℕ}
use native.Mathlib.Omega.{arith}
use lib.Dec.{eqb}
use borrow.Author.Tests.{ne_eqb}
use Rattle.lists.specs.Lists.{count_up_to}
use Rattle.lists.proofs.Searches.{sum_changed}
use Rattle.deadlock.specs.Lists.{updated}
use Rattle.deadlock.specs.Machine.{is_news, Laws, Rules}
use Rattle.deadlock.proofs.Laws.Lists.{updated-other, updated-same}
use Rattle.bound.specs.Potential.{store_weight}
use Rattle.bound.proofs.Sums.{count_less}

module _ {R : Rules} (L : Laws R) where
  -- k would be news where junior a is stored, or nothing
  abbrev news_after : ℕ → ℕ → Bool
  news_after a k = eqb a 0 || R.senior a k

  news_transitive : (a j k : ℕ) → news_after a j ≡ true → R.senior j k ≡ true → news_after a k ≡ true
  news_transitive a j k = cases (eqb a 0)
    where
      cases : (b : Bool) → b || R.senior a j ≡ true → R.senior j k ≡ true → b || R.senior a k ≡ true
      cases true p q = refl
      cases false p q = L.transitive a j k p q

  pub store-falls : (f : ℕ → ℕ) (i j : ℕ) → (1 ≤ i) × (i ≤ R.S) → (1 ≤ j) × (j ≤ R.S) → is_news R f i j ≡ true
      → store_weight R (updated f i j) + 2 ≤ store_weight R f
  unfolding store_weight is_news
  store-falls f i j ri rj news =
      let n : ℕ → ℕ = λ a. 2 * count_up_to R.S (news_after a) in
      let some : eqb j 0 ≡ false = ne_eqb j 0 (λ z. absurd (omega (arith, rj.0))) in
      omega (
        arith,
        sum_changed R.S i (λ a. n (f a)) (λ a. n (updated f i j a)) ri.0 ri.1 (λ a ne. ap n (updated-other f i j a ne)),
        ap n (updated-same f i j),
        count_less R.S (news_after j) (news_after (f i)) j rj.0 rj.1 (rw some (L.irreflexive j)) news
            (λ k q. news_transitive (f i) j k news (rw some at q)),
      )
