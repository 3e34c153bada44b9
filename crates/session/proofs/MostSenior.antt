-- The most senior session of a list: by any strict weak order it has a place there, the one found in one pass, and by a total one it is the only one.
use mathlib.Core.Path.{◌≡◌, refl, sym, ◌∙◌}
use mathlib.Core.Bool.{Bool, true, false, not, true≢false}
use mathlib.Core.List.{List}
use Prim.Native.Nat.{ℕ, zero, suc, ◌≤◌, ◌<◌}
use native.Mathlib.Omega.{arith}
use lib.ListN.{length, get_or, take}
use lib.Seq.{get_or-take, length-take-le, take-length}
use Rattle.lists.specs.Lists.{member}
use Rattle.lists.proofs.Tests.{refuted, by_answer}
use Rattle.lists.proofs.Laws.{find_index-first, find_index-found, all_intro, all_get_d, all-member, get_d_member}
use Rattle.lists.proofs.Searches.{below-and-at}
use Rattle.lists.proofs.Orders.{StrictWeak, StrictTotal, weak}
use Rattle.session.specs.MostSenior.{is_most_senior, most_senior}

-- at place k of a list stands the most senior of its first n: none of them is senior to it, and it is senior to those before it
pub record Leads (senior : ℕ → ℕ → Bool) (l : List ℕ) (n k : ℕ) : Type 0 where
  pub inside : k < n
  pub unsurpassed : (j : ℕ) → j < n → senior (get_or l j 0) (get_or l k 0) ≡ false
  pub first : (j : ℕ) → j < k → senior (get_or l k 0) (get_or l j 0) ≡ true

-- it is found in one pass: the first element, then one element more at a time
module _ {senior : ℕ → ℕ → Bool} (order : StrictWeak senior) (q : List ℕ) where
  pub leads_one : Leads senior q 1 0
  leads_one = record {
    inside = omega arith;
    unsurpassed = λ j h. let z : j ≡ 0 = omega arith in rw (z) (order.irreflexive (get_or q 0 0));
    first = λ j h. absurd (omega arith);
  }

  -- one session more, which is senior to the one that led, or is not
  module _ (i k : ℕ) (l : Leads senior q i k) where
    pub leads_new : senior (get_or q i 0) (get_or q k 0) ≡ true → Leads senior q (suc i) i
    leads_new e = record {
      inside = omega arith;
      unsurpassed =
          below-and-at (λ j. senior (get_or q j 0) (get_or q i 0) ≡ false) i
          (λ j h. refuted _ _ (λ f. order.transitive (get_or q j 0) (get_or q i 0) (get_or q k 0) f e) (l.unsurpassed j h)) (order.irreflexive (get_or q i 0));
      first = λ j h. order.above (get_or q i 0) (get_or q k 0) (get_or q j 0) e (l.unsurpassed j h);
    }

    pub leads-still : senior (get_or q i 0) (get_or q k 0) ≡ false → Leads senior q (suc i) k
    leads-still e = record {
      inside = omega (arith, l.inside);
      unsurpassed = below-and-at (λ j. senior (get_or q j 0) (get_or q k 0) ≡ false) i l.unsurpassed e;
      first = l.first;
    }

module _ (senior : ℕ → ℕ → Bool) where
  -- no member is senior to a session that passes `is_most_senior`
  pub none-senior : (q : List ℕ) (n r : ℕ) → is_most_senior senior q n ≡ true → member r q ≡ true → senior r n ≡ false
  unfolding is_most_senior
  none-senior q n r e m =
      by_answer (senior r n) (λ h. absurd (true≢false (sym m ∙ all-member (λ s. not (senior s n)) r q e (rw (h) refl)))) (λ h. h)

module _ {senior : ℕ → ℕ → Bool} (order : StrictWeak senior) where
  module _ (q : List ℕ) where
    -- some place has the most senior
    leads-some : (i : ℕ) → 0 < i → (k : ℕ) × Leads senior q i k
    leads-some zero h = absurd (omega arith)
    leads-some (suc zero) h = (0, leads_one order q)
    leads-some (suc (suc i)) h =
        let p = leads-some (suc i) (omega arith) in
        by_answer (senior (get_or q (suc i) 0) (get_or q p.0 0))
        (λ e. (suc i, leads_new order q (suc i) p.0 p.1 e)) (λ e. (p.0, leads-still order q (suc i) p.0 p.1 e))

    -- and it is the place defined
    pub leads-place : (i k : ℕ) → i ≤ length q → Leads senior q i k → most_senior senior (take i q) ≡ k
    unfolding most_senior is_most_senior
    leads-place i k h l =
        let p = take i q in
        let n : length p ≡ i = length-take-le i q h in
        let inside = l.inside in
        let at : (j : ℕ) → j < i → get_or p j 0 ≡ get_or q j 0 = λ j g. get_or-take i q j 0 g in
        find_index-first (is_most_senior senior p) p 0 k (omega arith)
        (all_intro (λ s. not (senior s (get_or p k 0))) p 0 (λ j g. rw (at j (omega arith), at k inside, l.unsurpassed j (omega arith)) refl))
        (λ j g. refuted _ _ (λ e. all_get_d (λ s. not (senior s (get_or p j 0))) p k 0 e (omega arith)) (rw (at k inside, at j (omega arith), l.first j g) refl))

  module _ (q : List ℕ) (h : 0 < length q) where
    -- the place lies in the list
    pub most-senior-inside : most_senior senior q < length q
    most-senior-inside =
        let p = leads-some q (length q) h in
        let e : most_senior senior q ≡ p.0 = rw (take-length q) at (leads-place q (length q) p.0 (omega arith) p.1) in
        omega (arith, e, p.1.inside)

    -- who stands there passes
    pub most-senior-passes : is_most_senior senior q (get_or q (most_senior senior q) 0) ≡ true
    unfolding most_senior
    most-senior-passes = find_index-found (is_most_senior senior q) q 0 most-senior-inside

-- and nobody else in the list does
module _ {senior : ℕ → ℕ → Bool} (order : StrictTotal senior) (q : List ℕ) (h : 0 < length q) where
  pub most-senior-only : (r : ℕ) → is_most_senior senior q r ≡ true → member r q ≡ true → r ≡ get_or q (most_senior senior q) 0
  most-senior-only r e m =
      let n = get_or q (most_senior senior q) 0 in
      order.total r n (none-senior senior q n r (most-senior-passes (weak order) q h) m)
      (none-senior senior q r n e (get_d_member q (most_senior senior q) (most-senior-inside (weak order) q h)))
