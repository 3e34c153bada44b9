-- The tests of the code on the whole mailbox make the definitions.
use mathlib.Core.Path.{◌≡◌, refl, sym, ◌∙◌}
use mathlib.Core.Bool.{true, false, not, ◌&&◌}
use mathlib.Core.List.{List}
use Prim.Native.Nat.{ℕ, ◌-◌, ◌*◌, ◌≤◌, ◌<◌}
use native.Mathlib.Omega.{arith}
use lib.Dec.{eqb, leb}
use lib.ListN.{length}
use Rattle.std.specs.Prelude.{Option, Some, None, MatchOption}
use borrow.Author.Tests.{not-false}
use Rattle.buffer.specs.Bytes.{slice}
use Rattle.lists.specs.Lists.{all_of, every_below}
use Rattle.lists.proofs.Laws.{all-tabulate, below_cong, find_index-tabulate}
use Rattle.entry.specs.Entry.{well_formed, on_route, earliest, width}
use Rattle.entry.specs.Cells.{misses}
use Rattle.entry.proofs.Cells.{form_at, misses-route}
use Rattle.mailbox.proofs.Laws.{length-entries}
use Rattle.mailbox.specs.Layout as Layout
use Rattle.mailbox.specs.Layout.{header, route_place, body_place, capacity_of, count_of, entry_at, entries_of}

-- what the search finds: no entry before the place is on the route, and the one there is
module _ (m : List ℕ) (d t x : ℕ) where
  same : (k : ℕ) → misses m d t x (route_place k) ≡ not (on_route d t x (entry_at m k))
  unfolding entry_at
  same k = misses-route m d t x (route_place k) (body_place (capacity_of m) k)

  before : (r : ℕ) → every_below r (λ k. misses m d t x (route_place k)) ≡ true → every_below r (λ k. not (on_route d t x (entry_at m k))) ≡ true
  before r e = sym (below_cong r (λ k. misses m d t x (route_place k)) (λ k. not (on_route d t x (entry_at m k))) (λ k l. same k)) ∙ e

  place : (r : ℕ) → r ≤ count_of m → every_below r (λ k. misses m d t x (route_place k)) ≡ true
      → (r < count_of m → misses m d t x (route_place r) ≡ false) → r ≡ earliest d t x (entries_of m)
  unfolding entries_of
  place r h e f = sym (find_index-tabulate (on_route d t x) (count_of m) r (entry_at m) h (before r e) (λ l. not-false (on_route d t x (entry_at m r)) (sym (same r) ∙ f l)))

  pub earliest-found : (o : Option ℕ) {n : ℕ} → n ≡ count_of m
      → MatchOption o (every_below n (λ k. misses m d t x (route_place k)) ≡ true) (λ r. (r < n) × (every_below r (λ k. misses m d t x (route_place k)) ≡ true) × (misses m d t x (route_place r) ≡ false))
      → MatchOption o (earliest d t x (entries_of m) ≡ length (entries_of m)) (λ k. (k ≡ earliest d t x (entries_of m)) × (k < count_of m))
  earliest-found None c e = sym (place (count_of m) (omega arith) (rw c at e) (λ l. absurd (omega (arith, l)))) ∙ sym (length-entries m)
  earliest-found (Some r) c (h, e, f) = (place r (omega (arith, h, c)) e (λ l. f), omega (arith, h, c))

-- the test of the whole mailbox as the code makes it
pub whole-test : (S M : ℕ) (m : List ℕ) {C n : ℕ} → C ≡ capacity_of m → n ≡ count_of m
    → Layout.well_formed S M m
    ≡ (leb n C && every_below n (form_at m S M header (route_place C)) && all_of (λ b. eqb b 0) (slice m (route_place n) (width * (C - n))) && all_of (λ b. eqb b 0) (slice m (body_place C n) (width * (C - n))))
unfolding Layout.well_formed entries_of entry_at
whole-test S M m e f = rw (e, f, all-tabulate (well_formed S M) (count_of m) (entry_at m)) refl
