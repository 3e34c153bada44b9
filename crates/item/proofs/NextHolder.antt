-- What callers know of the next holder.
use mathlib.Core.Path.{◌≡◌, refl}
use mathlib.Core.Bool.{Bool, true, false, not}
use mathlib.Core.List.{List, [], ◌∷◌}
use Prim.Native.Nat.{ℕ, ◌<◌}
use lib.ListN.{length, get_or}
use Rattle.lists.specs.Lists.{member, remove_at}
use Rattle.lists.proofs.Laws.{filter_none, all-remove_at}
use Rattle.lists.proofs.Orders.{StrictWeak, StrictTotal}
use Rattle.message.specs.Kind
use Rattle.message.specs.Outbox.{plain}
use Rattle.session.specs.MostSenior.{is_most_senior}
use Rattle.session.proofs.MostSenior.{none-senior, most-senior-inside, most-senior-passes, most-senior-only}
use Rattle.item.specs.NextHolder.{next_holder}
use Rattle.item.specs.Rules.{probes, resends, handed_over, vacated}
use Rattle.item.proofs.Laws.{vacated-more}

-- nobody left in the queue causes a probe to a session that passes `is_most_senior`
pub no_probes : (senior : ℕ → ℕ → Bool) (q : List ℕ) (n k : ℕ) → is_most_senior senior q n ≡ true → probes senior n (remove_at k q) ≡ []
unfolding is_most_senior probes
no_probes senior q n k e = rw (filter_none (λ r. senior r n) (remove_at k q) (all-remove_at (λ s. not (senior s n)) k q e)) refl

module _ {senior : ℕ → ℕ → Bool} (order : StrictWeak senior) (q : List ℕ) (h : 0 < length q) where
  abbrev next : ℕ
  next = next_holder senior q

  -- it has a place in the queue
  pub next-inside : next < length q
  unfolding next_holder
  next-inside = most-senior-inside order q h

  next-passes : is_most_senior senior q (get_or q next 0) ≡ true
  unfolding next_holder
  next-passes = most-senior-passes order q h

  -- no session of the queue is senior to it
  pub next-unsurpassed : (r : ℕ) → member r q ≡ true → senior r (get_or q next 0) ≡ false
  next-unsurpassed r m = none-senior senior q (get_or q next 0) r next-passes m

  -- a release sends it the grant and no probe; then the resends to those left
  pub next-sends : (vacated senior (next_holder senior) q).sends ≡ plain (get_or q next 0) Kind.grant ∷ resends (remove_at next q)
  unfolding handed_over
  next-sends = rw (vacated-more senior (next_holder senior) q h, no_probes senior q (get_or q next 0) next next-passes) refl

-- where no two sessions are level, no other session of the queue is unsurpassed
module _ {senior : ℕ → ℕ → Bool} (order : StrictTotal senior) (q : List ℕ) (h : 0 < length q) where
  pub next-only : (r : ℕ) → is_most_senior senior q r ≡ true → member r q ≡ true → r ≡ get_or q (next_holder senior q) 0
  unfolding next_holder
  next-only r e m = most-senior-only order q h r e m
