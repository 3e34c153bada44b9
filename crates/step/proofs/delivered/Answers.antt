-- The route is searched for a delivery alone.
use mathlib.Core.Path.{◌≡◌, refl, sym, ◌∙◌}
use mathlib.Core.List.{List}
use mathlib.Core.Logic.{inl, inr}
use Prim.Native.Nat.{ℕ, ◌<◌}
use lib.ListN.{length}
use Rattle.std.specs.Prelude.{Option, Some, None, IfSome, MatchOption}
use Rattle.mailbox.specs.Entry.{Entry}
use Rattle.step.specs.Step.{delivered}
use Rattle.step.specs.Parts.{place_of}
use Rattle.step.proofs.delivered.Goals.{in-DeliverToItem, in-DeliverToSession}
use Rattle.step.proofs.delivered.Goals as goal

found : (o : Option ℕ) (l : List Entry) (p n : ℕ) → MatchOption o (p ≡ length l) (λ k. (k ≡ p) × (k < n)) → (place_of o l ≡ p) × IfSome o (λ k. k < n)
found None l p n h = (sym h, tt)
found (Some k) l p n h = h

pub returns-in-Request : goal.returns-in-Request
unfolding delivered
returns-in-Request c =
    elim c.in-Request.is
    [ inl e ↦ rw (e) (record { place = refl; inside = tt }) | inr e ↦ rw (e) (record { place = refl; inside = tt }) ]

pub returns : goal.returns
unfolding delivered
returns c =
    let f = found c.earliest.result _ _ _ c.earliest.ensures in
    record {
      place =
          f.0
          ∙ elim c.match-verb.branch [
            | in-DeliverToItem w ↦ rw (w.direction-is, w.in-DeliverToItem.is) refl
            | in-DeliverToSession w ↦ rw (w.direction-is, w.in-DeliverToSession.is) refl
          ];
      inside = f.1;
    }
