-- A path from i to t that a wait of t for i closes is a cycle; its ranks are the ranks of the path.
use mathlib.Core.Path.{◌≡◌, ap, refl}
use mathlib.Core.Bool.{Bool, false, true}
use mathlib.Core.List.{◌∷◌}
use mathlib.Core.Logic.{◌⊎◌, inl, inr}
use Prim.Native.Nat.{◌≤◌, ℕ}
use native.Mathlib.Omega.{arith}
use borrow.Author.Tests.{ne_eqb}
use Rattle.lists.proofs.Tests.{same?}
use Rattle.deadlock.specs.Lists.{bit, occurs}
use Rattle.deadlock.specs.Machine.{cleaning, growing, Laws, releasing, rolled_back, Rules, shrinking, Stage, victim, waiting, withdrawing}
use Rattle.deadlock.specs.Links.{awaits}
use Rattle.deadlock.specs.Walks.{FirstApart, Walk}
use Rattle.deadlock.specs.World.{AbortTo, CycleOf, Edge, Links, NotSenior, stage_of, ToldOf, World}
use Rattle.deadlock.proofs.Laws.Counts.{every-occurs}
use Rattle.deadlock.proofs.Laws.Walks.{cycle-turned, lastApart-firstApart, path-has-cycle, path-prefix, path-walk, walk-append}
use Rattle.deadlock.proofs.Victims.OneOnCycle.{one-edge}

module _ {R : Rules} (L : Laws R) {w : World} (lk : Links R w) where
  -- the cycle that a declaration names
  pub record DeclaredCycle (i j : ℕ) : Type 0 where
    pub cycle : FirstApart (Edge R w) i i
    pub on-cycle : Walk (Edge R w) i j
    pub most-senior : (u : ℕ) → Walk (Edge R w) i u → NotSenior R u i
    pub most-junior : (u : ℕ) → Walk (Edge R w) i u → NotSenior R j u

  pub declare-cycle : {i j t : ℕ} {B : ℕ → Type 0} → ToldOf R w i j t B → Edge R w t i → DeclaredCycle i j
  unfolding occurs
  declare-cycle {i} {j} {t} c e = record {
    cycle = lastApart-firstApart (record { from = t; walk = path-walk c.path; last = e });
    on-cycle = path-prefix j c.path c.ranks.has-junior;
    most-senior = λ u y. not-senior u (path-has-cycle (one-edge lk) c.path e u y) (same? t u);
    most-junior = λ u y. not-junior u (path-has-cycle (one-edge lk) c.path e u y) (same? t u);
  }
    where
      not-senior : (u : ℕ) → 1 ≤ occurs u (t ∷ c.places) → Dec (t ≡ u) → NotSenior R u i
      not-senior u h (yes q) = rw (← q) c.ranks.end-not-senior
      not-senior u h (no q) = every-occurs u c.ranks.senior_to_all (omega (arith, ap bit (ne_eqb t u q)))

      not-junior : (u : ℕ) → 1 ≤ occurs u (t ∷ c.places) → Dec (t ≡ u) → NotSenior R j u
      not-junior u h (yes q) = rw (← q) c.last
      not-junior u h (no q) = every-occurs u c.ranks.junior_to_all (omega (arith, ap bit (ne_eqb t u q)))

  -- so the victim is the most junior of its cycle
  pub declared-cycle-of : {i j : ℕ} → DeclaredCycle i j → CycleOf R w j (λ u. R.senior u j ≡ true)
  declared-cycle-of {i} {j} d = record { cycle = cycle-turned (one-edge lk) d.cycle d.on-cycle; others = λ u y. cases u (R.senior u j) refl (d.most-junior u (walk-append d.on-cycle y)) }
    where
      cases : (u : ℕ) (b : Bool) → R.senior u j ≡ b → NotSenior R j u → (u ≡ j) ⊎ (R.senior u j ≡ true)
      cases u true e k = inr e
      cases u false e k = inl (L.total u j e k)

  pub cycle-abort : (j : ℕ) → CycleOf R w j (λ u. R.senior u j ≡ true) → AbortTo R w j (stage_of w j)
  unfolding AbortTo
  cycle-abort j r = cases (stage_of w j) (let e = r.cycle.out in let k = lk.linked j e.item e.low e.high in omega (arith, e.stands))
    where
      cases : (s : Stage) → 1 ≤ awaits s r.cycle.out.item → AbortTo R w j s
      cases growing h = absurd (omega arith)
      cases (releasing shrinking) h = absurd (omega arith)
      cases (releasing rolled_back) h = absurd (omega arith)
      cases (waiting y) h = r
      cases (victim cleaning y) h = tt
      cases (victim withdrawing y) h = tt
