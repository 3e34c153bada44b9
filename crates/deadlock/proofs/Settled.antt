-- With no message left no session lies on a cycle, no cycle is counted, and nobody is leaving.
use mathlib.Core.Path.{◌≡◌, ap, refl}
use mathlib.Core.Bool.{false, true}
use mathlib.Core.List.{[]}
use Prim.Native.Nat.{◌≤◌, ℕ}
use native.Mathlib.Omega.{arith}
use Rattle.lists.proofs.Searches.{count_none}
use Rattle.lists.proofs.Tests.{eqb_self, fails}
use Rattle.waits.proofs.Leaders.{cycles-none}
use Rattle.deadlock.specs.Lists.{bit}
use Rattle.deadlock.specs.Machine.{cleaning, growing, Laws, on_cycle, releasing, rolled_back, route, Rules, shrinking, Stage, State, victim, waiting, waits_for, withdrawing}
use Rattle.message.specs.Kind
use Rattle.deadlock.specs.Counts.{count_kind}
use Rattle.deadlock.specs.Links.{withdraws}
use Rattle.deadlock.specs.Walks.{FirstApart}
use Rattle.deadlock.specs.World.{Edge, is_cleaning}
use Rattle.deadlock.specs.Invariant.{cleans_in, down_route, Invariant, is_leaving, leaving, standing, up_route, world_of}
use Rattle.deadlock.proofs.StateWaits.{on_cycle-cycle}
use Rattle.deadlock.proofs.Core.Kept.{links-of}
use Rattle.deadlock.proofs.Coverage.NoCycleLeft.{has_no_cycle}

module _ (R : Rules) (L : Laws R) (s : State) (k : Invariant R s) (e : s.mailbox ≡ []) where
  pub none-cycle : (v : ℕ) → FirstApart (Edge R (world_of s)) v v → ⊥
  unfolding up_route down_route route cleans_in
  none-cycle =
      has_no_cycle L (links-of R L s k.core) k.core.victims k.coverage (λ a z. ap (route true a z) e) (λ a z. ap (route false a z) e) (λ u. ap (cleans_in u) e)

  pub none-on-cycle : (t : ℕ) → 1 ≤ t → on_cycle R s t ≡ false
  none-on-cycle t lo = fails (on_cycle R s t) (λ q. none-cycle t (on_cycle-cycle R s (links-of R L s k.core) k.is_in_range t lo q))

  pub none-standing : standing R s ≡ 0
  unfolding standing
  none-standing = cycles-none (waits_for R s) R.S R.senior (λ t lo _. none-on-cycle t lo)

  -- a session whose clean is on its way has one there, and one that withdraws has a withdraw or its answer
  pub none_cleans : (t y : ℕ) → (s.session t).stage ≡ victim cleaning y → ⊥
  unfolding cleans_in
  none_cleans t y q = omega (arith, k.core.victims.one-clean t, ap is_cleaning q, ap (cleans_in t) e)

  pub none-withdraws : (t y : ℕ) → (s.session t).stage ≡ victim withdrawing y → (1 ≤ y) × (y ≤ R.M) → ⊥
  unfolding up_route down_route route count_kind
  none-withdraws t y q r =
      let f = k.core.links.linked t y r.0 r.1 in
      omega (
        arith,
        ap (λ (a : Stage). withdraws a y) q,
        ap bit (eqb_self y),
        ap (λ (m : _). count_kind Kind.withdraw (route true t y m)) e,
        ap (λ (m : _). count_kind Kind.withdrawn (route false t y m)) e,
      )

  pub none-leaving : ((t y : ℕ) → (s.session t).stage ≡ victim withdrawing y → (1 ≤ y) × (y ≤ R.M)) → leaving R s ≡ 0
  unfolding leaving
  none-leaving range = count_none R.S _ (λ t _ _. cases t (s.session t).stage refl)
    where
      cases : (t : ℕ) (a : Stage) → (s.session t).stage ≡ a → is_leaving s.item t a ≡ false
      cases t growing q = refl
      cases t (releasing shrinking) q = refl
      cases t (releasing rolled_back) q = refl
      cases t (waiting y) q = refl
      cases t (victim cleaning y) q = refl
      cases t (victim withdrawing y) q = absurd (none-withdraws t y q (range t y q))
