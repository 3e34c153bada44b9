-- At an empty mailbox nobody is a victim.
use mathlib.Core.Path.{◌≡◌, ap, refl}
use mathlib.Core.List.{[]}
use native.Mathlib.Omega.{arith}
use Rattle.lists.proofs.Tests.{eqb_self}
use Rattle.deadlock.specs.Lists.{bit}
use Rattle.deadlock.specs.Machine.{cleaning, growing, Laws, releasing, Rules, Stage, State, victim, waiting, withdrawing}
use Rattle.deadlock.specs.Links.{awaits}
use Rattle.deadlock.specs.World.{is_victim}
use Rattle.deadlock.specs.Invariant.{Invariant}
use Rattle.deadlock.proofs.Settled.{none_cleans, none-withdraws}
use Rattle.room.specs.Snapshot.{NoVictim}
use Rattle.room.specs.Phases.{Tidy}

pub none-victim : (R : Rules) (L : Laws R) (s : State) → Invariant R s → s.mailbox ≡ [] → Tidy R s → NoVictim s
none-victim R L s k e d t = cases (s.session t).stage refl
  where
    cases : (a : Stage) → (s.session t).stage ≡ a → is_victim a ≡ 0
    cases growing q = refl
    cases (waiting y) q = refl
    cases (releasing p) q = refl
    cases (victim cleaning y) q = absurd (none_cleans R L s k e t y q)
    cases (victim withdrawing y) q = absurd (none-withdraws R L s k e t y q (d.awaited t y (omega (arith, ap (λ (a : Stage). awaits a y) q, ap bit (eqb_self y)))))
