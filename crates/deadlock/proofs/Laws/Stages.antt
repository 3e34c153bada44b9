-- Facts on stages, the item that a session awaits, and a release by the stage.
use mathlib.Core.Path.{◌≡◌, refl}
use mathlib.Core.Option.{none, Option, some}
use Prim.Native.Nat.{◌+◌, ◌≤◌, ℕ}
use native.Mathlib.Omega.{arith}
use lib.Dec.{eqb}
use Rattle.deadlock.specs.Lists.{bit}
use Rattle.deadlock.specs.Machine.{Answer, cleaning, growing, is_live, on_release_call, refused, release_held, releasing, rolled_back, Rules, Session, shrinking, Stage, victim, VictimPhase, waiting, withdrawing}
use Rattle.deadlock.specs.Links.{awaits, doomed, may_release, waits, withdraws}
use Rattle.deadlock.specs.World.{is_cleaning, is_victim, is_waiting}
use Rattle.deadlock.proofs.Laws.Lists.{bit-eqb, bit_le}

-- a stage by itself
pub record StageFacts (s : Stage) : Type 0 where
  pub waiting-or-victim : is_waiting s + is_victim s ≤ 1
  pub cleaning-victim : is_cleaning s ≤ is_victim s
  pub cleaning-le : is_cleaning s ≤ 1
  pub live-or-victim : bit (is_live s) + is_victim s ≤ 1
  pub waiting-live : is_waiting s ≤ bit (is_live s)
  pub live-or-doomed : bit (is_live s) + doomed s ≤ 1
  pub releases-or-live : may_release s + bit (is_live s) ≤ 1

pub stage-facts : (s : Stage) → StageFacts s
stage-facts growing = omega arith
stage-facts (waiting y) = omega arith
stage-facts (victim cleaning y) = omega arith
stage-facts (victim withdrawing y) = omega arith
stage-facts (releasing shrinking) = omega arith
stage-facts (releasing rolled_back) = omega arith

-- a stage seen from item x
pub record SeenFacts (s : Stage) (x : ℕ) : Type 0 where
  pub awaits-le : awaits s x ≤ is_waiting s + is_victim s
  pub awaits-or-releases : awaits s x + may_release s ≤ 1
  pub waits-or-doomed : waits s x + doomed s ≤ 1
  pub awaits-waits-or-doomed : awaits s x ≤ waits s x + doomed s
  pub releases-or-waits : may_release s + waits s x ≤ 1
  pub waits-or-withdraws : waits s x + withdraws s x ≤ 1
  pub withdraws-awaits : withdraws s x ≤ awaits s x

pub seen-facts : (s : Stage) (x : ℕ) → SeenFacts s x
seen-facts growing x = omega arith
seen-facts (waiting y) x = omega (arith, bit_le (eqb y x))
seen-facts (victim cleaning y) x = omega (arith, bit_le (eqb y x))
seen-facts (victim withdrawing y) x = omega (arith, bit_le (eqb y x))
seen-facts (releasing shrinking) x = omega arith
seen-facts (releasing rolled_back) x = omega arith

pub data Awaits (x : ℕ) : Stage → Type 0 where
  awaitsWaiting : Awaits x (waiting x)
  awaitsVictim : {p : VictimPhase} → Awaits x (victim p x)

pub awaits-item : (s : Stage) (x : ℕ) → 1 ≤ awaits s x → Awaits x s
awaits-item growing x h = absurd (omega arith)
awaits-item (waiting y) x h = rw (bit-eqb y x h) awaitsWaiting
awaits-item (victim p y) x h = rw (bit-eqb y x h) awaitsVictim
awaits-item (releasing p) x h = absurd (omega arith)

abbrev awaitedItem : Stage → Option ℕ
awaitedItem growing = none
awaitedItem (waiting y) = some y
awaitedItem (victim p y) = some y
awaitedItem (releasing p) = none

awaited-is : {x : ℕ} {s : Stage} → Awaits x s → awaitedItem s ≡ some x
awaited-is awaitsWaiting = refl
awaited-is awaitsVictim = refl

pub awaits-one : {x y : ℕ} {s : Stage} → Awaits x s → Awaits y s → x ≡ y
awaits-one p q = cc (awaited-is p, awaited-is q)

-- what holds of a refusal, and of giving up a held item, holds of a release
pub by-release : (R : Rules) (x : ℕ) (r : Session) (P : Answer → Type 0) → P refused → P (release_held R x r) → (a : Stage) → P (on_release_call R x r a)
unfolding on_release_call
by-release R x r P stays gives growing = gives
by-release R x r P stays gives (waiting y) = stays
by-release R x r P stays gives (victim p y) = stays
by-release R x r P stays gives (releasing shrinking) = gives
by-release R x r P stays gives (releasing rolled_back) = stays
