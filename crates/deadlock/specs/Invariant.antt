-- The invariant of the machine, over its states.
use Rattle.std.specs.Prelude.{◌≡◌, Bool, false, not, true, [], ◌∷◌, List, ◌+◌, ◌≤◌, ℕ}
use Rattle.std.proofs.Math.Option.{some}
use Rattle.lists.specs.Lists.{count_up_to, member}
use Rattle.waits.specs.Waits.{cycles}
use Rattle.deadlock.specs.Lists.{occurs}
use Rattle.deadlock.specs.Machine.{cleaning, Entry, growing, Item, Message, releasing, route, Rules, Stage, State, victim, waiting, waits_for, withdrawing}
use Rattle.deadlock.specs.Counts.{clean_of}
use Rattle.deadlock.specs.Links.{Linked, PairView, view_of}
use Rattle.deadlock.specs.World.{FreeIsEmpty, Mail, Probes, Victims, World}
use Rattle.deadlock.specs.Coverage.{Coverage}

-- the messages of session t on their way to item x
unfoldable pub up_route : State → ℕ → ℕ → List Message
up_route s t x = route true t x s.mailbox

-- the messages of item x on their way to session t
unfoldable pub down_route : State → ℕ → ℕ → List Message
down_route s t x = route false t x s.mailbox

abbrev pub pair_view : State → ℕ → ℕ → PairView
pair_view s t x = view_of t x (s.session t) (s.item x) (up_route s t x) (down_route s t x)

-- every pair is linked
pub record AllLinked (R : Rules) (s : State) : Type 0 where
  pub linked : (t x : ℕ) → 1 ≤ x → x ≤ R.M → Linked (pair_view s t x)

-- the sessions that an item names are numbered 1 to S
pub record InRange (R : Rules) (i : Item) : Type 0 where
  pub holder : (h : ℕ) → i.holder ≡ some h → (1 ≤ h) × (h ≤ R.S)
  pub queue : (a : ℕ) → 1 ≤ occurs a i.queue → (1 ≤ a) × (a ≤ R.S)

-- the cleans of v in the mailbox
unfoldable pub cleans_in : ℕ → List Entry → ℕ
cleans_in v [] = 0
cleans_in v (e ∷ l) = clean_of v e.message + cleans_in v l

-- a state as the clauses see it
abbrev pub mail_of : State → Mail
mail_of s = record { up = up_route s; down = down_route s; total = λ v. cleans_in v s.mailbox }

abbrev pub world_of : State → World
world_of s = record { session = s.session; item = s.item; up = up_route s; down = down_route s; total = λ v. cleans_in v s.mailbox }

-- links, victims and probes
pub record Core (R : Rules) (s : State) : Type 0 where
  pub links : AllLinked R s
  pub idle : (x : ℕ) → FreeIsEmpty (s.item x)
  pub victims : Victims R (world_of s)
  pub probes : Probes R (world_of s)

-- and that no cycle is missed
pub record Invariant (R : Rules) (s : State) : Type 0 where
  pub core : Core R s
  pub is_in_range : (x : ℕ) → InRange R (s.item x)
  pub coverage : Coverage R (world_of s)

-- ---- the count of cycles
-- how many cycles stand
unfoldable pub standing : Rules → State → ℕ
standing R s = cycles (waits_for R s) R.S R.senior

-- a session t of that stage withdraws, and is out of the queue of the item that it awaited
abbrev pub is_leaving : (ℕ → Item) → ℕ → Stage → Bool
is_leaving I t growing = false
is_leaving I t (waiting y) = false
is_leaving I t (victim cleaning y) = false
is_leaving I t (victim withdrawing y) = not (member t (I y).queue)
is_leaving I t (releasing p) = false

-- how many sessions do
unfoldable pub leaving : Rules → State → ℕ
leaving R s = count_up_to R.S (λ t. is_leaving s.item t (s.session t).stage)

-- with the numbers of cycles closed and of sessions rolled back so far: a cycle that was closed stands, or its victim is leaving, or its victim was
-- rolled back. With no message left nothing stands and nobody is leaving, so that the two numbers agree
pub record Balance (R : Rules) (s : State) (closed rolled_back : ℕ) : Type 0 where
  pub balance : closed ≡ rolled_back + standing R s + leaving R s
  -- whoever withdraws, does so from an item of the machine
  pub withdraws_in_range : (t y : ℕ) → (s.session t).stage ≡ victim withdrawing y → (1 ≤ y) × (y ≤ R.M)
