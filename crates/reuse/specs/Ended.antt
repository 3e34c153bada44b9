-- What holds in every reached state besides the invariant: what victims, and sessions whose work is over, still have.
use Rattle.std.specs.Prelude.{◌≡◌, false, true, List, ◌+◌, ◌≤◌, ℕ}
use Rattle.deadlock.specs.Lists.{bit}
use Rattle.deadlock.specs.Machine.{held_by, is_rolled_back, Item, Message, Rules, Session, State}
use Rattle.message.specs.Kind
use Rattle.deadlock.specs.Counts.{count_kind}
use Rattle.deadlock.specs.Links.{doomed, may_release}
use Rattle.deadlock.specs.Invariant.{up_route}

-- session t with record r, and with these messages on their way to each item
pub record Ended (R : Rules) (items : ℕ → Item) (t : ℕ) (r : Session) (up : ℕ → List Message) : Type 0 where
  -- whoever releases or was rolled back stores no probe
  pub stores-none : (i : ℕ) → 1 ≤ may_release r.stage → r.stored i ≡ 0
  -- whoever was rolled back holds nothing
  pub holds-none : (x : ℕ) → is_rolled_back r.stage ≡ true → r.held x ≡ false
  -- a victim, or whoever was rolled back, is the holder of no item but those that it holds and those to which its release is on its way
  pub owns : (x : ℕ) → 1 ≤ x → x ≤ R.M → 1 ≤ doomed r.stage → bit (held_by (items x).holder t) ≤ bit (r.held x) + count_kind Kind.release (up x)

-- every session
abbrev pub AllEnded : Rules → State → Type 0
AllEnded R s = (t : ℕ) → Ended R s.item t (s.session t) (up_route s t)
