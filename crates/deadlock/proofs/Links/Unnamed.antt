-- What the machine knows of a session that may be reopened, and that its links stay: it releases or was rolled back, its routes are empty, and no item names it.
use mathlib.Core.Path.{◌≡◌, ap, refl}
use mathlib.Core.Bool.{and-false, Bool, false, false≢true, not, true}
use mathlib.Core.List.{[], ◌∷◌, List}
use Prim.Native.Nat.{◌≤◌, ℕ}
use native.Mathlib.Omega.{arith}
use lib.Dec.{eqb}
use borrow.Author.Tests.{not-true}
use Rattle.lists.specs.Lists.{all_of, member}
use Rattle.lists.proofs.Tests.{and_both, by-test, or_neither}
use Rattle.lists.proofs.Searches.{every-at}
use Rattle.deadlock.specs.Lists.{bit, occurs}
use Rattle.deadlock.specs.Machine.{Entry, growing, held_by, is_on_route, is_over, Item, item_names, may_reopen, none_of_session, of_session, on_reopen_call, ReleasePhase, releasing, route, Rules, Stage, State, victim, waiting}
use Rattle.deadlock.specs.Counts.{count_behind, count_kind, sent_to}
use Rattle.deadlock.specs.Links.{Linked}
use Rattle.deadlock.specs.World.{stage_of, World}
use Rattle.deadlock.specs.Invariant.{down_route, pair_view, up_route, world_of}
use Rattle.deadlock.proofs.Laws.Lists.{not-member-occurs}
use Rattle.deadlock.proofs.Links.KeptAtSession.{LinkedAnswer}

pub record Unnamed (R : Rules) (w : World) (t : ℕ) : Type 0 where
  pub over : (p : ReleasePhase) × (stage_of w t ≡ releasing p)
  pub no_up : (z : ℕ) → w.up t z ≡ []
  pub no_down : (z : ℕ) → w.down t z ≡ []
  pub not-queued : (z : ℕ) → 1 ≤ z → z ≤ R.M → occurs t (w.item z).queue ≡ 0
  pub not-holder : (z : ℕ) → 1 ≤ z → z ≤ R.M → held_by (w.item z).holder t ≡ false

over-stage : (a : Stage) → is_over a ≡ true → (p : ReleasePhase) × (a ≡ releasing p)
over-stage growing e = absurd (false≢true e)
over-stage (waiting y) e = absurd (false≢true e)
over-stage (victim p y) e = absurd (false≢true e)
over-stage (releasing p) e = (p, refl)

-- a session with no entry in the mailbox has empty routes
pub route-none : (d : Bool) (t x : ℕ) (l : List Entry) → none_of_session t l ≡ true → route d t x l ≡ []
unfolding route all_of is_on_route none_of_session of_session
route-none d t x [] h = refl
route-none d t x (e ∷ l) h =
    let p = and_both (not (of_session t e)) (none_of_session t l) h in
    rw (not-true (eqb t e.session) p.0, and-false) (route-none d t x l p.1)

not_named : (t : ℕ) (i : Item) → not (item_names t i) ≡ true → (held_by i.holder t ≡ false) × (member t i.queue ≡ false)
unfolding item_names
not_named t i e = or_neither (held_by i.holder t) (member t i.queue) (not-true _ e)

pub unnamed : (R : Rules) (s : State) (t : ℕ) → may_reopen R s t ≡ true → Unnamed R (world_of s) t
unfolding may_reopen up_route down_route
unnamed R s t e =
    let stage = and_both (is_over (s.session t).stage) _ e in
    let rest = and_both (none_of_session t s.mailbox) _ stage.1 in
    let items = every-at R.M (λ (x : ℕ). not (item_names t (s.item x))) rest.1 in
    record {
      over = over-stage (s.session t).stage stage.0;
      no_up = λ z. route-none true t z s.mailbox rest.0;
      no_down = λ z. route-none false t z s.mailbox rest.0;
      not-queued = λ z lo hi. not-member-occurs t (s.item z).queue (not_named t (s.item z) (items z lo hi)).1;
      not-holder = λ z lo hi. (not_named t (s.item z) (items z lo hi)).0;
    }

-- the links of a reopening
pub reopen-linked : (R : Rules) (s : State) (t z : ℕ) → 1 ≤ z → z ≤ R.M → Linked (pair_view s t z)
    → LinkedAnswer R t z (s.item z) (up_route s t z) (down_route s t z) (s.session t) (on_reopen_call R s t)
unfolding on_reopen_call sent_to count_kind count_behind
reopen-linked R s t z lo hi h =
    by-test (LinkedAnswer R t z (s.item z) (up_route s t z) (down_route s t z) (s.session t)) (may_reopen R s t)
    (λ e. let u = unnamed R s t e in rw (u.no_up z, u.no_down z) (omega (arith, u.not-queued z lo hi, ap bit (u.not-holder z lo hi)))) (λ _. h)
