-- The theorem: whoever releases or was rolled back awaits nothing, so that no path of waits leads through it; and nothing is left that names it.
use mathlib.Core.Path.{◌≡◌, ap, refl}
use mathlib.Core.Bool.{false, true, true≢false}
use mathlib.Core.List.{[], ◌∷◌}
use mathlib.Core.Logic.{◌≢◌, ◌⊎◌, inl, inr}
use Prim.Native.Nat.{◌≤◌, ℕ}
use native.Mathlib.Omega.{arith}
use Rattle.lists.specs.Lists.{member}
use Rattle.lists.proofs.Tests.{by_answer, fails}
use Rattle.deadlock.specs.Lists.{bit, occurs}
use Rattle.deadlock.specs.Machine.{growing, held_by, is_live, is_rolled_back, item_names, none_of_session, releasing, Rules, Stage, State, victim, waiting}
use Rattle.message.specs.Kind
use Rattle.deadlock.specs.Counts.{count_kind}
use Rattle.deadlock.specs.Links.{doomed, may_release}
use Rattle.deadlock.specs.World.{Edge, is_victim, ToldOf}
use Rattle.deadlock.specs.Invariant.{down_route, Invariant, up_route, world_of}
use Rattle.deadlock.proofs.Laws.Lists.{member-occurs}
use Rattle.deadlock.proofs.Laws.Stages.{seen-facts, stage-facts}
use Rattle.deadlock.proofs.Laws.Walks.{path-has-start, path-walk-from, walk-still}
use Rattle.deadlock.proofs.Links.Unnamed.{route-none}
use Rattle.deadlock.proofs.InvariantKept.{invariant}
use Rattle.reuse.specs.Ended.{AllEnded}
use Rattle.reuse.specs.Statement.{NamedNowhere, Over, Statement}
use Rattle.reuse.proofs.Ended.{ended}

-- a session that takes no probes is a victim, or its work is over
not_live : (a : Stage) → is_live a ≡ false → (1 ≤ is_victim a) ⊎ (1 ≤ may_release a)
not_live growing e = absurd (true≢false e)
not_live (waiting y) e = absurd (true≢false e)
not_live (victim p y) e = inl (omega arith)
not_live (releasing p) e = inr (omega arith)

module _ (R : Rules) (s : State) (k : Invariant R s) (d : AllEnded R s) (t : ℕ) (over : Over (s.session t)) (none : none_of_session t s.mailbox ≡ true) where
  releases : 1 ≤ may_release (s.session t).stage
  releases = elim over [ inl e ↦ rw e (omega arith) | inr e ↦ rw e.0 (omega arith) ]

  -- no message is on its way between it and an item
  no_up : (x : ℕ) → up_route s t x ≡ []
  unfolding up_route
  no_up x = route-none true t x s.mailbox none

  no_down : (x : ℕ) → down_route s t x ≡ []
  unfolding down_route
  no_down x = route-none false t x s.mailbox none

  module _ (x : ℕ) (lo : 1 ≤ x) (hi : x ≤ R.M) where
    not-queued : occurs t (s.item x).queue ≡ 0
    not-queued = omega (arith, (k.core.links.linked t x lo hi).one_place, seen-facts (s.session t).stage x, releases)

    not-holder : held_by (s.item x).holder t ≡ false
    unfolding count_kind
    not-holder = fails (held_by (s.item x).holder t) (λ h. elim over [
      | inl e ↦ omega (arith, ap bit h, (d t).owns x lo hi (omega (arith, ap doomed e)), ap bit ((d t).holds-none x (ap (λ (a : Stage). is_rolled_back a) e)), ap (count_kind Kind.release) (no_up x))
      | inr e ↦ omega (arith, ap bit h, (k.core.links.linked t x lo hi).own-only_if, ap doomed e.0, ap bit (e.1 x), ap (count_kind Kind.release) (no_up x), ap (count_kind Kind.grant) (no_down x))
    ])

    no_item : item_names t (s.item x) ≡ false
    unfolding item_names
    no_item = rw (not-holder, fails (member t (s.item x).queue) (λ e. omega (arith, not-queued, member-occurs t (s.item x).queue e))) refl

  -- it waits for nobody
  no_edge : (b : ℕ) → Edge R (world_of s) t b → ⊥
  no_edge b e = omega (arith, e.stands, not-queued e.item e.low e.high)

  -- a stored probe tells of a path, on which it is not
  off-path : (u i j : ℕ) {B : ℕ → Type 0} → is_live (s.session u).stage ≡ true → (c : ToldOf R (world_of s) i j u B) → (a : ℕ) → 1 ≤ occurs a (u ∷ c.places) → a ≢ t
  off-path u i j l c a h q =
      let z : u ≡ t = walk-still no_edge (path-walk-from t c.path (rw q at h)) in
      omega (arith, releases, stage-facts (s.session t).stage, rw z at (ap bit l))

  no_probe : (u i : ℕ) → (s.session u).stored i ≢ 0 → (i ≢ t) × ((s.session u).stored i ≢ t)
  no_probe u i ne =
      by_answer (is_live (s.session u).stage)
      (λ l. let c = k.core.probes.stored-true u l i ne in
      let off = off-path u i ((s.session u).stored i) l c in
      (off i (path-has-start c.path), off ((s.session u).stored i) c.ranks.has-junior))
      (λ l. elim (not_live (s.session u).stage l) [
        | inl v ↦ absurd (ne (k.coverage.victim-stores-none u i v))
        | inr r ↦ absurd (ne ((d u).stores-none i r))
      ])

  named-nowhere : NamedNowhere R s t
  named-nowhere = record { no_item = no_item; no_probe = no_probe }

pub theorem : Statement
theorem R L admits cs t = named-nowhere R _ (invariant R L admits cs) (ended R L admits cs) t
