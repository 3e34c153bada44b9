-- Every admitted call keeps the invariant; so it holds after every list of calls from the start.
use mathlib.Core.Path.{◌≡◌, ap, refl}
use mathlib.Core.Bool.{◌&&◌, ◌||◌, Bool, false, true}
use mathlib.Core.List.{[], ◌∷◌, List}
use mathlib.Core.Option.{none, Option, some}
use Prim.Native.Nat.{◌≤◌, ℕ}
use native.Mathlib.Omega.{arith}
use lib.Dec.{eqb}
use Rattle.lists.specs.Lists.{member}
use Rattle.lists.proofs.Tests.{and_both, by-test}
use Rattle.deadlock.specs.Lists.{occurs, without}
use Rattle.deadlock.specs.Machine.{abort, accepted, after_answer, after_item, after_session, Answer, Call, clean, deliver_to_item, deliver_to_session, down, grant_or_queue, hand_over, held_by, item_drops, item_receives, ItemStep, item_takes, Laws, Message, move, no_entry, of_machine, on_release, on_request, probe, rebroadcast, refused, release, release_call, reopen, request, request_call, route, Rules, run, session_receives, session_takes, start, State, step, Stepped, take_first, Taken, taken, up, withdraw}
use Rattle.message.specs.Kind
use Rattle.deadlock.specs.Counts.{count_kind, kind_of, probe_of}
use Rattle.deadlock.proofs.Laws.Counts.{down-kinds}
use Rattle.deadlock.specs.World.{FreeIsEmpty, Known, Mail, World}
use Rattle.deadlock.specs.Coverage.{Coverage}
use Rattle.deadlock.specs.Invariant.{down_route, InRange, Invariant, mail_of, up_route, world_of}
use Rattle.deadlock.proofs.Laws.Lists.{occurs-without-le}
use Rattle.deadlock.proofs.Links.Kept.{item-high, item-low, session-down, session-high, session-low}
use Rattle.deadlock.proofs.Links.EachItemKept.{each-item-move, range-kept}
use Rattle.deadlock.proofs.Probes.PathsStay.{ItemTakes, worldAfterItem}
use Rattle.deadlock.proofs.Core.Kept.{core-move, core-start, delivered, item-takes, known_of, session-sends}
use Rattle.deadlock.proofs.Coverage.KeptAtItem.{clean-coverage, drop-coverage, empty-coverage, hand-over-coverage, probe-coverage, queued-coverage, rebroadcast-coverage, withdraw-coverage}
use Rattle.deadlock.proofs.Coverage.KeptAtSession.{RangeIn, session-covered}
use Rattle.deadlock.proofs.Coverage.KeptByCalls.{CallCovered, release-call-covered, request-call-covered}
use Rattle.deadlock.proofs.Reopening.{reopen-call-covered}
use Rattle.deadlock.proofs.Coverage.DeclaredStays.{granted-declared, probe-declares, queued-declared, released-declared, unchanged-declared, withdraw-declared}

module _ (R : Rules) (L : Laws R) (s : State) (k : Invariant R s) where
  range_of : RangeIn R (world_of s)
  range_of = record { queue = λ x a. (k.is_in_range x).queue a; holder = λ x h. (k.is_in_range x).holder h }

  -- ---- a message at an item
  module _ (t x : ℕ) (lo : 1 ≤ x) (hi : x ≤ R.M) (mail : Mail) where
    abbrev world_now : World
    world_now = world_of s

    abbrev known_now : Known R (world_of s)
    known_now = known_of R L s k.core

    abbrev CoveredItem : Message → ItemStep → Type 0
    CoveredItem m o = ItemTakes world_now t x m o.sends mail → Coverage R (worldAfterItem world_now x o.after mail)

    cover_dropped : (m : Message) → eqb (kind_of m) Kind.clean ≡ false → eqb (kind_of m) Kind.rebroadcast ≡ false → ((j : ℕ) → probe_of j m ≡ 0)
        → CoveredItem m (item_drops (s.item x))
    cover_dropped m a b c ar = drop-coverage L known_now k.coverage t x lo hi mail m ar (unchanged-declared L known_now k.core.probes k.coverage t x lo hi mail m [] ar) a b c

    cover_granted_or_queued : (o : Option ℕ) → (s.item x).holder ≡ o → CoveredItem (up request) (grant_or_queue R t (s.item x).queue o)
    unfolding grant_or_queue FreeIsEmpty
    cover_granted_or_queued none e ar = empty-coverage L known_now k.coverage t x lo hi mail (up request) _ _ ar (granted-declared L known_now k.core.probes k.coverage t x lo hi mail e ar) (k.core.idle x e)
    cover_granted_or_queued (some h) e ar = queued-coverage L known_now k.coverage t x lo hi mail h e ar (queued-declared L known_now k.core.probes k.coverage t x lo hi mail h e ar)

    cover_hands_over : (l : List ℕ) → (s.item x).queue ≡ l → CoveredItem (up release) (hand_over R l)
    unfolding hand_over occurs
    cover_hands_over [] e ar = empty-coverage L known_now k.coverage t x lo hi mail (up release) _ _ ar (released-declared L known_now k.core.probes k.coverage t x lo hi mail _ _ (λ a. omega arith) ar) refl
    cover_hands_over (b ∷ l) e ar = hand-over-coverage L known_now k.coverage t x lo hi mail (up release) (R.next b l) (without (R.next b l) (b ∷ l)) _ ar (λ a h. h)
        (released-declared L known_now k.core.probes k.coverage t x lo hi mail _ _ (λ a. omega (arith, occurs-without-le a (R.next b l) (b ∷ l), ap (occurs a) e))
        ar)

    cover_item : (m : Message) → CoveredItem m (item_receives R t (s.item x) m)
    unfolding item_receives on_request on_release
    cover_item (up request) = by-test (CoveredItem (up request)) (held_by (s.item x).holder t || member t (s.item x).queue) (λ _. cover_dropped (up request) refl refl (λ _. refl)) (λ _. cover_granted_or_queued (s.item x).holder refl)
    cover_item (up release) = by-test (CoveredItem (up release)) (held_by (s.item x).holder t) (λ _. cover_hands_over (s.item x).queue refl) (λ _. cover_dropped (up release) refl refl (λ _. refl))
    cover_item (up rebroadcast) = λ ar. rebroadcast-coverage L known_now k.coverage t x lo hi mail ar (unchanged-declared L known_now k.core.probes k.coverage t x lo hi mail (up rebroadcast) (item_receives R t (s.item x) (up rebroadcast)).sends ar)
    cover_item (up withdraw) = λ ar. withdraw-coverage L known_now k.coverage t x lo hi mail ar (withdraw-declared L known_now k.core.probes k.coverage t x lo hi mail ar)
    cover_item (down m) = cover_dropped (down m) (down-kinds m).no-clean (down-kinds m).no-rebroadcast (λ _. refl)
    cover_item (probe i j) = λ ar. probe-coverage L known_now k.coverage t x lo hi mail i j ar
        (unchanged-declared L known_now k.core.probes k.coverage t x lo hi mail (probe i j) (item_receives R t (s.item x) (probe i j)).sends ar)
        (probe-declares L known_now k.core.probes k.coverage t x lo hi mail i j ar)
    cover_item (clean v i) = λ ar. clean-coverage L known_now k.coverage t x lo hi mail v i ar (unchanged-declared L known_now k.core.probes k.coverage t x lo hi mail (clean v i) (item_receives R t (s.item x) (clean v i)).sends ar)
    cover_item (abort v i) = cover_dropped (abort v i) refl refl (λ _. refl)

  abbrev CoveredState : State → Type 0
  CoveredState r = Coverage R (world_of r)

  coverage-after-item : (t x : ℕ) → 1 ≤ x → x ≤ R.M → (p : Taken) → take_first true t x s.mailbox ≡ p → CoveredState (item_takes R s t x p)
  unfolding item_takes after_item
  coverage-after-item t x lo hi no_entry e = k.coverage
  coverage-after-item t x lo hi (taken m l) e =
      let o = item_receives R t (s.item x) m in
      cover_item t x lo hi (mail_of (after_item s x l o)) m (item-takes R L s k.core t x m l e o)

  coverage-after-session : (t x : ℕ) → 1 ≤ x → x ≤ R.M → (p : Taken) → take_first false t x s.mailbox ≡ p → CoveredState (session_takes R s t x p)
  unfolding session_takes after_session up_route down_route
  coverage-after-session t x lo hi no_entry e = k.coverage
  coverage-after-session t x lo hi (taken m l) e =
      let o = session_receives R t x (s.session t) m in
      session-covered L (known_of R L s k.core) k.core.probes k.coverage range_of t (mail_of (after_session s t l o)) x lo hi m
      (delivered R L s k.core t x m l e o).0 (delivered R L s k.core t x m l e o).1

  coverage-after-call : (t : ℕ) (a : Answer)
      → CallCovered L (known_of R L s k.core) k.core.probes k.coverage range_of t (mail_of (after_answer R s t a)) a
      → CoveredState (after_answer R s t a)
  unfolding after_answer after_session up_route down_route
  coverage-after-call t refused h = k.coverage
  coverage-after-call t (accepted o) h = h (session-sends R L s k.core t s.mailbox o (λ z. refl) (λ a z ne. (refl, refl))) (λ z. session-down s t s.mailbox o t z)

  coverage-after-move : (c : Call) → of_machine R c ≡ true → CoveredState (move R s c)
  unfolding move of_machine
  coverage-after-move (request_call t x) e = coverage-after-call t _ (request-call-covered L (known_of R L s k.core) k.core.probes k.coverage range_of t _ (session-low R t x e, session-high R t x e) x (s.session t).stage refl)
  coverage-after-move (release_call t x) e = coverage-after-call t _ (release-call-covered L (known_of R L s k.core) k.core.probes k.coverage range_of t _ x (s.session t).stage refl)
  coverage-after-move (deliver_to_item t x) e = coverage-after-item t x (item-low R t x e) (item-high R t x e) (take_first true t x s.mailbox) refl
  coverage-after-move (deliver_to_session t x) e = coverage-after-session t x (item-low R t x e) (item-high R t x e) (take_first false t x s.mailbox) refl
  coverage-after-move (reopen t) e = coverage-after-call t _ (reopen-call-covered L s (known_of R L s k.core) k.core.probes k.coverage range_of t _)

  pub invariant-move : (c : Call) → of_machine R c ≡ true → Invariant R (move R s c)
  invariant-move c e = record {
    core = core-move R L s k.core c e;
    is_in_range = each-item-move R (InRange R) (range-kept R L) s c e k.is_in_range;
    coverage = coverage-after-move c e;
  }

  pub invariant-step : (admits : State → Call → Bool) (c : Call) → Invariant R (step R admits s c).state
  unfolding step
  invariant-step admits c =
      by-test (λ (r : Stepped). Invariant R r.state) (of_machine R c && admits s c) (λ e. invariant-move c (and_both (of_machine R c) (admits s c) e).0) (λ _. k)

module _ (R : Rules) (L : Laws R) where
  invariant-start : Invariant R (start R)
  unfolding start up_route down_route route occurs count_kind
  invariant-start = record {
    core = core-start R L;
    is_in_range = λ z. record { holder = λ h e. let q : ◌≡◌ {A = ℕ} 0 1 = cc in absurd (omega arith); queue = λ a p. absurd (omega arith) };
    coverage = record {
      initiator_or_declared = λ t x h lo hi s. absurd (omega arith);
      own-probe = λ t x h lo hi s. absurd (omega arith);
      stored_forwarded = λ t x h i lo
          hi s. absurd (omega arith);
      stored-requested = λ t x i lo hi p. absurd (omega arith);
      victim-stores-none = λ t i s. absurd (omega arith);
    };
  }

  invariant-run : (admits : State → Call → Bool) (cs : List Call) (s : State) → Invariant R s → Invariant R (run R admits s cs).state
  unfolding run
  invariant-run admits [] s k = k
  invariant-run admits (c ∷ cs) s k = invariant-run admits cs (step R admits s c).state (invariant-step R L s k admits c)

  -- after every list of calls from start, under every policy
  pub invariant : (admits : State → Call → Bool) (cs : List Call) → Invariant R (run R admits (start R) cs).state
  invariant admits cs = invariant-run admits cs (start R) invariant-start
