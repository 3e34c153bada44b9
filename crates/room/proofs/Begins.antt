-- A call at an empty mailbox begins one of the phases.
use mathlib.Core.Path.{◌≡◌, ap, refl, subst, sym}
use mathlib.Core.Bool.{false, true}
use mathlib.Core.List.{[], ◌++◌, ◌∷◌, List}
use mathlib.Core.Option.{some}
use mathlib.Core.Logic.{inl, inr}
use Prim.Native.Nat.{◌+◌, ◌≤◌, suc, ℕ}
use native.Mathlib.Omega.{arith}
use lib.Dec.{eqb}
use lib.ListN.{length}
use borrow.Author.Tests.{eq-eqb, eqb-true, ne_eqb}
use Rattle.lists.proofs.Tests.{by-test, eqb_self}
use Rattle.deadlock.specs.Lists.{one_to, updated}
use Rattle.deadlock.specs.Machine.{after_answer, after_session, Answer, Call, deliver_to_item, deliver_to_session, Entry, from_session, growing, held_by, item_takes, Laws, may_reopen, move, of_machine, on_release_call, on_reopen_call, on_request_call, probes_from, release, release_call, release_held, releasing, reopen, request, request_call, rolled_back, Rules, Sends, Session, SessionStep, session_takes, shrinking, Stage, State, stored_probes, take_first, up, victim, waiting}
use Rattle.deadlock.specs.Counts.{Every, every-cons, every-nil}
use Rattle.deadlock.specs.Walks.{rest, Walk}
use Rattle.deadlock.specs.World.{Edge, is_victim, is_waiting}
use Rattle.deadlock.specs.Invariant.{Invariant, world_of}
use Rattle.deadlock.proofs.Laws.Entries.{entry, every-fromSession}
use Rattle.deadlock.proofs.Laws.Stages.{seen-facts}
use Rattle.deadlock.proofs.Laws.Walks.{walk-still}
use Rattle.deadlock.proofs.Links.Kept.{item-high, item-low, session-high, session-low}
use Rattle.deadlock.proofs.Settled.{none-cycle}
use Rattle.bound.specs.Potential.{mail_sum}
use Rattle.bound.proofs.Sums.{length-one_to}
use Rattle.room.specs.Capacity.{capacity_bound}
use Rattle.room.specs.Snapshot.{of_member, of_victim, Snapshot, Sound}
use Rattle.room.specs.Weights.{entry_weight, mail_weight, weight}
use Rattle.room.specs.Phases.{Allowed, asked, Asked, clearing, empty, Phase, ProbeFrom, probe_from, Tidy}
use Rattle.room.proofs.Sending.{every-stored}
use Rattle.room.proofs.Holders.{held-now}
use Rattle.room.proofs.ClearingBegins.{clears_from, release-light}
use Rattle.room.proofs.Rest.{none-victim}

-- what t stores, as probes on their way
stored-few : (t x : ℕ) (f : ℕ → ℕ) (l : List ℕ) → length (from_session t (probes_from f x l)) ≤ length l
unfolding from_session probes_from
stored-few t x f [] = omega arith
stored-few t x f (i ∷ l) =
    by-test (λ (q : Sends). length (from_session t q) ≤ suc (length l)) (eqb (f i) 0) (λ _. omega (arith, stored-few t x f l)) (λ _. omega (arith, stored-few t x f l))

module _ (R : Rules) (L : Laws R) (s : State) (k : Invariant R s) (d : Tidy R s) (e : s.mailbox ≡ []) where
  -- ---- a request
  asks : (t x : ℕ) → 1 ≤ x → x ≤ R.M
      → Asked R (after_session s t s.mailbox
      (record { after = record { stage = waiting x; held = (s.session t).held; stored = (s.session t).stored }; sends = (x, up request) ∷ stored_probes R (s.session t) x }))
  unfolding after_session from_session stored_probes updated
  asks t x lo hi = record {
    session = t;
    item = x;
    probes = from_session t (probes_from (s.session t).stored x (one_to R.S));
    mail = rw e refl;
    all-probes = every-fromSession t (every-stored (λ y m. ProbeFrom t x (entry true t y m)) (s.session t).stored x (one_to R.S) (λ i j. probe_from));
    few = omega (arith, stored-few t x (s.session t).stored (one_to R.S), length-one_to R.S);
    stage = rw (eqb_self t) refl;
    no_victim = λ u. by-test (λ (r : Session). is_victim r.stage ≡ 0) (eqb t u) (λ _. refl) (λ _. none-victim R L s k e d u);
    has_no_cycle = none-cycle R L s k e;
  }

  -- ---- a release
  module _ (t x : ℕ) (tlo : 1 ≤ t) (thi : t ≤ R.S) (lo : 1 ≤ x) (hi : x ≤ R.M) (held : (s.session t).held x ≡ true) (idle : is_waiting (s.session t).stage + is_victim (s.session t).stage ≡ 0) where
    abbrev p : Snapshot
    p = record { state = s; victim = t; member = λ u. eqb u t; far = λ _. 0; closing = 0 }

    abbrev E : ℕ → ℕ → Type 0
    E = Edge R (world_of s)

    -- whoever awaits nothing stands in no queue
    still : (b : ℕ) → E t b → ⊥
    still b w = let f = k.core.links.linked t w.item w.low w.high in omega (arith, w.stands, seen-facts (s.session t).stage w.item)

    sound : Sound R p
    sound = record {
      sessions = omega arith;
      invariant = k;
      no_own-probe = d.own-stored;
      no_victim = none-victim R L s k e d;
      member-reached = λ u m. subst (Walk E t) (sym (eqb-true u t m)) rest;
      reached-member = λ u w. eq-eqb u t (walk-still still w);
      cycle_or_still = inr still;
      one-cycle = λ u c. absurd (none-cycle R L s k e u c);
      most-junior = λ u m. inl (eqb-true u t m);
      far-falls = λ u h m w. absurd (still h (subst (λ (z : ℕ). E z h) (eqb-true u t m) w));
      closes = λ u y ylo yhi m q h. absurd (still t (subst (λ (z : ℕ). E z t) (eqb-true u t m) (record { item = y; low = ylo; high = yhi; stands = q; held = h })));
    }

    holds : (s.item x).holder ≡ some t
    holds = held-now R s k t x lo hi held

    is_of_member : of_member p x ≡ true
    unfolding of_member
    is_of_member = rw holds (eqb_self t)

    is_of_victim : of_victim p x ≡ true
    unfolding of_victim held_by
    is_of_victim = rw holds (eqb_self t)

    abbrev sent : Entry
    sent = entry true t x (up release)

    abbrev released : SessionStep
    released = record { after = record { stage = releasing shrinking; held = updated (s.session t).held x false; stored = λ (_ : ℕ). 0 }; sends = (x, up release) ∷ [] }

    releases : Phase R (after_session s t s.mailbox released)
    unfolding from_session of_victim mail_weight mail_sum weight capacity_bound
    releases = clearing p sound (clears_from R p (none-victim R L s k e d) s.mailbox released (omega arith)
        (subst (λ (m : List Entry). Every (Allowed p) (m ++ sent ∷ [])) (sym e) (every-cons (is_of_member, (refl, is_of_victim)) every-nil))
        (omega (
          arith,
          ap (λ (m : List Entry). mail_sum (entry_weight R p) (m ++ sent ∷ [])) e,
          release-light R L p sound x lo hi is_of_member (ne_eqb x 0 (λ z. absurd (omega arith))),
        )))

  -- ---- each call
  request-called : (t x : ℕ) → 1 ≤ x → x ≤ R.M → (a : Stage) → Phase R (after_answer R s t (on_request_call R x (s.session t) a))
  unfolding after_answer on_request_call
  request-called t x lo hi growing = by-test (λ (b : Answer). Phase R (after_answer R s t b)) ((s.session t).held x) (λ _. empty e) (λ _. asked (asks t x lo hi))
  request-called t x lo hi (waiting y) = empty e
  request-called t x lo hi (victim p y) = empty e
  request-called t x lo hi (releasing p) = empty e

  module _ (t x : ℕ) (tlo : 1 ≤ t) (thi : t ≤ R.S) (lo : 1 ≤ x) (hi : x ≤ R.M) where
    release-held : is_waiting (s.session t).stage + is_victim (s.session t).stage ≡ 0 → Phase R (after_answer R s t (release_held R x (s.session t)))
    unfolding after_answer release_held
    release-held idle = by-test (λ (b : Answer). Phase R (after_answer R s t b)) ((s.session t).held x)
        (λ h. releases t x tlo thi lo hi h idle) (λ _. empty e)

    release-called : (a : Stage) → (s.session t).stage ≡ a → Phase R (after_answer R s t (on_release_call R x (s.session t) a))
    unfolding after_answer on_release_call
    release-called growing q = release-held (omega (arith, ap is_waiting q, ap is_victim q))
    release-called (waiting y) q = empty e
    release-called (victim p y) q = empty e
    release-called (releasing shrinking) q = release-held (omega (arith, ap is_waiting q, ap is_victim q))
    release-called (releasing rolled_back) q = empty e

  reopen-called : (t : ℕ) → Phase R (after_answer R s t (on_reopen_call R s t))
  unfolding after_answer on_reopen_call after_session from_session
  reopen-called t = by-test (λ (b : Answer). Phase R (after_answer R s t b)) (may_reopen R s t) (λ _. empty (rw e refl)) (λ _. empty e)

  pub phase-begins : (c : Call) → of_machine R c ≡ true → Phase R (move R s c)
  unfolding move of_machine take_first item_takes session_takes
  phase-begins (request_call t x) o = request-called t x (item-low R t x o) (item-high R t x o) (s.session t).stage
  phase-begins (release_call t x) o = release-called t x (session-low R t x o) (session-high R t x o) (item-low R t x o) (item-high R t x o) (s.session t).stage refl
  phase-begins (deliver_to_item t x) o = rw e (empty refl)
  phase-begins (deliver_to_session t x) o = rw e (empty refl)
  phase-begins (reopen t) o = reopen-called t
