-- The theorem: where sessions call at an empty mailbox only, the messages always fit.
use mathlib.Core.Path.{◌≡◌, ap, refl}
use mathlib.Core.Bool.{Bool, false, false≢true, true}
use mathlib.Core.List.{[], ◌∷◌, List}
use Prim.Native.Nat.{◌≤◌, ℕ}
use native.Mathlib.Omega.{arith}
use lib.ListN.{length}
use Rattle.lists.proofs.Tests.{by-test}
use Rattle.deadlock.specs.Machine.{abort, after_item, after_session, Call, clean, deliver_to_item, deliver_to_session, down, Downward, Entry, grant, item_receives, item_takes, Laws, Message, move, no_entry, of_machine, probe, rebroadcast, release, release_call, reopen, request, request_call, resend, Rules, run, session_receives, session_takes, start, State, take_first, Taken, taken, up, Upward, withdraw, withdrawn}
use Rattle.deadlock.specs.Invariant.{Invariant}
use Rattle.deadlock.proofs.Links.Kept.{item-high, item-low, session-high, session-low}
use Rattle.deadlock.proofs.InvariantKept.{invariant, invariant-move}
use Rattle.bound.specs.Potential.{mail_sum}
use Rattle.bound.specs.Statement.{delivers, is_taken}
use Rattle.room.specs.Capacity.{capacity_bound}
use Rattle.room.specs.Snapshot.{Snapshot, Sound}
use Rattle.room.specs.Weights.{downward_weight, mail_weight, release_weight, resend_weight, upward_weight, weight}
use Rattle.room.specs.Phases.{asked, Clearing, clearing, empty, Orderly, Phase, Probing, probing, Tidy}
use Rattle.room.specs.Statement.{calls, goes_on, Reached, Statement, starts}
use Rattle.room.proofs.Tidy.{tidy-move, tidy-start}
use Rattle.room.proofs.AtItem.{item_clears}
use Rattle.room.proofs.AtSession.{session_clears}
use Rattle.room.proofs.Begins.{phase-begins}
use Rattle.room.proofs.Probing.{asked-goes-on, item-probes, session-probes}

-- ---- every message weighs something
module _ (R : Rules) (p : Snapshot) (some : 1 ≤ R.S) where
  resend-some : (t : ℕ) → 1 ≤ resend_weight R p t
  unfolding resend_weight
  resend-some t = by-test (λ (n : ℕ). 1 ≤ n) (p.member t) (λ _. some) (λ _. omega arith)

  upward_some : (x : ℕ) (m : Upward) → 1 ≤ upward_weight R p x m
  unfolding release_weight
  upward_some x request = omega arith
  upward_some x release = omega arith
  upward_some x rebroadcast = omega arith
  upward_some x withdraw = omega arith

  downward_some : (t : ℕ) (m : Downward) → 1 ≤ downward_weight R p t m
  downward_some t grant = omega arith
  downward_some t resend = resend-some t
  downward_some t withdrawn = omega arith

  weight-some : (d : Bool) (t x : ℕ) (m : Message) → 1 ≤ weight R p d t x m
  unfolding weight
  weight-some d t x (up m) = upward_some x m
  weight-some d t x (down m) = downward_some t m
  weight-some d t x (probe i j) = omega arith
  weight-some d t x (clean v i) = omega arith
  weight-some d t x (abort v i) = omega arith

  length-weight : (l : List Entry) → length l ≤ mail_weight R p l
  unfolding mail_weight mail_sum
  length-weight [] = omega arith
  length-weight (e ∷ l) = omega (arith, weight-some e.to_item e.session e.item e.message, length-weight l)

module _ (R : Rules) (L : Laws R) where
  -- ---- in each phase the messages fit
  phase-fits : (s : State) → Phase R s → length s.mailbox ≤ capacity_bound R.S R.M
  unfolding capacity_bound
  phase-fits s (empty e) = omega (arith, ap (λ (l : List Entry). length l) e)
  phase-fits s (asked a) = omega (arith, ap (λ (l : List Entry). length l) a.mail, a.few)
  phase-fits s (probing a) = omega (arith, a.few)
  phase-fits s (clearing p k c) = omega (arith, c.light, length-weight R p k.sessions s.mailbox)

  -- ---- each delivery leads on
  module _ (s : State) (k : Invariant R s) (d : Tidy R s) where
    none-there : s.mailbox ≡ [] → (c : Call) → delivers s c ≡ true → ⊥
    unfolding delivers take_first
    none-there e (request_call t x) h = false≢true h
    none-there e (release_call t x) h = false≢true h
    none-there e (deliver_to_item t x) h = false≢true (rw e at h)
    none-there e (deliver_to_session t x) h = false≢true (rw e at h)
    none-there e (reopen t) h = false≢true h

    -- of a message at an item, and of one at a session
    module _ (P : State → Type 0) where
      at_item : (t x : ℕ) → ((m : Message) (l : List Entry) → take_first true t x s.mailbox ≡ taken m l → P (after_item s x l (item_receives R t (s.item x) m)))
          → (o : Taken) → take_first true t x s.mailbox ≡ o → is_taken o ≡ true → P (item_takes R s t x o)
      unfolding item_takes
      at_item t x f no_entry e h = absurd (false≢true h)
      at_item t x f (taken m l) e h = f m l e

      at-session : (t x : ℕ) → ((m : Message) (l : List Entry) → take_first false t x s.mailbox ≡ taken m l → P (after_session s t l (session_receives R t x (s.session t) m)))
          → (o : Taken) → take_first false t x s.mailbox ≡ o → is_taken o ≡ true → P (session_takes R s t x o)
      unfolding session_takes
      at-session t x f no_entry e h = absurd (false≢true h)
      at-session t x f (taken m l) e h = f m l e

    probes-go-on : Probing R s → (c : Call) → of_machine R c ≡ true → delivers s c ≡ true → Phase R (move R s c)
    unfolding move of_machine delivers
    probes-go-on a (request_call t x) o h = absurd (false≢true h)
    probes-go-on a (release_call t x) o h = absurd (false≢true h)
    probes-go-on a (deliver_to_item t x) o h =
        at_item (Phase R) t x (λ m l e. probing (item-probes R s a t x m l e)) (take_first true t x s.mailbox) refl h
    probes-go-on a (deliver_to_session t x) o h =
        at-session (Phase R) t x (session-probes R L s k d a t x (session-low R t x o) (session-high R t x o))
        (take_first false t x s.mailbox) refl h
    probes-go-on a (reopen t) o h = absurd (false≢true h)

    clears_on : (p : Snapshot) → Sound R p → Clearing p R s → (c : Call) → of_machine R c ≡ true → delivers s c ≡ true → Clearing p R (move R s c)
    unfolding move of_machine delivers
    clears_on p q a (request_call t x) o h = absurd (false≢true h)
    clears_on p q a (release_call t x) o h = absurd (false≢true h)
    clears_on p q a (deliver_to_item t x) o h =
        at_item (Clearing p R) t x (item_clears R L p q s k a t x (item-low R t x o) (item-high R t x o)) (take_first true t x s.mailbox) refl h
    clears_on p q a (deliver_to_session t x) o h =
        at-session (Clearing p R) t x (session_clears R L p q s k d a t x (item-low R t x o) (item-high R t x o)) (take_first false t x s.mailbox) refl h
    clears_on p q a (reopen t) o h = absurd (false≢true h)

    phase_goes_on : Phase R s → (c : Call) → of_machine R c ≡ true → delivers s c ≡ true → Phase R (move R s c)
    phase_goes_on (empty e) c o h = absurd (none-there e c h)
    phase_goes_on (asked a) c o h = asked-goes-on R s k d a c h
    phase_goes_on (probing a) c o h = probes-go-on a c o h
    phase_goes_on (clearing p q a) c o h = clearing p q (clears_on p q a c o h)

  -- ---- every reached state
  begins : Orderly R (start R)
  unfolding run start
  begins = record { invariant = invariant R L (λ _ _. true) []; tidy = tidy-start R; phase = empty refl }

  pub orderly : {s : State} → Reached R s → Orderly R s
  orderly starts = begins
  orderly (calls {s} r e c o) =
      let a = orderly r in record {
        invariant = invariant-move R L s a.invariant c o;
        tidy = tidy-move R L s a.invariant a.tidy c o;
        phase = phase-begins R L s a.invariant a.tidy e c o;
      }
  orderly (goes_on {s} r c o h) =
      let a = orderly r in record {
        invariant = invariant-move R L s a.invariant c o;
        tidy = tidy-move R L s a.invariant a.tidy c o;
        phase = phase_goes_on s a.invariant a.tidy a.phase c o h;
      }

pub theorem : Statement
theorem R L s r = phase-fits R L s (orderly R L r).phase
