-- A session that is reopened keeps every clause: no message and no item names it, it is no victim and it waits for nothing.
use mathlib.Core.Path.{◌∙◌, ap, refl, sym}
use mathlib.Core.Bool.{true≢false}
use mathlib.Core.List.{[]}
use mathlib.Core.Logic.{inl}
use Prim.Native.Nat.{◌≤◌, ℕ}
use native.Mathlib.Omega.{arith}
use Rattle.lists.proofs.Tests.{by-test, eqb_self}
use Rattle.deadlock.specs.Machine.{accepted, fresh, held_by, Laws, may_reopen, on_reopen_call, Rules, SessionStep, State}
use Rattle.deadlock.specs.Counts.{behind-nil, behind_request, cleans_of, cleans_sent, every-nil, sent_to}
use Rattle.deadlock.specs.World.{HolderIs, is_cleaning, is_waiting, Known, Mail, Probes, Queued, World}
use Rattle.deadlock.specs.Coverage.{Coverage}
use Rattle.deadlock.specs.Invariant.{world_of}
use Rattle.deadlock.proofs.Links.Unnamed.{Unnamed, unnamed}
use Rattle.deadlock.proofs.Probes.OthersStay.{session-probes}
use Rattle.deadlock.proofs.Probes.KeptByPlainSteps.{plain-passed-back}
use Rattle.deadlock.proofs.Victims.EdgesStay.{session-victims}
use Rattle.deadlock.proofs.Core.KeptAtSession.{CallDone}
use Rattle.deadlock.proofs.Coverage.AfterSession.{session-coverage}
use Rattle.deadlock.proofs.Coverage.KeptAtSession.{RangeIn}
use Rattle.deadlock.proofs.Coverage.KeptByCalls.{CallCovered}
use Rattle.deadlock.proofs.Count.LeavingSessions.{CallMoves, reopens}

-- it begins anew and sends nothing
abbrev reopened : SessionStep
reopened = record { after = fresh; sends = [] }

module _ {R : Rules} (L : Laws R) {w : World} (known : Known R w) (t : ℕ) (u : Unnamed R w t) where
  nowhere-queued : (z : ℕ) → 1 ≤ z → z ≤ R.M → Queued w t z → ⊥
  nowhere-queued z lo hi q = omega (arith, q, u.not-queued z lo hi)

  nowhere-holder : (z : ℕ) → 1 ≤ z → z ≤ R.M → HolderIs w z t → ⊥
  unfolding held_by
  nowhere-holder z lo hi q = true≢false (sym (rw q (eqb_self t)) ∙ u.not-holder z lo hi)

  -- ---- probes and victims
  unnamed-done : (mail : Mail) → CallDone L known t mail (accepted reopened)
  unfolding sent_to cleans_of cleans_sent behind_request
  unnamed-done mail acts q ts h = (
    session-probes R reopened acts (λ v a _. plain-passed-back L known reopened acts (λ v z. ap (cleans_of v) (sym (q z))) (omega arith) v a) (record {
      own-stored = λ _ i ne. absurd (ne refl);
      own-up = λ z lo hi s. absurd (nowhere-queued z lo hi s);
      own-behind-request = λ z lo hi. rw (u.no_up z) behind-nil;
      own-down = λ _ z. rw (q z, u.no_down z) behind-nil;
    }) h,
    session-victims L known reopened acts (record {
      mate-waits = λ v h _ _ _ _ s. absurd (omega (arith, s, ap is_waiting u.over.1));
      own-on-cycle = λ h s. absurd (omega arith);
      own-waits = λ s. absurd (omega arith);
      total-own = omega (arith, ts t, known.victims.one-clean t, ap is_cleaning u.over.1);
      total-other = λ v _. omega (arith, ts v);
      new-clean = λ v z p. absurd (omega arith);
      down_le = λ v z. omega (arith, ap (cleans_of v) (q z));
      own-aborts = λ z. rw (q z, u.no_down z) every-nil;
      own-no-request = λ s. absurd (omega arith);
      own-clean-behind = λ s. absurd (omega arith);
    }),
  )

  -- ---- coverage
  unnamed-covered : (tr : Probes R w) (cov : Coverage R w) (rg : RangeIn R w) (mail : Mail) → CallCovered L known tr cov rg t mail (accepted reopened)
  unnamed-covered tr cov rg mail acts q = session-coverage R reopened acts known.links cov (record {
    holder-own = λ a z lo hi _ e _ _. absurd (nowhere-holder z lo hi e);
    holder-forwarded = λ a z i _ lo hi _ e _ _. absurd (nowhere-holder z lo hi e);
    sender-forwarded = λ z h i _ _ _ _ _ _ _. omega arith;
    holder-initiator = λ a z _ lo hi _ e _. absurd (nowhere-holder z lo hi e);
    sender-initiator = λ z h _ _ _ _ _ _. inl (omega arith);
    declared-still = λ c _. absurd (nowhere-queued c.out.item c.out.low c.out.high c.out.stands);
    no_self = λ z lo hi s _ _. nowhere-queued z lo hi s;
    sender-requested = λ z i _ _ _. omega arith;
    sender-none = λ i _. refl;
  })

-- ---- the call
pub reopen-call : {R : Rules} (L : Laws R) (s : State) (known : Known R (world_of s)) (t : ℕ) (mail : Mail) → CallDone L known t mail (on_reopen_call R s t)
unfolding on_reopen_call
reopen-call {R} L s known t mail = by-test (CallDone L known t mail) (may_reopen R s t) (λ e. unnamed-done L known t (unnamed R s t e) mail) (λ _. tt)

pub reopen-call-covered : {R : Rules} (L : Laws R) (s : State) (known : Known R (world_of s)) (tr : Probes R (world_of s)) (cov : Coverage R (world_of s)) (rg : RangeIn R (world_of s)) (t : ℕ) (mail : Mail)
    → CallCovered L known tr cov rg t mail (on_reopen_call R s t)
unfolding on_reopen_call
reopen-call-covered {R} L s known tr cov rg t mail =
    by-test (CallCovered L known tr cov rg t mail) (may_reopen R s t) (λ e. unnamed-covered L known t (unnamed R s t e) tr cov rg mail) (λ _. tt)

-- it is neither rolled back by the call nor leaving, before or after
pub reopen-call-moves : (R : Rules) (s : State) (t : ℕ) → CallMoves (s.session t).stage (on_reopen_call R s t)
unfolding on_reopen_call
reopen-call-moves R s t = by-test (CallMoves (s.session t).stage) (may_reopen R s t) (λ e. let o = (unnamed R s t e).over in reopens o.0 o.1 refl) (λ _. tt)
