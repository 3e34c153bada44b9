-- Coverage is kept by the calls of a session.
use mathlib.Core.Path.{◌≡◌, ap, refl, subst, sym}
use mathlib.Core.List.{◌++◌, ◌∷◌, List}
use mathlib.Core.Logic.{◌≢◌, ◌⊎◌, inl, inr}
use Prim.Native.Nat.{◌+◌, ◌≤◌, ℕ}
use native.Mathlib.Omega.{arith}
use Rattle.lists.proofs.Tests.{by-test, eqb_self, same?}
use borrow.Author.Tests.{ne_eqb}
use Rattle.deadlock.specs.Lists.{one_to}
use Rattle.deadlock.specs.Machine.{accepted, Answer, growing, is_live, Laws, Message, on_release_call, on_request_call, probes_from, refused, release_held, releasing, request, rolled_back, Rules, Sends, SessionStep, shrinking, Stage, stored_probes, up, victim, waiting}
use Rattle.message.specs.Kind
use Rattle.deadlock.specs.Counts.{behind_request, count_kind, fresh_probes, sent_to, unless_cleaned}
use Rattle.deadlock.specs.Links.{awaits}
use Rattle.deadlock.specs.Walks.{FirstApart}
use Rattle.deadlock.specs.World.{Edge, is_victim, is_waiting, Known, Mail, Probes, stage_of, VictimIn, World}
use Rattle.deadlock.specs.Coverage.{AbortPending, Coverage, probe_reaches, stores}
use Rattle.deadlock.proofs.Laws.Lists.{occurs-oneTo, updated-same}
use Rattle.deadlock.proofs.Laws.Routes.{countKind-append}
use Rattle.deadlock.proofs.Laws.Counts.{behindRequest-new, cleansSent-probesFrom}
use Rattle.deadlock.proofs.Probes.OthersStay.{SessionSends, worldAfterSession}
use Rattle.deadlock.proofs.Coverage.Sums.{freshProbes-no-clean, isStored-or, no-clean-sent, no-request-storedProbes, probeOf-some, probesBy-storedProbes}
use Rattle.deadlock.proofs.Coverage.KeptAtSession.{growing-not-queued, initiator-of, no-probe-coverage, plain-coverage, RangeIn}

module _ {R : Rules} (L : Laws R) {w : World} (known : Known R w) (tr : Probes R w) (cov : Coverage R w) (rg : RangeIn R w) (t : ℕ) (mail : Mail) where
  abbrev pub CallCovered : Answer → Type 0
  CallCovered refused = Unit {0}
  CallCovered (accepted o) = SessionSends w t o.sends mail → ((z : ℕ) → mail.down t z ≡ w.down t z) → Coverage R (worldAfterSession w t o.after mail)

  pub request-call-covered : (1 ≤ t) × (t ≤ R.S) → (x : ℕ) (s : Stage) → (w.session t).stage ≡ s → CallCovered (on_request_call R x (w.session t) s)
  unfolding on_request_call stored_probes probe_reaches sent_to count_kind behind_request
  request-call-covered tr0 x growing e = by-test CallCovered ((w.session t).held x) (λ _. tt) (λ _ acts q. asked-cover acts q)
    where
      out : Sends
      out = (x, up request) ∷ probes_from (w.session t).stored x (one_to R.S)

      o : SessionStep
      o = record { after = record { stage = waiting x; held = (w.session t).held; stored = (w.session t).stored }; sends = out }

      no-here : (z : ℕ) → awaits (stage_of w t) z ≡ 0
      no-here z = ap (λ (b : Stage). awaits b z) e

      asked-cover : SessionSends w t out mail → ((z : ℕ) → mail.down t z ≡ w.down t z) → Coverage R (worldAfterSession w t o.after mail)
      asked-cover acts q = plain-coverage L known tr cov rg t mail o acts (λ y. ap (count_kind Kind.clean) (q y)) (λ _. ap is_live e) (λ _ z k. k)
          (λ _ i z. probeOf-some (fresh_probes i (w.down t z) + unless_cleaned (count_kind Kind.clean (w.down t z)) (stores w t i)) _
          (rw updated-same (omega (arith, ap (λ (d : List Message). fresh_probes i d + unless_cleaned (count_kind Kind.clean d) (stores w t i)) (q z)))))
          (λ z h i lo hi s. absurd ((growing-not-queued L known tr cov rg t mail z lo hi (no-here z)).0 s))
          (λ z i lo hi p. requested z i (growing-not-queued L known tr cov rg t mail z lo hi (no-here z)).1 p (same? x z)) (λ i v. absurd (omega arith))
          (λ z h lo hi s. absurd ((growing-not-queued L known tr cov rg t mail z lo hi (no-here z)).0 s)) declared-still
        where
          declared-still : FirstApart (Edge R w) t t → VictimIn w t ⊎ AbortPending R w t
              → (1 ≤ is_victim (waiting x)) ⊎ ((1 ≤ is_waiting (waiting x)) × (y : ℕ) × (1 ≤ count_kind Kind.abort (mail.down t y)))
          declared-still g (inl v) = absurd (omega (arith, v, ap is_victim e))
          declared-still g (inr p) = absurd (omega (arith, p.waits, ap is_waiting e))

          probes : Sends
          probes = probes_from (w.session t).stored x (one_to R.S)

          requested : (z i : ℕ) → count_kind Kind.request (w.up t z) ≡ 0 → 1 ≤ count_kind Kind.request (w.up t z ++ sent_to z out) → Dec (x ≡ z)
              → stores w t i ≤ fresh_probes i (behind_request (w.up t z ++ sent_to z out))
          requested z i z0 p (no k) = absurd (omega (
            arith,
            p,
            z0,
            countKind-append Kind.request (w.up t z) (sent_to z out),
            no-request-storedProbes (w.session t).stored x z (one_to R.S),
            ap (count_kind Kind.request) (let u : sent_to z out ≡ sent_to z probes = rw (ne_eqb z x (λ y. k (sym y))) in u),
          ))
          requested z i z0 p (yes k) = rw (behindRequest-new (w.up t z) (sent_to z out) z0) (subst (λ (b : ℕ). stores w t i ≤ fresh_probes i (behind_request (sent_to b out))) k (rw eqb_self (cases (isStored-or (w.session t).stored i))))
            where
              cases : ((w.session t).stored i ≢ 0) ⊎ (stores w t i ≡ 0) → stores w t i ≤ fresh_probes i (sent_to x probes)
              cases (inr d) = omega (arith, d)
              cases (inl ne) =
                  let r = initiator-of L known tr cov rg t mail i tr0 (ap is_live e) ne in
                  omega (
                    arith,
                    freshProbes-no-clean i (sent_to x probes) (no-clean-sent x probes (λ v. cleansSent-probesFrom v (w.session t).stored x (one_to R.S))),
                    probesBy-storedProbes (w.session t).stored x i (one_to R.S) (omega (arith, occurs-oneTo R.S i r.0 r.1)),
                  )
  request-call-covered tr0 x (waiting y) e = tt
  request-call-covered tr0 x (victim p y) e = tt
  request-call-covered tr0 x (releasing p) e = tt

  release-held-covered : (x : ℕ) → is_victim (stage_of w t) ≡ 0 → is_waiting (stage_of w t) ≡ 0 → CallCovered (release_held R x (w.session t))
  unfolding release_held
  release-held-covered x vz tz = by-test CallCovered ((w.session t).held x) (λ _ acts q. no-probe-coverage L known tr cov rg t mail _ acts refl (λ _. refl) (λ _. declared-still)) (λ _. tt)
    where
      declared-still : VictimIn w t ⊎ AbortPending R w t
          → (1 ≤ is_victim (releasing shrinking)) ⊎ ((1 ≤ is_waiting (releasing shrinking)) × (y : ℕ) × (1 ≤ count_kind Kind.abort (mail.down t y)))
      declared-still (inl v) = absurd (omega (arith, v, vz))
      declared-still (inr p) = absurd (omega (arith, p.waits, tz))

  pub release-call-covered : (x : ℕ) (s : Stage) → (w.session t).stage ≡ s → CallCovered (on_release_call R x (w.session t) s)
  unfolding on_release_call
  release-call-covered x growing e = release-held-covered x (ap is_victim e) (ap is_waiting e)
  release-call-covered x (waiting y) e = tt
  release-call-covered x (victim p y) e = tt
  release-call-covered x (releasing shrinking) e = release-held-covered x (ap is_victim e) (ap is_waiting e)
  release-call-covered x (releasing rolled_back) e = tt
