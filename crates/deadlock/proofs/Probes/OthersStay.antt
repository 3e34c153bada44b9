-- What a session's step leaves of the clauses on probes: the other sessions keep theirs, and its own follow from a few facts.
use mathlib.Core.Path.{◌∙◌, ◌≡◌, ap, sym}
use mathlib.Core.Bool.{true}
use mathlib.Core.List.{◌++◌, ◌∷◌, List}
use mathlib.Core.Logic.{◌≢◌, ◌⊎◌, inl, inr}
use Prim.Native.Nat.{◌≤◌, ℕ}
use native.Mathlib.Omega.{arith}
use Rattle.lists.proofs.Tests.{same?}
use Rattle.deadlock.specs.Lists.{updated}
use Rattle.deadlock.specs.Machine.{is_live, Message, Rules, Sends, Session, SessionStep}
use Rattle.message.specs.Kind
use Rattle.deadlock.specs.Counts.{behind_request, cleans_of, count_kind, EachBehind, Every, sent_to}
use Rattle.deadlock.specs.World.{Live, Mail, MustAvoidDown, Passed, Probes, Queued, stage_of, TellsDown, TellsUp, ToldOf, World}
use Rattle.deadlock.proofs.Laws.Lists.{updated-other, updated-same}
use Rattle.deadlock.proofs.Laws.Counts.{behind-same, every-tail, ofProbe-map}
use Rattle.deadlock.proofs.Victims.OneOnCycle.{came-map, told-map}

-- the world after a session's step, with the messages that are then on their way
abbrev pub worldAfterSession : World → ℕ → Session → Mail → World
worldAfterSession w t r mail = record { session = updated w.session t r; item = w.item; up = mail.up; down = mail.down; total = mail.total }

-- session t sends `out`
pub record SessionSends (w : World) (t : ℕ) (out : Sends) (mail : Mail) : Type 0 where
  pub up_at : (z : ℕ) → mail.up t z ≡ w.up t z ++ sent_to z out
  pub up-off : (a z : ℕ) → t ≢ a → mail.up a z ≡ w.up a z
  pub down-off : (a z : ℕ) → t ≢ a → mail.down a z ≡ w.down a z

-- a session takes a message of item x
pub record SessionTakes (w : World) (t x : ℕ) (m : Message) (mail : Mail) : Type 0 where
  pub head : w.down t x ≡ m ∷ mail.down t x
  pub down-else : (z : ℕ) → x ≢ z → mail.down t z ≡ w.down t z

-- what is left of the messages to the session
module _ {w : World} {t x : ℕ} {m : Message} {mail : Mail} (hr : SessionTakes w t x m mail) where
  pub every-taken : {Q : Message → Type 0} (z : ℕ) → Every Q (w.down t z) → Every Q (mail.down t z)
  every-taken {Q} z h = elim (same? x z) [
    | yes q ↦ let k : Every Q (w.down t x) = rw q h in let k2 : Every Q (mail.down t x) = every-tail (rw hr.head at k) in rw (← q) k2
    | no q ↦ rw (hr.down-else z q) h
  ]

  pub cleansOf-taken : (v z : ℕ) → cleans_of v (mail.down t z) ≤ cleans_of v (w.down t z)
  unfolding cleans_of
  cleansOf-taken v z = elim (same? x z) [ yes q ↦ rw (← q) (omega (arith, ap (cleans_of v) hr.head)) | no q ↦ omega (arith, ap (cleans_of v) (hr.down-else z q)) ]

module _ (R : Rules) {w : World} {t : ℕ} (o : SessionStep) {mail : Mail} (acts : SessionSends w t o.sends mail) where
  abbrev pub after : World
  after = worldAfterSession w t o.after mail

  pub stage-own : stage_of after t ≡ o.after.stage
  stage-own = ap (λ (r : Session). r.stage) (updated-same w.session t o.after)

  pub stage-other : (a : ℕ) → t ≢ a → stage_of after a ≡ stage_of w a
  stage-other a ne = ap (λ (r : Session). r.stage) (updated-other w.session t o.after a ne)

  -- the clauses on the probes of the session itself, after its step
  pub record OwnProbes : Type 0 where
    pub own-stored : is_live o.after.stage ≡ true → (i : ℕ) → o.after.stored i ≢ 0 → ToldOf R after i (o.after.stored i) t (λ v. Passed R after v t)
    pub own-up : (z : ℕ) → 1 ≤ z → z ≤ R.M → Queued w t z → EachBehind (TellsUp R after t) (w.up t z ++ sent_to z o.sends)
    pub own-behind-request : (z : ℕ) → 1 ≤ z → z ≤ R.M → EachBehind (TellsUp R after t) (behind_request (w.up t z ++ sent_to z o.sends))
    pub own-down : is_live o.after.stage ≡ true → (z : ℕ) → EachBehind (TellsDown R after t z) (mail.down t z)

  pub session-probes : ((v a : ℕ) → t ≢ a → Passed R after v a → Passed R w v a) → OwnProbes → Probes R w → Probes R after
  session-probes f own h = record {
    stored-true = λ a l. stored_of a (same? t a) l;
    up-true = λ a z lo hi s. up_of a z lo hi s (same? t a);
    up-true-behind-request = λ a z lo hi. behind-request-of a z lo hi (same? t a);
    down-true = λ a z l. down-of a z (same? t a) l;
  }
    where
      told : {i j a : ℕ} {B B' : ℕ → Type 0} → ((v : ℕ) → B' v → B v) → ToldOf R w i j a B → ToldOf R after i j a B'
      told g c = told-map R w after c c.path g

      own-live : (a : ℕ) → t ≡ a → Live after a → is_live o.after.stage ≡ true
      own-live a q l = sym (ap is_live stage-own) ∙ (ap (λ (u : ℕ). is_live (stage_of after u)) q ∙ l)

      off-live : (a : ℕ) → t ≢ a → Live after a → Live w a
      off-live a q l = sym (ap is_live (stage-other a q)) ∙ l

      stored_of : (a : ℕ) → Dec (t ≡ a) → Live after a → (i : ℕ) → (after.session a).stored i ≢ 0
          → ToldOf R after i ((after.session a).stored i) a (λ v. Passed R after v a)
      stored_of a (yes q) l i ne = rw (← q, updated-same) (own.own-stored (own-live a q l) i (λ z. ne (ap (λ (u : ℕ). (after.session u).stored i) (sym q) ∙ (ap (λ (r : Session). r.stored i) (updated-same w.session t o.after) ∙ z))))
      stored_of a (no q) l i ne =
          let e = ap (λ (r : Session). r.stored i) (updated-other w.session t o.after a q) in
          rw (updated-other w.session t o.after a q) (told (λ v. f v a q) (h.stored-true a (off-live a q l) i (λ z. ne (e ∙ z))))

      up_of : (a z : ℕ) → 1 ≤ z → z ≤ R.M → Queued w a z → Dec (t ≡ a) → EachBehind (TellsUp R after a) (mail.up a z)
      up_of a z lo hi s (yes q) = rw (← q, acts.up_at z) (own.own-up z lo hi (rw q s))
      up_of a z lo hi s (no q) =
          rw (acts.up-off a z q) (behind-same (count_kind Kind.clean (w.up a z)) (λ m r b. ofProbe-map (λ i j. told (λ v k. (k.0, f v a q k.1))) m) (omega arith) (h.up-true a z lo hi s))

      behind-request-of : (a z : ℕ) → 1 ≤ z → z ≤ R.M → Dec (t ≡ a) → EachBehind (TellsUp R after a) (behind_request (mail.up a z))
      behind-request-of a z lo hi (yes q) = rw (← q, acts.up_at z) (own.own-behind-request z lo hi)
      behind-request-of a z lo hi (no q) =
          rw (acts.up-off a z q) (behind-same (count_kind Kind.clean (behind_request (w.up a z))) (λ m r b. ofProbe-map (λ i j. told (λ v k. (k.0, f v a q k.1))) m) (omega arith) (h.up-true-behind-request a z lo hi))

      down-of : (a z : ℕ) → Dec (t ≡ a) → Live after a → EachBehind (TellsDown R after a z) (mail.down a z)
      down-of a z (yes q) l = rw (← q) (own.own-down (own-live a q l) z)
      down-of a z (no q) l =
          let old = h.down-true a z (off-live a q l) in
          let g : EachBehind (TellsDown R after a z) (w.down a z) = behind-same (count_kind Kind.clean (w.down a z)) (λ m r b. ofProbe-map (λ i j c. came-map R w after c c.path c.stands c.held (avoid-back a z q r)) m) (omega arith) old in
          rw (acts.down-off a z q) g
        where
          avoid-back : (a z : ℕ) → t ≢ a → (r : List Message) (v : ℕ) → MustAvoidDown R after a z r v → MustAvoidDown R w a z r v
          avoid-back a z q r v k = (k.0, cases k.1)
            where
              cases : Passed R after v a ⊎ (1 ≤ cleans_of v (mail.down a z)) → Passed R w v a ⊎ (1 ≤ cleans_of v (w.down a z))
              cases (inl p) = inl (f v a q p)
              cases (inr p) = inr (omega (arith, ap (cleans_of v) (acts.down-off a z q)))
