-- A step of one session keeps the clauses if it turns its stage as below, sends what is allowed, and sends no more than the message weighs that it took.
use mathlib.Core.Path.{◌∙◌, ◌≡◌, ap, refl, sym}
use mathlib.Core.Bool.{false, true}
use mathlib.Core.List.{List}
use mathlib.Core.Logic.{◌≢◌, ◌⊎◌, inl, inr}
use Prim.Native.Nat.{◌+◌, ◌≤◌, ℕ}
use native.Mathlib.Omega.{arith}
use Rattle.deadlock.specs.Machine.{after_session, Entry, growing, Message, releasing, Rules, Session, session_drops, SessionStep, Stage, State, take_first, taken, victim, waiting}
use Rattle.deadlock.specs.Counts.{every-nil}
use Rattle.deadlock.specs.Links.{may_release}
use Rattle.deadlock.specs.World.{is_victim, is_waiting}
use Rattle.deadlock.proofs.Laws.Entries.{entry, every-fromSession, every_take}
use Rattle.deadlock.proofs.Laws.Counts.{every_append}
use Rattle.deadlock.proofs.Laws.Lists.{by-updated}
use Rattle.bound.proofs.Mail.{sum-session}
use Rattle.bound.proofs.Sent.{sent_weight}
use Rattle.room.specs.Snapshot.{Snapshot, stored_count}
use Rattle.room.specs.Weights.{entry_weight, mail_weight, weight}
use Rattle.room.specs.Phases.{Allowed, Clearing, HandedOver}
use Rattle.room.proofs.Sending.{Sent}

waiting-item : (a : Stage) → 1 ≤ is_waiting a → (y : ℕ) × (a ≡ waiting y)
waiting-item growing h = absurd (omega arith)
waiting-item (waiting y) h = (y, refl)
waiting-item (victim q y) h = absurd (omega arith)
waiting-item (releasing q) h = absurd (omega arith)

module _ (R : Rules) (p : Snapshot) (s : State) (t : ℕ) where
  -- how a step turns the stage and the store of session t
  pub record Turns (r : Session) : Type 0 where
    pub victim-stays : t ≡ p.victim → 1 ≤ is_victim r.stage + may_release r.stage
    pub over-stays : may_release (s.session t).stage ≤ may_release r.stage
    pub no_other : t ≢ p.victim → is_victim r.stage ≡ 0
    pub waited : (y : ℕ) → r.stage ≡ waiting y → (s.session t).stage ≡ waiting y
    pub stores : p.member t ≡ false → 1 ≤ is_waiting r.stage → stored_count R r.stored ≤ stored_count R (s.session t).stored

  module _ (x : ℕ) (m : Message) where
    -- a step of session t on message m of item x
    pub record Fits (o : SessionStep) : Type 0 where
      pub turns : Turns o.after
      pub allowed : Sent (λ y a. Allowed p (entry true t y a)) o.sends
      pub covered : sent_weight (λ y a. weight R p true t y a) o.sends ≤ weight R p false t x m

  -- the new stage is not waiting
  pub waits_no_more : (r : Session) → is_waiting r.stage ≡ 0 → (t ≡ p.victim → 1 ≤ is_victim r.stage + may_release r.stage)
      → may_release (s.session t).stage ≤ may_release r.stage → (t ≢ p.victim → is_victim r.stage ≡ 0) → Turns r
  waits_no_more r n f g h = record {
    victim-stays = f;
    over-stays = g;
    no_other = h;
    waited = λ y q. absurd (omega (arith, n, ap is_waiting q));
    stores = λ _ w. absurd (omega (arith, n, w));
  }

  module _ (c : Clearing p R s) where
    -- the stage stays
    pub same-stage : (r : Session) → r.stage ≡ (s.session t).stage
        → (p.member t ≡ false → 1 ≤ is_waiting (s.session t).stage → stored_count R r.stored ≤ stored_count R (s.session t).stored) → Turns r
    same-stage r q h = record {
      victim-stays = λ z. rw (q, z) c.victim-stage;
      over-stays = rw q (omega arith);
      no_other = λ ne. rw q (c.only-victim t ne);
      waited = λ y z. sym q ∙ z;
      stores = λ f w. h f (rw q at w);
    }

    -- the message is dropped
    pub dropped : (x : ℕ) (m : Message) → Fits x m (session_drops (s.session t))
    unfolding sent_weight
    dropped x m = record { turns = same-stage (s.session t) refl (λ _ _. omega arith); allowed = every-nil; covered = omega arith }

    pub kept : (x : ℕ) (m : Message) (l : List Entry) → take_first false t x s.mailbox ≡ taken m l → (o : SessionStep) → Fits x m o → Clearing p R (after_session s t l o)
    unfolding after_session mail_weight
    kept x m l e o f = record {
      victim-stage =
          by-updated (λ u r. u ≡ p.victim → 1 ≤ is_victim r.stage + may_release r.stage) s.session t o.after f.turns.victim-stays
          (λ u _ q. rw q c.victim-stage) p.victim refl;
      only-victim = by-updated (λ u r. u ≢ p.victim → is_victim r.stage ≡ 0) s.session t o.after f.turns.no_other (λ u _. c.only-victim u);
      waited =
          by-updated (λ u r. (y : ℕ) → r.stage ≡ waiting y → (p.state.session u).stage ≡ waiting y) s.session t o.after
          (λ y q. c.waited t y (f.turns.waited y q)) (λ u _. c.waited u);
      queues = c.queues;
      holders = λ y. over y (c.holders y);
      stores =
          by-updated (λ u r. p.member u ≡ false → 1 ≤ is_waiting r.stage → stored_count R r.stored ≤ stored_count R (p.state.session u).stored)
          s.session t o.after
          (λ n w. omega (arith, f.turns.stores n w, c.stores t n (let z = waiting-item o.after.stage w in rw (f.turns.waited z.0 z.1) (omega arith))))
          (λ u _. c.stores u);
      mail = every_append (every_take false t x m l c.mail e).1 (every-fromSession t f.allowed);
      light = omega (arith, sum-session (entry_weight R p) t x s.mailbox m l o.sends e, f.covered, c.light);
    }
      where
        over : (y : ℕ) → ((s.item y).holder ≡ (p.state.item y).holder) ⊎ HandedOver p s y
            → ((s.item y).holder ≡ (p.state.item y).holder) ⊎ HandedOver p (after_session s t l o) y
        over y (inl q) = inl q
        over y (inr h) = inr (record {
          over =
              by-updated (λ u r. u ≡ p.victim → 1 ≤ may_release r.stage) s.session t o.after
              (λ q. omega (arith, h.over, f.turns.over-stays, ap (λ (u : ℕ). may_release (s.session u).stage) q))
              (λ u _ q. rw q h.over) p.victim refl;
          now = h.now;
        })
