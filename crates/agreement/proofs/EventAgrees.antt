-- What happens at a step of the lock manager's records is what happens at the machine's move.
use mathlib.Core.Path.{◌≡◌, refl, sym, ap}
use mathlib.Core.Bool.{Bool, true, false, not, ◌&&◌}
use mathlib.Core.List.{List}
use mathlib.Core.Option.{none}
use Prim.Native.Nat.{ℕ, ◌≤◌}
use lib.Dec.{eqb}
use lib.ListN.{length}
use Rattle.mailbox.specs.Entry.{Entry}
use Rattle.session.specs.Stage
use Rattle.session.specs.declared.Session.{Session}
use Rattle.session.specs.Record as SessionRecord
use Rattle.item.specs.Record.{Lock}
use Rattle.deadlock.specs.Machine
use Rattle.agreement.specs.Reading.{read_stage, read_state, rules}
use Rattle.agreement.proofs.SessionAgrees.{by-stage}
use Rattle.session.proofs.WellFormed.{session-facts}
use Rattle.agreement.proofs.MoveAgrees.{Given, Parties, place_of, item_step, session-at, item-at, item-step-agrees, taken_eq}

-- stage 6 is read as rolled back, and no other stage
pub rolled_back-agrees : (y n : ℕ) → 1 ≤ n → n ≤ 6 → Machine.is_rolled_back (read_stage n y) ≡ eqb n Stage.rolled_back
unfolding read_stage
rolled_back-agrees y = by-stage (λ (n : ℕ). Machine.is_rolled_back (read_stage n y) ≡ eqb n Stage.rolled_back) refl refl refl refl refl refl

module _ {senior : ℕ → ℕ → Bool} {next : List ℕ → ℕ} {S M : ℕ} {sessions : ℕ → Session} {locks : ℕ → Lock} {l : List Entry} (given : Given senior next S M sessions locks l)
    {t x : ℕ} (p : Parties S M t x) where
  abbrev R : Machine.Rules
  R = rules S M senior next

  abbrev before : Machine.State
  before = read_state S M sessions locks l

  -- a delivery to item x
  pub item-move-event : eqb (place_of t x l true) (length l) ≡ false → (after : Machine.State)
      → Machine.event_of R before (Machine.deliver_to_item t x) after ≡ Machine.item_event (item_step senior next locks t x l).event (Machine.on_cycle R after t)
  unfolding Machine.event_of Machine.taken_event
  item-move-event found after =
      rw (item-at given p, taken_eq given p true found)
      (ap (λ (o : Machine.ItemStep). Machine.item_event o.event (Machine.on_cycle R after t)) (sym (item-step-agrees given p found)))

  -- a delivery to session t
  pub session-move-event : (g : ℕ → Session) (k : List Entry) → SessionRecord.well_formed S M (g t) ≡ true
      → Machine.event_of R before (Machine.deliver_to_session t x) (read_state S M g locks k)
      ≡ record { closed = false; declared = none; rolled_back = not (eqb (sessions t).stage Stage.rolled_back) && eqb (g t).stage Stage.rolled_back }
  unfolding Machine.event_of Machine.session_event
  session-move-event g k v =
      let f = session-facts S M (sessions t) (given.session t p.session) in
      let h = session-facts S M (g t) v in
      rw (session-at S sessions t p.session, session-at S g t p.session, rolled_back-agrees (sessions t).awaited (sessions t).stage f.stage-low f.stage-high, rolled_back-agrees (g t).awaited (g t).stage h.stage-low h.stage-high) refl
