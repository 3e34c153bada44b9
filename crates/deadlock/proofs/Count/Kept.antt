-- Every admitted call keeps the balance of cycles closed and sessions rolled back; so it holds after every list of calls from the start.
use mathlib.Core.Path.{◌∙◌, ◌≡◌, ap, refl}
use mathlib.Core.Bool.{◌&&◌, Bool, false, not, true}
use mathlib.Core.List.{[], ◌∷◌, List}
use Prim.Native.Nat.{◌+◌, ◌≤◌, ℕ}
use native.Mathlib.Omega.{arith}
use lib.Dec.{eqb}
use Rattle.lists.proofs.Tests.{and_both, by-test}
use Rattle.deadlock.specs.Lists.{bit}
use Rattle.deadlock.specs.Machine.{accepted, after_answer, after_item, after_session, Answer, Call, count_closed, count_rolled_back, deliver_to_item, deliver_to_session, down, Entry, event_of, is_rolled_back, item_receives, item_takes, Laws, Message, move, no_entry, of_machine, on_cycle, refused, release_call, reopen, request, request_call, Rules, run, session_event, session_receives, SessionStep, session_takes, Stage, start, State, step, Stepped, take_first, Taken, taken, taken_event, up, victim, withdrawing, withdrawn}
use Rattle.message.specs.Kind
use Rattle.deadlock.specs.Counts.{count_kind, kind_of}
use Rattle.deadlock.specs.Invariant.{Balance, down_route, Invariant}
use Rattle.deadlock.proofs.Laws.Lists.{updated-same}
use Rattle.deadlock.proofs.Laws.Routes.{take_same}
use Rattle.deadlock.proofs.Links.Kept.{isSession-high, isSession-low, item-high, item-low, session-high, session-low}
use Rattle.deadlock.proofs.InvariantKept.{invariant, invariant-move, invariant-step}
use Rattle.deadlock.proofs.Reopening.{reopen-call-moves}
use Rattle.deadlock.proofs.Count.LeavingSessions.{CallMoves, message-moves, not-and, release-call-moves, request-call-moves, rolled-is}
use Rattle.deadlock.proofs.Count.KeptAtItem.{item-balanced, item-rolls-none}
use Rattle.deadlock.proofs.Count.KeptAtSession.{session-balance}
use Rattle.deadlock.proofs.Settled.{none-leaving, none-standing}

-- the same numbers, otherwise written
same-balance : {R : Rules} {s : State} {c c' g g' : ℕ} → Balance R s c g → c' ≡ c → g' ≡ g → Balance R s c' g'
same-balance b p q = record { balance = omega (arith, b.balance); withdraws_in_range = b.withdraws_in_range }

stage-after : (s : State) (t : ℕ) (l : List Entry) (o : SessionStep) → ((after_session s t l o).session t).stage ≡ o.after.stage
unfolding after_session
stage-after s t l o = rw updated-same

module _ (R : Rules) (L : Laws R) (s : State) (k : Invariant R s) (closed gone : ℕ) (b : Balance R s closed gone) where
  module _ (t : ℕ) (low : 1 ≤ t) (high : t ≤ R.S) where
    balance-call : (a : Answer) → CallMoves (s.session t).stage a → Invariant R (after_answer R s t a) → Balance R (after_answer R s t a) (closed + 0) (gone + 0)
    unfolding after_answer
    balance-call refused v kr = same-balance b (omega arith) (omega arith)
    balance-call (accepted o) v kr =
        same-balance (session-balance R L s k t low high (up request) (λ e. let z : ◌≡◌ {A = ℕ} 0 1 = cc in absurd (omega arith)) s.mailbox o kr false v closed gone b) (omega arith) (omega arith)

  module _ (t x : ℕ) (lo : 1 ≤ x) (hi : x ≤ R.M) (low : 1 ≤ t) (high : t ≤ R.S) where
    balance-item : (p : Taken) → take_first true t x s.mailbox ≡ p → Invariant R (item_takes R s t x p)
        → Balance R (item_takes R s t x p) (closed + bit (taken_event R t (s.item x) (item_takes R s t x p) p).closed) (gone + bit (taken_event R t (s.item x) (item_takes R s t x p) p).rolled_back)
    unfolding item_takes taken_event after_item
    balance-item no_entry e kr = same-balance b (omega arith) (omega arith)
    balance-item (taken m l) e kr = record {
      balance = omega (
        arith,
        b.balance,
        item-balanced R L s k t x lo hi low high l m e kr,
        ap bit (item-rolls-none (item_receives R t (s.item x) m).event (on_cycle R (after_item s x l (item_receives R t (s.item x) m)) t)),
      );
      withdraws_in_range = b.withdraws_in_range;
    }

    -- the withdrawn that is delivered was on its way
    answered : (m : Message) (l : List Entry) → take_first false t x s.mailbox ≡ taken m l → m ≡ (down withdrawn)
        → (z : ℕ) × (1 ≤ z) × (z ≤ R.M) × (1 ≤ count_kind Kind.withdrawn (down_route s t z))
    unfolding down_route count_kind
    answered m l e q = (x, lo, hi, omega (arith, ap (count_kind Kind.withdrawn) (take_same false t x s.mailbox m l e), ap (λ (a : Message). bit (eqb (kind_of a) Kind.withdrawn)) q))

    balance-session : (p : Taken) → take_first false t x s.mailbox ≡ p → Invariant R (session_takes R s t x p)
        → Balance R (session_takes R s t x p) (closed + 0) (gone + bit (session_event (s.session t).stage ((session_takes R s t x p).session t).stage).rolled_back)
    unfolding session_takes session_event
    balance-session no_entry e kr = same-balance b (omega arith) (omega (arith, ap bit (not-and (is_rolled_back (s.session t).stage))))
    balance-session (taken m l) e kr =
        let o = session_receives R t x (s.session t) m in
        let v = message-moves R t x (s.session t) m in
        same-balance (session-balance R L s k t low high m (answered m l e) l o kr v.rolled v.move closed gone b) (omega arith)
        (omega (arith, ap bit (ap (λ (a : Stage). not (is_rolled_back (s.session t).stage) && is_rolled_back a) (stage-after s t l o) ∙ rolled-is v.move)))

  balance-move : (c : Call) → of_machine R c ≡ true → Invariant R (move R s c)
      → Balance R (move R s c) (closed + bit (event_of R s c (move R s c)).closed) (gone + bit (event_of R s c (move R s c)).rolled_back)
  unfolding move of_machine event_of session_event
  balance-move (request_call t x) e kr = balance-call t (session-low R t x e) (session-high R t x e) _ (request-call-moves R t x (s.session t) (s.session t).stage) kr
  balance-move (release_call t x) e kr = balance-call t (session-low R t x e) (session-high R t x e) _ (release-call-moves R t x (s.session t) (s.session t).stage) kr
  balance-move (deliver_to_item t x) e kr = balance-item t x (item-low R t x e) (item-high R t x e) (session-low R t x e) (session-high R t x e) (take_first true t x s.mailbox) refl kr
  balance-move (deliver_to_session t x) e kr = balance-session t x (item-low R t x e) (item-high R t x e) (session-low R t x e) (session-high R t x e) (take_first false t x s.mailbox) refl kr
  balance-move (reopen t) e kr = balance-call t (isSession-low R t e) (isSession-high R t e) _ (reopen-call-moves R s t) kr

  balance-step : (admits : State → Call → Bool) (c : Call)
      → Balance R (step R admits s c).state (closed + bit (step R admits s c).event.closed) (gone + bit (step R admits s c).event.rolled_back)
  unfolding step
  balance-step admits c =
      by-test (λ (a : Stepped). Balance R a.state (closed + bit a.event.closed) (gone + bit a.event.rolled_back)) (of_machine R c && admits s c)
      (λ e. let m = (and_both (of_machine R c) (admits s c) e).0 in balance-move c m (invariant-move R L s k c m)) (λ _. same-balance b (omega arith) (omega arith))

module _ (R : Rules) (L : Laws R) (admits : State → Call → Bool) where
  balance-start : Balance R (start R) 0 0
  unfolding start run
  balance-start =
      let k : Invariant R (start R) = invariant R L admits [] in
      let range : (t y : ℕ) → ((start R).session t).stage ≡ victim withdrawing y → (1 ≤ y) × (y ≤ R.M) = λ t y e. let z : ◌≡◌ {A = ℕ} 0 1 = cc in absurd (omega arith) in
      record { balance = omega (arith, none-standing R L (start R) k refl, none-leaving R L (start R) k refl range); withdraws_in_range = range }

  balance-run : (cs : List Call) (s : State) → Invariant R s → (closed gone : ℕ) → Balance R s closed gone
      → Balance R (run R admits s cs).state (closed + count_closed (run R admits s cs).events) (gone + count_rolled_back (run R admits s cs).events)
  unfolding run count_closed count_rolled_back
  balance-run [] s k closed gone b = same-balance b (omega arith) (omega arith)
  balance-run (c ∷ cs) s k closed gone b =
      same-balance
      (balance-run cs (step R admits s c).state (invariant-step R L s k admits c) (closed + bit (step R admits s c).event.closed) (gone + bit (step R admits s c).event.rolled_back) (balance-step R L s k closed gone b admits c))
      (omega arith) (omega arith)

  -- after every list of calls from the start
  pub balance-of : (cs : List Call) → Balance R (run R admits (start R) cs).state (count_closed (run R admits (start R) cs).events) (count_rolled_back (run R admits (start R) cs).events)
  unfolding run
  balance-of cs = same-balance (balance-run cs (start R) (invariant R L admits []) 0 0 balance-start) (omega arith) (omega arith)

  -- and when no message is left
  pub counts-agree : (cs : List Call) → (run R admits (start R) cs).state.mailbox ≡ []
      → count_closed (run R admits (start R) cs).events ≡ count_rolled_back (run R admits (start R) cs).events
  counts-agree cs e =
      let k = invariant R L admits cs in
      let b = balance-of cs in
      omega (arith, b.balance, none-standing R L (run R admits (start R) cs).state k e, none-leaving R L (run R admits (start R) cs).state k e b.withdraws_in_range)
