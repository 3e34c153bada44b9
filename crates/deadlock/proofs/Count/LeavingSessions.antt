-- How the number of sessions that leave changes: a step of a session moves its stage, a step of an item its queue.
use mathlib.Core.Path.{◌∙◌, ◌≡◌, ap, refl, sym}
use mathlib.Core.Bool.{◌&&◌, and-false, Bool, false, not, true}
use mathlib.Core.List.{List}
use mathlib.Core.Logic.{◌≢◌}
use Prim.Native.Nat.{◌+◌, ◌≤◌, ℕ}
use native.Mathlib.Omega.{arith}
use lib.Dec.{eqb}
use Rattle.lists.specs.Lists.{count_up_to, member}
use Rattle.lists.proofs.Searches.{count-one-more, count_same}
use Rattle.lists.proofs.Tests.{by-test, same?}
use Rattle.deadlock.specs.Lists.{bit, occurs}
use Rattle.deadlock.specs.Machine.{abort, accepted, Answer, clean, cleaning, cleared, down, grant, growing, is_live, is_news, is_rolled_back, Item, Message, on_abort, on_clean, on_grant, on_probe, on_release_call, on_request_call, on_resend, on_withdrawn, probe, refused, release_held, ReleasePhase, releasing, request, resend, rolled_back, Rules, Session, session_receives, SessionStep, shrinking, Stage, State, store_probe, up, victim, waiting, withdrawing, withdrawn}
use Rattle.deadlock.specs.Invariant.{is_leaving, leaving}
use Rattle.deadlock.proofs.Laws.Lists.{member-same}

-- ---- counting
-- the tests agree but at k
pub count-changed : (n : ℕ) (p q : ℕ → Bool) (k : ℕ) → 1 ≤ k → k ≤ n → ((j : ℕ) → 1 ≤ j → j ≤ n → j ≢ k → p j ≡ q j)
    → count_up_to n p + bit (q k) ≡ count_up_to n q + bit (p k)
count-changed n p q k lo hi h = cases (p k) refl (q k) refl
  where
    at-k : p k ≡ q k → (j : ℕ) → 1 ≤ j → j ≤ n → p j ≡ q j
    at-k e j a b = elim (same? j k) [ yes z ↦ rw z e | no z ↦ h j a b z ]

    cases : (a : Bool) → p k ≡ a → (b : Bool) → q k ≡ b → count_up_to n p + bit b ≡ count_up_to n q + bit a
    cases true e true f = omega (arith, count_same n p q (at-k (e ∙ sym f)))
    cases false e false f = omega (arith, count_same n p q (at-k (e ∙ sym f)))
    cases true e false f = omega (arith, count-one-more n p q k lo hi e f h)
    cases false e true f = omega (arith, count-one-more n q p k lo hi f e (λ j a b z. sym (h j a b z)))

-- ---- a step of an item
-- seen from a session whose place in the queue that it awaits does not change
pub leaving-kept : (I J : ℕ → Item) (t : ℕ) (a : Stage) → ((y : ℕ) → a ≡ victim withdrawing y → occurs t (J y).queue ≡ occurs t (I y).queue)
    → is_leaving J t a ≡ is_leaving I t a
leaving-kept I J t growing h = refl
leaving-kept I J t (waiting y) h = refl
leaving-kept I J t (victim cleaning y) h = refl
leaving-kept I J t (victim withdrawing y) h = ap not (member-same t (J y).queue (I y).queue (h y refl))
leaving-kept I J t (releasing p) h = refl

module _ (R : Rules) (s r : State) (same : (t : ℕ) → (r.session t).stage ≡ (s.session t).stage) where
  -- for every session
  pub leaving-same : ((t y : ℕ) → (s.session t).stage ≡ victim withdrawing y → occurs t (r.item y).queue ≡ occurs t (s.item y).queue) → leaving R s ≡ leaving R r
  unfolding leaving
  leaving-same h = count_same R.S _ _ (λ t _ _. sym (ap (is_leaving r.item t) (same t) ∙ leaving-kept s.item r.item t (s.session t).stage (h t)))

  -- for every session but one, which leaves now and did not before
  pub leaving-more : (t : ℕ) → 1 ≤ t → t ≤ R.S → (y : ℕ) → (s.session t).stage ≡ victim withdrawing y → member t (s.item y).queue ≡ true → member t (r.item y).queue ≡ false
      → ((a y : ℕ) → a ≢ t → (s.session a).stage ≡ victim withdrawing y → occurs a (r.item y).queue ≡ occurs a (s.item y).queue) → leaving R r ≡ leaving R s + 1
  unfolding leaving
  leaving-more t lo hi y e b c h =
      count-one-more R.S _ _ t lo hi (ap (is_leaving r.item t) (same t ∙ e) ∙ ap not c) (ap (is_leaving s.item t) e ∙ ap not b)
      (λ a _ _ ne. ap (is_leaving r.item a) (same a) ∙ leaving-kept s.item r.item a (s.session a).stage (λ y. h a y ne))

-- ---- a step of a session
-- how a message m, or a call, moves the stage of a session from a to b, and whether the session is rolled back by it
pub data StageMove (m : Message) (a b : Stage) : Bool → Type 0 where
  stays : b ≡ a → StageMove m a b false
  requests : (y : ℕ) → a ≡ growing → b ≡ waiting y → StageMove m a b false
  releases-first : a ≡ growing → b ≡ releasing shrinking → StageMove m a b false
  granted : (y : ℕ) → a ≡ waiting y → b ≡ growing → StageMove m a b false
  aborted : (y : ℕ) → a ≡ waiting y → b ≡ victim cleaning y → StageMove m a b false
  withdraws-now : (y : ℕ) → a ≡ victim cleaning y → b ≡ victim withdrawing y → StageMove m a b false
  rolls-back : (y : ℕ) → m ≡ (down withdrawn) → a ≡ victim withdrawing y → b ≡ releasing rolled_back → StageMove m a b true
  reopens : (p : ReleasePhase) → a ≡ releasing p → b ≡ growing → StageMove m a b false

-- some such move
pub record Moved (m : Message) (a b : Stage) : Type 0 where
  pub rolled : Bool
  pub move : StageMove m a b rolled

abbrev moved : {m : Message} {a b : Stage} {k : Bool} → StageMove m a b k → Moved m a b
moved {k = k} v = record { rolled = k; move = v }

pub not-and : (b : Bool) → not b && b ≡ false
not-and true = refl
not-and false = refl

-- the event of a delivery says so
pub rolled-is : {m : Message} {a b : Stage} {k : Bool} → StageMove m a b k → not (is_rolled_back a) && is_rolled_back b ≡ k
rolled-is {a = a} {b} (stays e) = rw e (not-and (is_rolled_back a))
rolled-is (requests y e f) = rw (e, f)
rolled-is (releases-first e f) = rw (e, f)
rolled-is (granted y e f) = rw (e, f)
rolled-is (aborted y e f) = rw (e, f)
rolled-is (withdraws-now y e f) = rw (e, f)
rolled-is (rolls-back y z e f) = rw (e, f)
rolled-is (reopens p e f) = rw (f, and-false)

-- a call rolls no session back
abbrev pub CallMoves : Stage → Answer → Type 0
CallMoves a refused = Unit {0}
CallMoves a (accepted o) = StageMove (up request) a o.after.stage false

module _ (R : Rules) (t x : ℕ) (r : Session) where
  grant-moves : (a : Stage) → r.stage ≡ a → Moved (down grant) a (on_grant R x r a).after.stage
  unfolding on_grant
  grant-moves growing e = moved (stays e)
  grant-moves (waiting y) e = by-test (λ (o : SessionStep). Moved (down grant) (waiting y) o.after.stage) (eqb y x) (λ _. moved (granted y refl refl)) (λ _. moved (stays e))
  grant-moves (victim p y) e = moved (stays e)
  grant-moves (releasing p) e = moved (stays e)

  stored-moves : (i j : ℕ) (l : List (ℕ × Message)) (m : Message) (a : Stage) → r.stage ≡ a → Moved m a (store_probe R r i j l).after.stage
  unfolding store_probe
  stored-moves i j l m a e = by-test (λ (o : SessionStep). Moved m a o.after.stage) (is_news R r.stored i j) (λ _. moved (stays e)) (λ _. moved (stays e))

  probe-moves : (i j : ℕ) (a : Stage) → r.stage ≡ a → Moved (probe i j) a (on_probe R t r i j a).after.stage
  unfolding on_probe
  probe-moves i j a e = by-test (λ (o : SessionStep). Moved (probe i j) a o.after.stage) (is_live a) (λ _. stored-moves _ _ _ _ a e) (λ _. moved (stays e))

  resend-moves : (a : Stage) → r.stage ≡ a → Moved (down resend) a (on_resend R x r a).after.stage
  unfolding on_resend
  resend-moves growing e = moved (stays e)
  resend-moves (waiting y) e = moved (stays e)
  resend-moves (victim p y) e = moved (stays e)
  resend-moves (releasing p) e = moved (stays e)

  abort-moves : (v i : ℕ) (a : Stage) → r.stage ≡ a → Moved (abort v i) a (on_abort R r v i a).after.stage
  unfolding on_abort
  abort-moves v i growing e = moved (stays e)
  abort-moves v i (waiting y) e = moved (aborted y refl refl)
  abort-moves v i (victim p y) e = moved (stays e)
  abort-moves v i (releasing p) e = moved (stays e)

  clean-moves : (v i : ℕ) (a : Stage) → r.stage ≡ a → Moved (clean v i) a (on_clean R t x r v i a).after.stage
  unfolding on_clean cleared
  clean-moves v i growing e = moved (stays e)
  clean-moves v i (waiting y) e = moved (stays e)
  clean-moves v i (victim cleaning y) e = by-test (λ (o : SessionStep). Moved (clean v i) (victim cleaning y) o.after.stage) (eqb v t) (λ _. moved (withdraws-now y refl refl)) (λ _. moved (stays e))
  clean-moves v i (victim withdrawing y) e = moved (stays e)
  clean-moves v i (releasing p) e = moved (stays e)

  withdrawn-moves : (a : Stage) → r.stage ≡ a → Moved (down withdrawn) a (on_withdrawn R r a).after.stage
  unfolding on_withdrawn
  withdrawn-moves growing e = moved (stays e)
  withdrawn-moves (waiting y) e = moved (stays e)
  withdrawn-moves (victim cleaning y) e = moved (stays e)
  withdrawn-moves (victim withdrawing y) e = moved (rolls-back y refl refl refl)
  withdrawn-moves (releasing p) e = moved (stays e)

  pub message-moves : (m : Message) → Moved m r.stage (session_receives R t x r m).after.stage
  unfolding session_receives
  message-moves (up m) = moved (stays refl)
  message-moves (down grant) = grant-moves r.stage refl
  message-moves (down resend) = resend-moves r.stage refl
  message-moves (down withdrawn) = withdrawn-moves r.stage refl
  message-moves (probe i j) = probe-moves i j r.stage refl
  message-moves (clean v i) = clean-moves v i r.stage refl
  message-moves (abort v i) = abort-moves v i r.stage refl

  pub request-call-moves : (a : Stage) → CallMoves a (on_request_call R x r a)
  unfolding on_request_call
  request-call-moves growing = by-test (CallMoves growing) (r.held x) (λ _. tt) (λ _. requests x refl refl)
  request-call-moves (waiting y) = tt
  request-call-moves (victim p y) = tt
  request-call-moves (releasing p) = tt

  pub release-call-moves : (a : Stage) → CallMoves a (on_release_call R x r a)
  unfolding on_release_call release_held
  release-call-moves growing = by-test (CallMoves growing) (r.held x) (λ _. releases-first refl refl) (λ _. tt)
  release-call-moves (waiting y) = tt
  release-call-moves (victim p y) = tt
  release-call-moves (releasing shrinking) = by-test (CallMoves (releasing shrinking)) (r.held x) (λ _. stays refl) (λ _. tt)
  release-call-moves (releasing rolled_back) = tt
