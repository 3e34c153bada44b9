-- The lock manager's rules of a session are the machine's.
use mathlib.Core.Path.{◌≡◌, refl, sym, ap, ◌∙◌}
use mathlib.Core.Bool.{Bool, true, false, cond, not, ◌&&◌, ◌||◌}
use mathlib.Core.List.{List, [], ◌∷◌, ◌++◌}
use Prim.Native.Nat.{ℕ, zero, suc, ◌^◌, ◌≤◌, ◌<◌}
use native.Mathlib.Omega.{arith}
use lib.Dec.{eqb}
use lib.ListN.{length, drop}
use borrow.Author.Tests.{eqb-true}
use Rattle.lists.specs.Lists.{all_of}
use Rattle.lists.proofs.Tests.{between_intro, cond-agrees, eqb-sym}
use Rattle.bitset.specs.Bitset.{has}
use Rattle.message.specs.Kind
use Rattle.message.specs.declared.Message.{Message}
use Rattle.message.specs.Outbox.{message}
use Rattle.session.specs.Stage
use Rattle.session.specs.declared.Session.{Session}
use Rattle.session.specs.Record.{well_formed}
use Rattle.session.specs.Rules as SessionRules
use Rattle.session.specs.Rules.{received, requested, released}
use Rattle.session.proofs.WellFormed.{session-facts}
use Rattle.deadlock.specs.Lists.{one_to}
use Rattle.deadlock.specs.Machine
use Rattle.deadlock.specs.Machine.{session_receives, on_request_call, on_release_call}
use Rattle.agreement.specs.Reading.{read_stage, read_held, read_stored, read_session, read_message, read_sends, read_session_step, rules}
use Rattle.agreement.proofs.ReadingLists.{read_sends-append}
use Rattle.agreement.proofs.ReadingSession.{held-insert, held-remove, held_none, stored-none, stored-read, stored-set, stored-probes, rebroadcasts-agree, releases-agree}
use Rattle.agreement.proofs.ItemAgrees.{by_kind}

-- stages are 1 to 6
pub by-stage : (P : ℕ → Type 0) → P 1 → P 2 → P 3 → P 4 → P 5 → P 6 → (n : ℕ) → 1 ≤ n → n ≤ 6 → P n
by-stage P a b c d e f zero l u = absurd (omega arith)
by-stage P a b c d e f (suc zero) l u = a
by-stage P a b c d e f (suc (suc zero)) l u = b
by-stage P a b c d e f (suc (suc (suc zero))) l u = c
by-stage P a b c d e f (suc (suc (suc (suc zero)))) l u = d
by-stage P a b c d e f (suc (suc (suc (suc (suc zero))))) l u = e
by-stage P a b c d e f (suc (suc (suc (suc (suc (suc zero)))))) l u = f
by-stage P a b c d e f (suc (suc (suc (suc (suc (suc (suc n))))))) l u = absurd (omega arith)

-- two steps with equal parts
step_eq : {g : Machine.Stage} {h k : ℕ → Bool} {p q : ℕ → ℕ} {m n : Machine.Sends} → h ≡ k → p ≡ q → m ≡ n
    → ◌≡◌ {A = Machine.SessionStep} (record { after = record { stage = g; held = h; stored = p }; sends = m }) (record { after = record { stage = g; held = k; stored = q }; sends = n })
step_eq {g} e f d = λ i. record { after = record { stage = g; held = e i; stored = f i }; sends = d i }

module _ (senior : ℕ → ℕ → Bool) (next : List ℕ → ℕ) (S M : ℕ) (few-sessions : S ≤ 64) (few-items : M ≤ 64) (y mask : ℕ) (js : List ℕ)
    (low : mask < 2 ^ M) (len : length js ≡ 64) (zeros : all_of (λ j. eqb j 0) (drop S js) ≡ true) where
  abbrev R : Machine.Rules
  R = rules S M senior next

  abbrev at : ℕ → Session
  at stage = record { stage = stage; awaited = y; held = mask; juniors = js }

  module _ (t x a b : ℕ) (x-low : 1 ≤ x) (x-high : x ≤ 64) where
    abbrev Agrees : ℕ → ℕ → Type 0
    Agrees kind stage = read_session_step (received senior t (at stage) (message x kind a b)) ≡ session_receives R t x (read_session (at stage)) (read_message kind a b)

    grant-waiting : Agrees Kind.grant Stage.waiting
    unfolding received session_receives read_message read_stage SessionRules.granted Machine.on_grant read_sends
    grant-waiting = cond-agrees read_session_step (eqb x y) (eqb y x) (eqb-sym x y) (λ e. step_eq (held-insert x mask x-low x-high) refl refl) (λ e. refl)

    on-grant : (stage : ℕ) → 1 ≤ stage → stage ≤ 6 → Agrees Kind.grant stage
    unfolding received session_receives read_message read_stage Machine.on_grant read_sends
    on-grant = by-stage (Agrees Kind.grant) refl grant-waiting refl refl refl refl

    kept : (stage i j : ℕ) (m : List Message) (n : Machine.Sends) → 1 ≤ i → i ≤ 64
        → cond (eqb stage Stage.waiting) (message y Kind.probe i j ∷ []) [] ≡ m → read_sends m ≡ n
        → read_session_step (SessionRules.kept_probe senior i j (at stage)) ≡ Machine.store_probe R (read_session (at stage)) i j n
    unfolding SessionRules.kept_probe Machine.store_probe Machine.is_news read_sends
    kept stage i j m n l h e f =
        let at_i : SessionRules.stored (at stage) i ≡ read_stored js i = sym (stored-read js i l h) in
        cond-agrees read_session_step (eqb (SessionRules.stored (at stage) i) 0 || senior (SessionRules.stored (at stage) i) j) _ (ap (λ (v : ℕ). eqb v 0 || senior v j) at_i) (λ _. step_eq refl (stored-set js i l h len j) (ap read_sends e ∙ f)) (λ _. refl)

    on-probe : 1 ≤ a → a ≤ 64 → (stage : ℕ) → 1 ≤ stage → stage ≤ 6 → Agrees Kind.probe stage
    unfolding received session_receives read_message read_stage SessionRules.probed Machine.on_probe Machine.to_awaited read_sends SessionRules.junior Machine.junior
    on-probe l h =
        by-stage (Agrees Kind.probe) (kept Stage.growing a (SessionRules.junior senior b t) [] [] l h refl refl)
        (kept Stage.waiting a (SessionRules.junior senior b t) (message y Kind.probe a (SessionRules.junior senior b t) ∷ []) ((y, Machine.probe a (SessionRules.junior senior b t)) ∷ []) l h refl refl) refl refl refl refl

    resend-waiting : Agrees Kind.resend Stage.waiting
    unfolding received session_receives read_message read_stage SessionRules.resent Machine.on_resend read_sends Machine.stored_probes
    resend-waiting = go (eqb x y) refl ∙ ap (λ (c : Bool). record { after = read_session (at Stage.waiting); sends = cond c (Machine.stored_probes R (read_session (at Stage.waiting)) x) [] }) (eqb-sym x y)
      where
        go : (c : Bool) → eqb x y ≡ c
            → read_session_step (cond c (SessionRules.after (at Stage.waiting) (SessionRules.stored_probes (at Stage.waiting) y)) (SessionRules.dropped (at Stage.waiting)))
            ≡ record { after = read_session (at Stage.waiting); sends = cond c (Machine.stored_probes R (read_session (at Stage.waiting)) x) [] }
        go true e = step_eq refl refl (stored-probes S js few-sessions len zeros y ∙ ap (λ (n : ℕ). Machine.probes_from (read_stored js) n (one_to S)) (sym (eqb-true x y e)))
        go false e = refl

    on-resend : (stage : ℕ) → 1 ≤ stage → stage ≤ 6 → Agrees Kind.resend stage
    unfolding received session_receives read_message read_stage Machine.on_resend read_sends
    on-resend = by-stage (Agrees Kind.resend) refl resend-waiting refl refl refl refl

    on-abort : (stage : ℕ) → 1 ≤ stage → stage ≤ 6 → Agrees Kind.abort stage
    unfolding received session_receives read_message read_stage SessionRules.aborted Machine.on_abort read_sends
    on-abort = by-stage (Agrees Kind.abort) refl (step_eq refl stored-none refl) refl refl refl refl

    on-clean : (stage : ℕ) → 1 ≤ stage → stage ≤ 6 → Agrees Kind.clean stage
    unfolding received session_receives read_message read_stage SessionRules.cleaned SessionRules.cleaned_waiting SessionRules.cleaned_victim Machine.on_clean Machine.cleared Machine.rebroadcasts read_sends
    on-clean =
        by-stage (Agrees Kind.clean) (step_eq refl stored-none (rebroadcasts-agree M mask few-items low x))
        (step_eq refl stored-none (read_sends-append (SessionRules.to_held Kind.rebroadcast x mask) _ ∙ ap (λ (l : Machine.Sends). l ++ (y, Machine.clean a b) ∷ []) (rebroadcasts-agree M mask few-items low x)))
        refl
        (cond-agrees read_session_step (eqb a t) (eqb a t) refl (λ e. refl) (λ e. refl))
        refl refl

    on-withdrawn : (stage : ℕ) → 1 ≤ stage → stage ≤ 6 → Agrees Kind.withdrawn stage
    unfolding received session_receives read_message read_stage SessionRules.rolled_back Machine.on_withdrawn read_sends
    on-withdrawn = by-stage (Agrees Kind.withdrawn) refl refl refl refl (step_eq held_none refl (releases-agree M mask few-items low)) refl

    agrees : (kind : ℕ) → 1 ≤ kind → kind ≤ 10 → (kind ≡ Kind.probe → (1 ≤ a) × (a ≤ 64)) → (stage : ℕ) → 1 ≤ stage → stage ≤ 6 → Agrees kind stage
    unfolding received session_receives read_message read_sends
    agrees =
        by_kind (λ (kind : ℕ). (kind ≡ Kind.probe → (1 ≤ a) × (a ≤ 64)) → (stage : ℕ) → 1 ≤ stage → stage ≤ 6 → Agrees kind stage)
        (λ p stage l h. refl) (λ p stage l h. refl) (λ p. on-probe (p refl).0 (p refl).1) (λ p. on-clean) (λ p stage l h. refl) (λ p stage l h. refl)
        (λ p. on-grant) (λ p. on-resend) (λ p. on-abort) (λ p. on-withdrawn)

  module _ (x : ℕ) where
    abbrev Requests : ℕ → Type 0
    Requests stage = on_request_call R x (read_session (at stage)) (read_stage stage y) ≡ cond (eqb stage Stage.growing && not (read_held mask x)) (Machine.accepted (read_session_step (requested x (at stage)))) Machine.refused

    request-growing : Requests Stage.growing
    unfolding on_request_call requested read_stage read_message read_sends Machine.stored_probes
    request-growing = go (read_held mask x)
      where
        go : (c : Bool) → cond c Machine.refused (Machine.accepted (record { after = record { stage = Machine.waiting x; held = read_held mask; stored = read_stored js }; sends = (x, Machine.up Machine.request) ∷ Machine.probes_from (read_stored js) x (one_to S) }))
            ≡ cond (not c) (Machine.accepted (read_session_step (requested x (at Stage.growing)))) Machine.refused
        go true = refl
        go false = ap Machine.accepted (step_eq refl refl (ap (λ (l : Machine.Sends). (x, Machine.up Machine.request) ∷ l) (sym (stored-probes S js few-sessions len zeros x))))

    requests : (stage : ℕ) → 1 ≤ stage → stage ≤ 6 → Requests stage
    unfolding on_request_call read_stage
    requests = by-stage Requests request-growing refl refl refl refl refl

    abbrev Releases : ℕ → Type 0
    Releases stage = on_release_call R x (read_session (at stage)) (read_stage stage y) ≡ cond ((eqb stage Stage.growing || eqb stage Stage.shrinking) && read_held mask x) (Machine.accepted (read_session_step (released x (at stage)))) Machine.refused

    module _ (x-low : 1 ≤ x) (x-high : x ≤ 64) where
      release-one : (stage : ℕ) → Machine.release_held R x (read_session (at stage)) ≡ cond (read_held mask x) (Machine.accepted (read_session_step (released x (at stage)))) Machine.refused
      unfolding Machine.release_held released read_stage read_message read_sends
      release-one stage = ap (λ (a : Machine.Answer). cond (read_held mask x) a Machine.refused) (ap Machine.accepted (step_eq (sym (held-remove x mask x-low x-high)) (sym stored-none) refl))

      releases : (stage : ℕ) → 1 ≤ stage → stage ≤ 6 → Releases stage
      unfolding on_release_call read_stage
      releases = by-stage Releases (release-one Stage.growing) refl (release-one Stage.shrinking) refl refl refl

-- any seniority, any next holder, at most 64 sessions and 64 items, any well-formed session
module _ (senior : ℕ → ℕ → Bool) (next : List ℕ → ℕ) (S M : ℕ) (few-sessions : S ≤ 64) (few-items : M ≤ 64) (s : Session) (w : well_formed S M s ≡ true)
    (len : length s.juniors ≡ 64) where
  -- the session that follows a message of item m .peer, and what is sent
  pub session-agrees : (t : ℕ) (m : Message) → 1 ≤ m.peer → m.peer ≤ M → 1 ≤ m.kind → m.kind ≤ 10 → (m.kind ≡ Kind.probe → (1 ≤ m.a) × (m.a ≤ S))
      → read_session_step (received senior t s m) ≡ session_receives (rules S M senior next) t m.peer (read_session s) (read_message m.kind m.a m.b)
  session-agrees t m pl ph kl kh p =
      let f = session-facts S M s w in
      agrees senior next S M few-sessions few-items s.awaited s.held s.juniors f.held len f.zeros t m.peer m.a m.b pl (omega arith)
      m.kind kl kh (λ e. ((p e).0, omega (arith, (p e).1))) s.stage f.stage-low f.stage-high

  -- a request is accepted in stage 1 by a session that does not hold the item, and leaves and sends what the lock manager says; else it is refused
  pub request-agrees : (x : ℕ)
      → on_request_call (rules S M senior next) x (read_session s) (read_session s).stage
      ≡ cond (eqb s.stage Stage.growing && not (read_held s.held x)) (Machine.accepted (read_session_step (requested x s))) Machine.refused
  request-agrees x =
      let f = session-facts S M s w in
      requests senior next S M few-sessions few-items s.awaited s.held s.juniors f.held len f.zeros x s.stage f.stage-low f.stage-high

  -- a release is accepted in stages 1 and 3 by a session that holds the item; else it is refused
  pub release-agrees : (x : ℕ) → 1 ≤ x → x ≤ M
      → on_release_call (rules S M senior next) x (read_session s) (read_session s).stage
      ≡ cond ((eqb s.stage Stage.growing || eqb s.stage Stage.shrinking) && read_held s.held x) (Machine.accepted (read_session_step (released x s))) Machine.refused
  release-agrees x l h =
      let f = session-facts S M s w in
      releases senior next S M few-sessions few-items s.awaited s.held s.juniors f.held len f.zeros x l (omega arith) s.stage f.stage-low f.stage-high

-- within 1 to 64 an item is read as held where the mask has it
pub held-read : (mask x : ℕ) → 1 ≤ x → x ≤ 64 → read_held mask x ≡ has x mask
unfolding read_held
held-read mask x l h = rw (between_intro 1 64 x l h) refl
