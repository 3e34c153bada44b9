-- One step: refused, with both buffers as they were, or one of the machine's moves.
use mathlib.Core.Path.{◌≡◌, refl, sym, ap, ◌∙◌}
use mathlib.Core.Bool.{Bool, true, false, cond, not, ◌&&◌, ◌||◌, false≢true}
use mathlib.Core.List.{List}
use mathlib.Core.Logic.{◌≢◌}
use mathlib.Core.Option.{none}
use Prim.Native.Nat.{ℕ, ◌≤◌}
use native.Mathlib.Omega.{arith}
use lib.Dec.{eqb}
use lib.ListN.{length, get_or}
use borrow.Author.Tests.{le-ltb, not-false}
use Rattle.lists.proofs.Tests.{and_intro, between_intro, or_neither}
use Rattle.bitset.specs.Bitset.{has}
use Rattle.session.specs.Stage
use Rattle.session.specs.Seniority.{senior}
use Rattle.session.specs.Rules as Session
use Rattle.item.specs.NextHolder.{next_holder}
use Rattle.mailbox.specs.Entry.{Entry, unused}
use Rattle.mailbox.specs.Layout as Mail
use Rattle.mailbox.proofs.Laws as MailLaws
use Rattle.table.specs.Layout as Table
use Rattle.waits.specs.OnTable.{locks}
use Rattle.wellformed.proofs.Sessions.{SessionKept}
use Rattle.wellformed.proofs.Items.{ItemKept}
use Rattle.step.specs.Step as Step
use Rattle.step.specs.Step.{Plan, Stepped, step_causes, stepped, refused_answer, delivered, item_receives, session_acts, session_plan, item_plan, overfull, plan, committed}
use Rattle.step.specs.Parts.{Judged, Unhindered}
use Rattle.lockmgr.specs.Calls.{Config, step}
use Rattle.refusal.specs.Refusal.{first}
use Rattle.lockmgr.proofs.Judging.{by_call, formed-zero, judged-none, step_acts}
use Rattle.step.proofs.Acting.{acted-concluded, by-verb, request-plan, release-plan}
use Rattle.step.proofs.Form.{item_keeps, session_keeps, plan_keeps}
use Rattle.deadlock.specs.Lists.{updated}
use Rattle.deadlock.specs.Machine
use Rattle.deadlock.proofs.Laws.Lists.{updated-other, updated-same}
use Rattle.bound.specs.Statement as Bound
use Rattle.agreement.specs.Reading.{read_entries}
use Rattle.agreement.proofs.MailboxAgrees.{length-read_entries}
use Rattle.agreement.proofs.MoveAgrees as Agrees
use Rattle.agreement.proofs.MoveAgrees.{Parties}
use Rattle.agreement.proofs.EventAgrees as Events
use Rattle.clause.proofs.State
use Rattle.clause.proofs.State.{senior_of, next_of, machine_of, Good, given, planned-good, sessions_are, items_are, ranks_of}
use Rattle.clause.proofs.Moves.{StepMoved, session-stepped, item-stepped}

-- nothing happens, for no test and another is passed
pub quiet : (b : Bool) → Machine.nothing ≡ record { closed = false; declared = none; rolled_back = b && false }
quiet true = refl
quiet false = refl

-- a delivery to the item (true) or to the session (false)
abbrev pub delivery_verb : Bool → ℕ
delivery_verb d = cond d Step.deliver_to_item Step.deliver_to_session

abbrev pub delivery_call : ℕ → ℕ → Bool → Machine.Call
delivery_call t x d = cond d (Machine.deliver_to_item t x) (Machine.deliver_to_session t x)

module _ {conf : Config} {table : List ℕ} {l : List Entry} (g : Good conf table l) where
  abbrev mail : List ℕ
  mail = Mail.mail_bytes conf.capacity l

  capacity-is : Mail.capacity_of mail ≡ conf.capacity
  capacity-is = MailLaws.capacity-mail conf.capacity l g.low g.high g.room

  entries_are : Mail.entries_of mail ≡ l
  entries_are = MailLaws.entries-mail conf.capacity l g.low g.high g.room

  -- a step that was judged
  module _ {t x : ℕ} (j : Judged t x table mail) where
    p : Parties conf.kept.sessions conf.kept.items t x
    p = record {
      session = between_intro 1 conf.kept.sessions t j.session-low (omega (arith, j.session-high, sessions_are g));
      item = between_intro 1 conf.kept.items x j.item-low (omega (arith, j.item-high, items_are g));
    }

    is_in_range : Machine.in_range (machine_of conf) t x ≡ true
    unfolding Machine.in_range
    is_in_range = and_intro p.session p.item

    abbrev planned : ℕ → Plan
    planned verb = plan (Table.senior table) verb t x table l

    -- what its party leaves and sends
    session-kept : (verb : ℕ) → 1 ≤ verb → verb ≤ 4 → eqb verb Step.deliver_to_item ≡ false → Unhindered verb t x table l
        → SessionKept (Table.sessions_of table) (Table.items_of table) t (session_acts (Table.senior table) verb t x (Table.session table t) (get_or l (delivered verb t x l) unused))
    session-kept = rw (entries_are) at (session_keeps t x table mail j)

    item-kept : Unhindered Step.deliver_to_item t x table l
        → ItemKept (Table.sessions_of table) (Table.items_of table) x (item_receives (Table.senior table) (locks table x) (get_or l (delivered Step.deliver_to_item t x l) unused))
    item-kept = rw (entries_are) at (item_keeps t x table mail j)

    -- where nothing hinders it and what is planned is good
    abbrev Done : ℕ → Type 0
    Done verb = Unhindered verb t x table l → Good conf (planned verb).table (planned verb).entries → StepMoved conf table l verb t (committed t conf.capacity (planned verb))

    -- where an entry is found the machine takes it
    taken : (d : Bool) → eqb (Agrees.place_of t x l d) (length l) ≡ false → Bound.is_taken (Machine.take_first d t x (read_entries l)) ≡ true
    taken d found = ap Bound.is_taken (Agrees.taken_eq (given g) p d found)

    request-done : Done Step.request
    unfolding Machine.of_machine Machine.event_of Session.requested session_acts
    request-done u good =
        let s = Table.session table t in
        let stage = (or_neither (not (eqb s.stage Stage.growing)) _ u.stage).0 in
        let mask = (or_neither (has x s.held) _ u.mask).0 in
        let allowed : eqb s.stage Stage.growing && not (has x s.held) ≡ true = and_intro (not-false (eqb s.stage Stage.growing) stage) (rw (mask) refl) in
        rw (request-plan (Table.senior table) t x table l)
        (session-stepped g t p.session (Machine.request_call t x) is_in_range l (Session.requested x s)
        (session-kept Step.request (omega arith) (omega arith) refl u)
        (rw (request-plan (Table.senior table) t x table l) at good)
        (Agrees.request-move (given g) p allowed)
        (λ f h _. rw h.here (quiet (not (eqb s.stage Stage.rolled_back))))
        Step.request refl (λ e. absurd (false≢true e)))

    release-done : Done Step.release
    unfolding Machine.of_machine Machine.event_of Session.released session_acts
    release-done u good =
        let s = Table.session table t in
        let stage : eqb s.stage Stage.growing || eqb s.stage Stage.shrinking ≡ true = not-false (eqb s.stage Stage.growing || eqb s.stage Stage.shrinking) u.stage in
        let allowed : (eqb s.stage Stage.growing || eqb s.stage Stage.shrinking) && has x s.held ≡ true = and_intro stage (not-false (has x s.held) u.mask) in
        rw (release-plan (Table.senior table) t x table l)
        (session-stepped g t p.session (Machine.release_call t x) is_in_range l (Session.released x s)
        (session-kept Step.release (omega arith) (omega arith) refl u)
        (rw (release-plan (Table.senior table) t x table l) at good)
        (Agrees.release-move (given g) p allowed)
        (λ f h _. rw h.here (quiet (not (eqb s.stage Stage.rolled_back))))
        Step.release refl (λ e. absurd (false≢true e)))

    -- the item and the session are given the ranks of the table, which are those of the start
    item-plan : planned Step.deliver_to_item ≡ item_plan x table (Agrees.others_of t x l true) (Agrees.item_step (senior_of conf) (next_of conf) (locks table) t x l)
    unfolding plan delivered
    item-plan =
        ap (λ (r : List ℕ). item_plan x table (Agrees.others_of t x l true) (Agrees.item_step (senior r) (next_holder (senior r)) (locks table) t x l)) (ranks_of g)

    session-plan : planned Step.deliver_to_session ≡ session_plan t table (Agrees.others_of t x l false) (Agrees.session_step (senior_of conf) (Table.session table) t x l)
    unfolding plan delivered session_acts
    session-plan =
        ap (λ (r : List ℕ). session_plan t table (Agrees.others_of t x l false) (Agrees.session_step (senior r) (Table.session table) t x l)) (ranks_of g)

    item-done : Done Step.deliver_to_item
    unfolding delivered Machine.of_machine Bound.delivers
    item-done u good =
        let found : eqb (Agrees.place_of t x l true) (length l) ≡ false = u.route in
        rw (item-plan)
        (item-stepped g t p.session x p.item (Machine.deliver_to_item t x) is_in_range (Agrees.others_of t x l true) (Agrees.item_step (senior_of conf) (next_of conf) (locks table) t x l)
        (rw (ranks_of g) at (item-kept u))
        (rw (item-plan) at good)
        (Agrees.item_move (given g) p found)
        (Events.item-move-event (given g) p found)
        (taken true found) Step.deliver_to_item)

    session-done : Done Step.deliver_to_session
    unfolding delivered Machine.of_machine Bound.delivers session_acts
    session-done u good =
        let found : eqb (Agrees.place_of t x l false) (length l) ≡ false = u.route in
        rw (session-plan)
        (session-stepped g t p.session (Machine.deliver_to_session t x) is_in_range (Agrees.others_of t x l false) (Agrees.session_step (senior_of conf) (Table.session table) t x l)
        (rw (ranks_of g) at (session-kept Step.deliver_to_session (omega arith) (omega arith) refl u))
        (rw (session-plan) at good)
        (Agrees.session-move (given g) p found)
        (λ f h v. Events.session-move-event (given g) p f _ v)
        Step.deliver_to_session refl (λ _. taken false found))

    -- ---- a delivery that finds its entry: how many entries it leaves, and that only room can hinder it
    -- as many as the machine
    same_count : (d : Bool) → eqb (Agrees.place_of t x l d) (length l) ≡ false
        → length (planned (delivery_verb d)).entries ≡ length (Machine.move (machine_of conf) (State.state_of conf table l) (delivery_call t x d)).mailbox
    same_count true found =
        let r = Agrees.item_step (senior_of conf) (next_of conf) (locks table) t x l in
        ap (λ (p : Plan). length p.entries) item-plan
        ∙ sym (length-read_entries _)
        ∙ ap (λ (s : Machine.State). length s.mailbox)
        (Agrees.item_move (given g) p found
        (updated (locks table) x r.lock) (record { here = updated-same (locks table) x r.lock; elsewhere = λ j _ n. updated-other (locks table) x r.lock j n }))
    same_count false found =
        let r = Agrees.session_step (senior_of conf) (Table.session table) t x l in
        ap (λ (p : Plan). length p.entries) session-plan
        ∙ sym (length-read_entries _)
        ∙ ap (λ (s : Machine.State). length s.mailbox)
        (Agrees.session-move (given g) p found
        (updated (Table.session table) t r.session) (record { here = updated-same (Table.session table) t r.session; elsewhere = λ j _ n. updated-other (Table.session table) t r.session j n }))

    only-room : (d : Bool) → eqb (Agrees.place_of t x l d) (length l) ≡ false → first (step_causes (delivery_verb d) t x table (Mail.entries_of mail)) ≡ 0
    unfolding first delivered
    only-room true found = rw (entries_are, found) refl
    only-room false found = rw (entries_are, found) refl

    is-verb : (d : Bool) → (1 ≤ delivery_verb d) × (delivery_verb d ≤ 4)
    is-verb true = (omega arith, omega arith)
    is-verb false = (omega arith, omega arith)

    -- where what the machine leaves fits, the step is accepted
    pub fits-accepted : (d : Bool) → eqb (Agrees.place_of t x l d) (length l) ≡ false
        → length (Machine.move (machine_of conf) (State.state_of conf table l) (delivery_call t x d)).mailbox ≤ conf.capacity → (step (delivery_verb d) t x table mail).answer.refusal ≡ 0
    fits-accepted d found fits =
        let v = is-verb d in
        let known = judged-none (delivery_verb d) t x table mail v.0 v.1 (formed-zero table mail j.formed) j.session-low j.session-high j.item-low j.item-high in
        let room : overfull (Mail.capacity_of mail) (plan (Table.senior table) (delivery_verb d) t x table (Mail.entries_of mail)).entries ≡ false =
        rw (capacity-is, entries_are) (le-ltb conf.capacity (length (planned (delivery_verb d)).entries) (omega (arith, same_count d found, fits))) in
        rw (step_acts (delivery_verb d) t x table mail known, acted-concluded (Table.senior table) (delivery_verb d) t x table mail (only-room d found), room) refl

    -- where an entry is found, the machine delivers it
    pub found-delivers : (d : Bool) → eqb (Agrees.place_of t x l d) (length l) ≡ false → Bound.delivers (State.state_of conf table l) (delivery_call t x d) ≡ true
    unfolding Bound.delivers
    found-delivers true found = taken true found
    found-delivers false found = taken false found

    pub call_in_range : (d : Bool) → Machine.of_machine (machine_of conf) (delivery_call t x d) ≡ true
    unfolding Machine.of_machine
    call_in_range true = is_in_range
    call_in_range false = is_in_range

  -- whatever holds of a refused step, and of one that is a move of the machine, holds of a step
  pub by-step : (verb t x : ℕ) (P : Stepped → Type 0) → ((n : ℕ) → n ≢ 0 → P (stepped (refused_answer n) table mail))
      → ((r : Stepped) → StepMoved conf table l verb t r → P r) → P (step verb t x table mail)
  by-step verb t x P refused moved =
      by_call verb t x table mail P refused (λ low high j u room.
      let good : Good conf (planned j verb).table (planned j verb).entries = planned-good g (rw (entries_are) at (plan_keeps t x table mail j verb low high u)) (rw (capacity-is, entries_are) at room) in
      rw (capacity-is, entries_are)
      (moved (committed t conf.capacity (planned j verb)) (by-verb (Done j) (request-done j) (release-done j) (item-done j) (session-done j) verb low high (rw (entries_are) at u) good)))
