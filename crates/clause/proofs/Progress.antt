-- Where sessions call at an empty mail only, each delivery fits, and deliveries empty the mail: the lock manager's states are among those of which the machine's theorem on room speaks.
use mathlib.Core.Path.{◌≡◌, refl, sym, subst, ◌∙◌}
use mathlib.Core.Bool.{Bool, true, false, false≢true, true≢false}
use mathlib.Core.List.{List, [], ◌∷◌}
use mathlib.Core.Logic.{◌≢◌, ◌⊎◌, inl, inr, ⊎_elim}
use Prim.Native.Nat.{ℕ, ◌≤◌, ◌<◌}
use native.Mathlib.Omega.{arith}
use lib.Dec.{eqb}
use lib.ListN.{length, get_or}
use borrow.Author.Tests.{eq-eqb, ne_eqb, eqb-true, eqb-false}
use Rattle.lists.specs.Lists.{all_of}
use Rattle.lists.proofs.Laws.{all_get_d, find_index_le}
use Rattle.lists.proofs.Tests.{and_both, and_intro, by_answer, by-test, eqb_self}
use Rattle.mailbox.specs.Entry.{Entry, on_route, to_item, unused, well_formed}
use Rattle.mailbox.specs.Layout as Mail
use Rattle.mailbox.proofs.Laws as MailLaws
use Rattle.mailbox.proofs.EntryLaws.{EntryFacts, entry-facts}
use Rattle.step.specs.Step as Step
use Rattle.step.specs.Step.{Stepped}
use Rattle.step.specs.Parts.{Judged}
use Rattle.reopen.specs.Reopening.{Reopened}
use Rattle.lockmgr.specs.Calls as Calls
use Rattle.lockmgr.specs.Calls.{Config}
use Rattle.lockmgr.specs.Run as Run
use Rattle.lockmgr.specs.Run.{Buffers, buffers, done_on, left_by, done, left}
use Rattle.refusal.specs.Refusal
use Rattle.drain.specs.Oldest.{verb_of}
use Rattle.lockmgr.specs.Drain.{drain as drainCall, drain_refusal, drain_steps, ending, empty, full, limited}
use Rattle.lockmgr.specs.History.{Call, step, report, drain, reopen, steps_of, leaves, after}
use Rattle.lockmgr.proofs.Judging.{formed-zero, Startable, start-zero}
use Rattle.bound.specs.Formula.{delivery_bound}
use Rattle.deadlock.proofs.Laws.Lists.{zero-or-more}
use Rattle.room.specs.Capacity.{capacity_bound}
use Rattle.room.specs.Statement.{Reached, starts, calls, goes_on}
use Rattle.room.proofs.Theorem.{orderly, theorem}
use Rattle.agreement.specs.Reading.{direction_of}
use Rattle.agreement.proofs.MailboxAgrees.{length-read_entries}
use Rattle.agreement.proofs.MoveAgrees.{place_of}
use Rattle.clause.specs.Statement.{opened, EmptyMail}
use Rattle.clause.specs.Drains.{is_accepted, is_delivered, AllDelivered, DrainEnds, drain_of}
use Rattle.clause.specs.Progress.{delivery_at, KeepsRule, RuleKept, Progress, Progresses}
use Rattle.clause.proofs.State
use Rattle.clause.proofs.State.{machine_of, machine_laws, state_of, Good, sessions_are, items_are}
use Rattle.clause.proofs.Moves.{Moved}
use Rattle.clause.proofs.Step.{by-step, call_in_range, delivery_call, delivery_verb, fits-accepted, found-delivers}
use Rattle.clause.proofs.Reopening.{by-reopen}
use Rattle.clause.proofs.Theorem.{start-accepted, start-leaves, begun, begun-good, begun-state, no_entries, none_read}
use Rattle.clause.proofs.Drains.{is-delivery, drain-delivers, steps-bounded, drain-ends}

-- two buffers in a state that the machine reaches by calls at an empty mailbox and by deliveries
record Kept (conf : Config) (b : Buffers) : Type 0 where
  pub entries : List Entry
  pub mail : b.mail ≡ Mail.mail_bytes conf.capacity entries
  pub good : Good conf b.table entries
  pub reached : Reached (machine_of conf) (state_of conf b.table entries)

module _ (conf : Config) where
  abbrev at : List ℕ → List Entry → Buffers
  at table l = buffers table (Mail.mail_bytes conf.capacity l)

  module _ (table : List ℕ) (l : List Entry) (g : Good conf table l) (r : Reached (machine_of conf) (state_of conf table l)) where
    here : Kept conf (at table l)
    here = record { entries = l; mail = refl; good = g; reached = r }

    -- no entry, no message
    has_no_message : EmptyMail (at table l) → (state_of conf table l).mailbox ≡ []
    has_no_message e = none_read l (no_entries l (sym (MailLaws.count-mail conf.capacity l g.low g.high g.room) ∙ e))

    -- a call at an empty mail
    called : (b : Buffers) → Moved conf table l b → EmptyMail (at table l) → Kept conf b
    called b m e = record { entries = m.entries; mail = m.mail; good = m.good; reached = rw m.moves (calls r (has_no_message e) m.call m.is_of_machine) }

    -- a step
    step_keeps : (c : Run.Step) → (Step.is_delivery c.verb ≡ false → (done_on (at table l) c).result.answer.refusal ≡ 0 → EmptyMail (at table l)) → Kept conf (left_by (done_on (at table l) c))
    step_keeps c =
        by-step g c.verb c.session c.item
        (λ (o : Stepped). (Step.is_delivery c.verb ≡ false → o.answer.refusal ≡ 0 → EmptyMail (at table l)) → Kept conf (buffers o.table o.mail))
        (λ _ _ _. here)
        (λ o m rule. by_answer (Step.is_delivery c.verb)
        (λ d. record {
          entries = m.moved.entries;
          mail = m.moved.mail;
          good = m.moved.good;
          reached = rw m.moved.moves (goes_on r m.moved.call m.moved.is_of_machine (m.delivers d));
        })
        (λ d. called (buffers o.table o.mail) m.moved (rule d m.accepted)))

    reopen_keeps : (t : ℕ) → ((Calls.reopen t table (Mail.mail_bytes conf.capacity l)).refusal ≡ 0 → EmptyMail (at table l))
        → Kept conf (buffers (Calls.reopen t table (Mail.mail_bytes conf.capacity l)).table (Mail.mail_bytes conf.capacity l))
    reopen_keeps t =
        by-reopen g t
        (λ (o : Reopened). (o.refusal ≡ 0 → EmptyMail (at table l)) → Kept conf (buffers o.table (Mail.mail_bytes conf.capacity l)))
        (λ _ _. here) (λ m rule. called _ m.moved (rule refl))

  -- the same of any buffers
  by-kept : (b : Buffers) → Kept conf b → (P : Buffers → Type 0)
      → ((table : List ℕ) (l : List Entry) → Good conf table l → Reached (machine_of conf) (state_of conf table l) → P (at table l)) → P b
  by-kept b k P f = subst (λ (m : List ℕ). P (buffers b.table m)) (sym k.mail) (f b.table k.entries k.good k.reached)

  -- deliveries, none of them refused
  deliveries-keep : (steps : List Run.Step) (b : Buffers) → Kept conf b → AllDelivered b steps → Kept conf (left b steps)
  unfolding left done all_of
  deliveries-keep [] b k h = k
  deliveries-keep (c ∷ steps) b k h =
      let d = done_on b c in
      let both = and_both (is_delivered d) (all_of is_delivered (done (left_by d) steps)) h in
      let first = and_both (Step.is_delivery c.verb) (is_accepted d) both.0 in
      deliveries-keep steps (left_by d)
      (by-kept b k (λ (a : Buffers). Kept conf (left_by (done_on a c))) (λ table l g r. step_keeps table l g r c (λ e _. absurd (false≢true (sym e ∙ first.0)))))
      both.1

  call_keeps : (c : Call) (b : Buffers) → Kept conf b → KeepsRule b c → Kept conf (leaves b c)
  unfolding leaves steps_of left
  call_keeps (step verb t x) b k rule =
      by-kept b k (λ (a : Buffers). KeepsRule a (step verb t x) → Kept conf (leaves a (step verb t x)))
      (λ table l g r. step_keeps table l g r (record { verb = verb; session = t; item = x })) rule
  call_keeps (report t) b k rule = k
  call_keeps (drain limit) b k rule = deliveries-keep (drain_steps limit b) b k (drain-delivers limit b)
  call_keeps (reopen t) b k rule =
      by-kept b k (λ (a : Buffers). KeepsRule a (reopen t) → Kept conf (leaves a (reopen t))) (λ table l g r. reopen_keeps table l g r t) rule

  calls-keep : (l : List Call) (b : Buffers) → Kept conf b → RuleKept b l → Kept conf (after b l)
  unfolding after
  calls-keep [] b k rule = k
  calls-keep (c ∷ l) b k rule = calls-keep l (leaves b c) (call_keeps c b k rule.0) rule.1

module _ (conf : Config) (enough : capacity_bound conf.kept.sessions conf.kept.items ≤ conf.capacity) where
  module _ (table : List ℕ) (l : List Entry) (g : Good conf table l) (r : Reached (machine_of conf) (state_of conf table l)) where
    abbrev mail : List ℕ
    mail = Mail.mail_bytes conf.capacity l

    count-is : Mail.count_of mail ≡ length l
    count-is = MailLaws.count-mail conf.capacity l g.low g.high g.room

    few_messages : Mail.count_of mail ≤ capacity_bound conf.kept.sessions conf.kept.items
    few_messages = omega (arith, count-is, length-read_entries l, theorem (machine_of conf) (machine_laws g) (state_of conf table l) r)

    -- each message that is there can be delivered
    module _ (k : ℕ) (inside : k < length l) where
      abbrev entry : Entry
      entry = get_or l k unused

      facts : EntryFacts conf.kept.sessions conf.kept.items entry
      facts = entry-facts conf.kept.sessions conf.kept.items entry (all_get_d (well_formed conf.kept.sessions conf.kept.items) l k unused g.entries inside)

      known : Judged entry.session entry.item table mail
      known = record {
        formed = State.buffers-formed g;
        session-low = facts.session-low;
        session-high = omega (arith, facts.session-high, sessions_are g);
        item-low = facts.item-low;
        item-high = omega (arith, facts.item-high, items_are g);
      }

      found : (d : Bool) → entry.direction ≡ direction_of d → eqb (place_of entry.session entry.item l d) (length l) ≡ false
      found d e =
          let on-route : on_route (direction_of d) entry.session entry.item entry ≡ true =
          rw (eq-eqb entry.direction (direction_of d) e, eqb_self entry.session, eqb_self entry.item) refl in
          let n = find_index_le (on_route (direction_of d) entry.session entry.item) l unused k inside on-route in
          ne_eqb (place_of entry.session entry.item l d) (length l) (λ q. absurd (omega (arith, q, n)))

      goes : (d : Bool) → entry.direction ≡ direction_of d → (Calls.step (delivery_verb d) entry.session entry.item table mail).answer.refusal ≡ 0
      goes d e =
          let after = goes_on r (delivery_call entry.session entry.item d) (call_in_range g known d) (found-delivers g known d (found d e)) in
          fits-accepted g known d (found d e)
          (omega (arith, enough, theorem (machine_of conf) (machine_laws g) _ after))

      entry-accepted : (Calls.step (verb_of entry) entry.session entry.item table mail).answer.refusal ≡ 0
      entry-accepted = ⊎_elim (λ e. rw (eq-eqb entry.direction to_item e) (goes true e)) (λ e. rw (ne_eqb entry.direction to_item (λ q. absurd (omega (arith, e, q)))) (goes false e)) facts.kinds.direction

    message-accepted : (k : ℕ) → k < Mail.count_of mail → (done_on (buffers table mail) (delivery_at (buffers table mail) k)).result.answer.refusal ≡ 0
    message-accepted k h =
        let inside : k < length l = omega (arith, h, count-is) in
        rw (MailLaws.entry-mail conf.capacity l g.low g.high g.room k inside) (entry-accepted k inside)

  kept_accepts : (b : Buffers) → Kept conf b → (k : ℕ) → k < Mail.count_of b.mail → (done_on b (delivery_at b k)).result.answer.refusal ≡ 0
  kept_accepts b k = by-kept conf b k (λ (a : Buffers). (k : ℕ) → k < Mail.count_of a.mail → (done_on a (delivery_at a k)).result.answer.refusal ≡ 0) message-accepted

  -- so deliveries end at an empty mail alone
  ends-empty : (b : Buffers) → Kept conf b → ((next : Run.Step) → is_delivered (done_on b next) ≡ false) → EmptyMail b
  ends-empty b k none = elim (zero-or-more (Mail.count_of b.mail)) [
    | inl z ↦ z
    | inr some ↦ absurd (true≢false (sym (and_intro (is-delivery (Mail.entry_at b.mail 0)) (eq-eqb _ 0 (kept_accepts b k 0 some))) ∙ none (delivery_at b 0)))
  ]

  -- and a drain ends at an empty mail or at its limit
  abbrev Ends : ℕ → Type 0
  Ends n = (n ≡ empty) ⊎ (n ≡ limited)

  never_stuck : (b : Buffers) → Kept conf b → Ends (ending b)
  unfolding ending
  never_stuck b k =
      by-test Ends (eqb (Mail.count_of b.mail) 0) (λ _. inl refl)
      (λ e. by-test Ends (eqb (done_on b (delivery_at b 0)).result.answer.refusal Refusal.mail_full)
      (λ q. let z = kept_accepts b k 0 (omega (arith, eqb-false (Mail.count_of b.mail) 0 e)) in absurd (omega (arith, z, eqb-true (done_on b (delivery_at b 0)).result.answer.refusal Refusal.mail_full q)))
      (λ _. inr refl))

  module _ (b : Buffers) (k : Kept conf b) where
    abbrev bound : ℕ
    bound = delivery_bound conf.kept.sessions conf.kept.items (Mail.count_of b.mail)

    deliveries-bounded : (l : List Run.Step) → AllDelivered b l → length l ≤ bound
    deliveries-bounded l =
        by-kept conf b k (λ (a : Buffers). AllDelivered a l → length l ≤ delivery_bound conf.kept.sessions conf.kept.items (Mail.count_of a.mail))
        (λ table entries g r. steps-bounded conf table entries g (orderly (machine_of conf) (machine_laws g) r).invariant l)

    module _ (limit : ℕ) where
      drain-ends_well : Ends (drain_of limit b).answer.ending
      unfolding drainCall
      drain-ends_well =
          let judged : drain_refusal b ≡ 0 = by-kept conf b k (λ (a : Buffers). drain_refusal a ≡ 0) (λ table l g r. formed-zero table _ (State.buffers-formed g)) in
          rw (judged) (never_stuck (left b (drain_steps limit b)) (deliveries-keep conf (drain_steps limit b) b k (drain-delivers limit b)))

      drain_never_full : (drain_of limit b).answer.ending ≢ full
      drain_never_full e = ⊎_elim (λ q. absurd (omega (arith, e, q))) (λ q. absurd (omega (arith, e, q))) drain-ends_well

      drain_empties : bound < limit → (drain_of limit b).answer.ending ≡ empty
      drain_empties h =
          let ends : DrainEnds conf b limit = by-kept conf b k (λ (a : Buffers). DrainEnds conf a limit)
          (λ table l g r. drain-ends conf table l g (orderly (machine_of conf) (machine_laws g) r).invariant limit) in
          ⊎_elim (λ q. q) (λ q. absurd (ends.ends h q)) drain-ends_well

  progress : (b : Buffers) → Kept conf b → Progress conf b
  progress b k = record {
    few = by-kept conf b k (λ (a : Buffers). Mail.count_of a.mail ≤ capacity_bound conf.kept.sessions conf.kept.items) few_messages;
    accepted = λ l h. kept_accepts (left b l) (deliveries-keep conf l b k h);
    bounded = deliveries-bounded b k;
    emptied = λ l h. ends-empty (left b l) (deliveries-keep conf l b k h);
    never_full = drain_never_full b k;
    drained = drain_empties b k;
  }

pub progresses : Progresses
progresses c table mail e room l rule = progress c room (after (opened c table mail) l) (calls-keep c l (opened c table mail) begins rule)
  where
    known : Startable c table mail
    known = start-zero c table mail (start-accepted c table mail e)

    begins : Kept c (opened c table mail)
    begins = rw (start-leaves c table mail e) (here c (begun c) [] (begun-good c known) (rw (begun-state c known.sizes.bounded) starts))
