-- A drain, turn by turn: each makes the delivery of the oldest entry or ends the drain.
use mathlib.Core.Path.{◌≡◌, refl, sym, ap, subst, ◌∙◌}
use mathlib.Core.Bool.{Bool, true, false, cond, ◌&&◌, and-false, true≢false}
use mathlib.Core.List.{List, [], ◌∷◌}
use mathlib.Core.Logic.{◌⊎◌, ⊎_elim}
use Prim.Native.Nat.{ℕ, zero, suc, ◌+◌, ◌-◌, ◌≤◌, ◌<◌}
use native.Mathlib.Omega.{arith}
use lib.Dec.{eqb, ltb}
use lib.ListN.{length}
use borrow.Author.Tests.{eq-eqb, ne_eqb, eqb-true, eqb-false, ltb-true, ltb-false}
use Rattle.refusal.proofs.Outcome.{number-positive}
use Rattle.lists.proofs.Tests.{by-test, by_answer, and_both, and_intro, cond_same}
use Rattle.mailbox.specs.Entry.{Entry, to_item}
use Rattle.mailbox.specs.Layout.{count_of, entry_at}
use Rattle.refusal.specs.Refusal
use Rattle.step.specs.Step.{Stepped, Formed, stepped, refused_answer}
use Rattle.drain.specs.Oldest.{verb_of, acted_at}
use Rattle.drain.specs.Parts.{Outcome, outcome, outcome_of}
use Rattle.drain.proofs.Oldest.{oldest-earliest, entry-judged, refused_or_accepted}
use Rattle.lockmgr.specs.Run.{Buffers, buffers, done_on, left_by, left}
use Rattle.lockmgr.specs.Drain.{oldest, empty, full, limited, ending, deliveries, drain_refusal, drain_steps, drain_answer, drain_result, drain}
use Rattle.lockmgr.specs.declared.Ending.{Ending}
use Rattle.lockmgr.specs.declared.Ending.TheVariants.{Empty, Full, Limited}
use Rattle.lockmgr.specs.Ending.{ending_number}
use Rattle.lockmgr.specs.Parts.{Turned, turned, turn_of, Ahead, Ended}
use Rattle.lockmgr.proofs.Judging.{judged-none, step_acts, formed-zero}
use Rattle.lockmgr.proofs.Form.{step_keeps_form}

-- ---- the delivery of the oldest entry
verb-low : (e : Entry) → 1 ≤ verb_of e
verb-low e = by-test (λ (n : ℕ). 1 ≤ n) (eqb e.direction to_item) (λ _. omega arith) (λ _. omega arith)

verb-high : (e : Entry) → verb_of e ≤ 4
verb-high e = by-test (λ (n : ℕ). n ≤ 4) (eqb e.direction to_item) (λ _. omega arith) (λ _. omega arith)

module _ (table mail : List ℕ) (f : Formed table mail) where
  abbrev here : Buffers
  here = buffers table mail

  abbrev next : Stepped
  next = (done_on here (oldest here)).result

  module _ (k : ℕ) (first : k ≡ 0) (some : k < count_of mail) where
    next_acts : next ≡ acted_at k table mail
    next_acts =
        let e = entry_at mail 0 in
        let j = entry-judged table mail f 0 (omega (arith, first)) in
        rw (first) (step_acts (verb_of e) e.session e.item table mail
        (judged-none (verb_of e) e.session e.item table mail (verb-low e) (verb-high e) (formed-zero table mail f) j.session-low j.session-high j.item-low j.item-high))

    next-refused_or_accepted : (next ≡ stepped (refused_answer Refusal.mail_full) table mail) ⊎ (next.answer.refusal ≡ 0)
    next-refused_or_accepted = rw (next_acts) (refused_or_accepted table mail f k some (oldest-earliest mail k first some))

    -- the ending, by what the delivery is refused with
    not-empty : eqb (count_of mail) 0 ≡ false
    not-empty = ne_eqb (count_of mail) 0 (λ q. absurd (omega (arith, q, some)))

    ends-full : next.answer.refusal ≡ Refusal.mail_full → ending here ≡ full
    unfolding ending
    ends-full e = rw (not-empty, e) refl

    goes_on : next.answer.refusal ≡ 0 → ending here ≡ limited
    unfolding ending
    goes_on e = rw (not-empty, e) refl

    -- what the code does in a turn, by what the delivery comes to
    module _ (limit made n : ℕ) (table' mail' : List ℕ) where
      module _ (allowed : Bool) (o : outcome n table' mail' ≡ outcome_of allowed table mail (acted_at k table mail)) where
        told : outcome n table' mail' ≡ outcome_of allowed table mail next
        told = o ∙ ap (outcome_of allowed table mail) (sym next_acts)

        refusal_is : n ≡ next.answer.refusal
        refusal_is = ap (λ (o : Outcome). o.refusal) told

        module _ (e : next ≡ stepped (refused_answer Refusal.mail_full) table mail) where
          same-table : table' ≡ table
          same-table = ap (λ (o : Outcome). o.table) told ∙ ap (λ (r : Stepped). cond allowed r.table table) e ∙ cond_same allowed table

          same-mail : mail' ≡ mail
          same-mail = ap (λ (o : Outcome). o.mail) told ∙ ap (λ (r : Stepped). cond allowed r.mail mail) e ∙ cond_same allowed mail

        pub turn-full : (n ≡ 0 → ⊥) → turned full made table' mail' ≡ turn_of limit made here
        turn-full h =
            ⊎_elim
            (λ e. rw (same-table e, same-mail e, ends-full (ap (λ (r : Stepped). r.answer.refusal) e), and-false (ltb made limit)) refl)
            (λ e. absurd (h (refusal_is ∙ e)))
            next-refused_or_accepted

      pub turn-made : outcome n table' mail' ≡ outcome_of true table mail (acted_at k table mail) → n ≡ 0 → ltb made limit ≡ true → turned 0 (made + 1) table' mail' ≡ turn_of limit made here
      turn-made o z h =
          rw (h, goes_on (sym (refusal_is true o) ∙ z), ap (λ (o : Outcome). o.table) (told true o), ap (λ (o : Outcome). o.mail) (told true o)) refl

      pub turn-judged : outcome n table' mail' ≡ outcome_of false table mail (acted_at k table mail) → n ≡ 0 → ltb made limit ≡ false → turned limited made table' mail' ≡ turn_of limit made here
      turn-judged o z h =
          rw (h, goes_on (sym (refusal_is false o) ∙ z), ap (λ (o : Outcome). o.table) (told false o), ap (λ (o : Outcome). o.mail) (told false o)) refl

  -- where nothing but the limit could end a drain, the next delivery is accepted
  abbrev Accepted : ℕ → Type 0
  Accepted n = n ≡ limited → next.answer.refusal ≡ 0

  pub next-accepted : Accepted (ending here)
  unfolding ending
  next-accepted =
      by-test Accepted (eqb (count_of mail) 0) (λ _ q. absurd (omega (arith, q)))
      (λ c. by-test Accepted (eqb next.answer.refusal Refusal.mail_full) (λ _ q. absurd (omega (arith, q)))
      (λ r _. ⊎_elim (λ e. absurd (eqb-false next.answer.refusal Refusal.mail_full r (ap (λ (r : Stepped). r.answer.refusal) e))) (λ e. e)
      (next-refused_or_accepted 0 refl (omega (arith, eqb-false (count_of mail) 0 c)))))

-- no entry is left
ends-empty : (table mail : List ℕ) → count_of mail ≡ 0 → ending (buffers table mail) ≡ empty
unfolding ending
ends-empty table mail e = rw (e) refl

pub turn-empty : (limit made : ℕ) (table mail : List ℕ) → count_of mail ≡ 0 → turned empty made table mail ≡ turn_of limit made (buffers table mail)
turn-empty limit made table mail e = rw (ends-empty table mail e, and-false (ltb made limit)) refl

-- ---- turns
-- every ending has a number other than 0
pub ending-positive : (e : Ending) → ending_number e ≡ 0 → ⊥
ending-positive Empty q = omega arith
ending-positive Full q = omega arith
ending-positive Limited q = omega arith

-- a turn leaves well-formed buffers
pub turn-formed : (limit made : ℕ) (b : Buffers) → Formed b.table b.mail → Formed (turn_of limit made b).left.table (turn_of limit made b).left.mail
turn-formed limit made b f =
    by-test (λ (t : Turned). Formed t.left.table t.left.mail) (ltb made limit && eqb (ending b) limited)
    (λ _. (step_keeps_form (oldest b).verb (oldest b).session (oldest b).item b.table b.mail f).formed)
    (λ _. f)

-- a drain before its first turn
pub ahead-all : (limit : ℕ) (b : Buffers) → Ahead limit 0 b b
ahead-all limit b = let e : limit - 0 ≡ limit = omega arith in record { allowed = omega arith; made = rw (e) (omega arith); left = rw (e) refl }

-- what the limit allows, with a delivery more or at the end
module _ (b : Buffers) where
  one_more : (n : ℕ) → ending b ≡ limited → deliveries (suc n) b ≡ oldest b ∷ deliveries n (left_by (done_on b (oldest b)))
  unfolding deliveries
  one_more n e = rw (e) refl

  none_allowed : deliveries 0 b ≡ []
  unfolding deliveries
  none_allowed = refl

  none_possible : (n : ℕ) → (ending b ≡ limited → ⊥) → deliveries n b ≡ []
  unfolding deliveries
  none_possible zero h = refl
  none_possible (suc n) h = rw (ne_eqb (ending b) limited h) refl

module _ (limit j : ℕ) (from to : Buffers) (a : Ahead limit j from to) where
  -- a delivery is made
  turn-delivers : j < limit → ending to ≡ limited → Ahead limit (j + 1) from (left_by (done_on to (oldest to)))
  unfolding left
  turn-delivers h e =
      let m = limit - (j + 1) in
      let n : limit - j ≡ suc m = omega arith in
      let l : deliveries (limit - j) to ≡ oldest to ∷ deliveries m (left_by (done_on to (oldest to))) = rw (n) (one_more to m e) in
      record {
        allowed = omega arith;
        made = omega (arith, a.made, ap length l);
        left = a.left ∙ ap (left to) l;
      }

  -- the drain ends
  turn-ends : deliveries (limit - j) to ≡ [] → Ended limit j (ending to) from to
  unfolding left
  turn-ends e = record { made = omega (arith, a.made, ap length e); left = a.left ∙ ap (left to) e; ending = refl }

  ends-limited : limit ≤ j → Ended limit j (ending to) from to
  ends-limited h = let n : limit - j ≡ 0 = omega arith in turn-ends (rw (n) (none_allowed to))

  ends_early : (ending to ≡ limited → ⊥) → Ended limit j (ending to) from to
  ends_early h = turn-ends (none_possible to (limit - j) h)

  -- a turn is one or the other
  abbrev After : Turned → Type 0
  After t = (t.ending ≡ 0 → Ahead limit t.made from t.left) × ((t.ending ≡ 0 → ⊥) → Ended limit t.made t.ending from t.left) × (t.made ≤ limit)

  never_zero : ending to ≡ 0 → ⊥
  unfolding ending
  never_zero = by-test (λ (n : ℕ). n ≡ 0 → ⊥) (eqb (count_of to.mail) 0) (λ _ q. omega arith)
      (λ _. by-test (λ (n : ℕ). n ≡ 0 → ⊥) (eqb (done_on to (oldest to)).result.answer.refusal Refusal.mail_full) (λ _ q. omega arith) (λ _ q. omega arith))

  turn-either : After (turn_of limit j to)
  turn-either =
      by-test After (ltb j limit && eqb (ending to) limited)
      (λ q. let p = and_both (ltb j limit) (eqb (ending to) limited) q in
      let less = ltb-true j limit p.0 in
      ((λ _. turn-delivers less (eqb-true (ending to) limited p.1)), (λ h. absurd (h refl)), omega arith))
      (λ q. (
        (λ z. absurd (never_zero z)),
        (λ _. by_answer (ltb j limit)
            (λ h. ends_early (λ w. absurd (true≢false (sym (and_intro h (eq-eqb (ending to) limited w)) ∙ q))))
            (λ h. ends-limited (ltb-false j limit h))),
        a.allowed,
      ))

  pub turn-taken : (t : Turned) → t ≡ turn_of limit j to → After t
  turn-taken t e = subst After (sym e) turn-either

-- ---- the whole drain
module _ (limit : ℕ) (table mail : List ℕ) where
  abbrev start : Buffers
  start = buffers table mail

  pub drained : drain_refusal start ≡ 0 → (j n : ℕ) (to : Buffers) → Ended limit j n start to
      → drain_result (drain_answer 0 j n) to.table to.mail ≡ drain limit table mail
  unfolding drain drain_steps
  drained z j n to e = rw (z, e.made, e.left, e.ending) refl

  pub drain-refused : (drain_refusal start ≡ 0 → ⊥) → drain limit table mail ≡ drain_result (drain_answer (drain_refusal start) 0 0) table mail
  unfolding drain drain_steps left
  drain-refused h = rw (ne_eqb (drain_refusal start) 0 h) refl

pub ruleset refusals = (drain-refused, number-positive)
