-- One step of a replay: what it counts.
use mathlib.Core.Path.{◌≡◌, refl, sym, ap, ◌∙◌}
use mathlib.Core.Bool.{Bool, true, false, not, ◌&&◌, true≢false}
use mathlib.Core.List.{List}
use Prim.Native.Nat.{ℕ, ◌+◌, ◌≤◌}
use native.Mathlib.Omega.{arith}
use lib.Dec.{eqb}
use Rattle.lists.specs.Lists.{between}
use Rattle.lists.proofs.Tests.{between_intro}
use Rattle.session.specs.Stage
use Rattle.item.specs.Rules as Item
use Rattle.mailbox.specs.Layout as Mail
use Rattle.table.specs.Layout as Table
use Rattle.table.specs.Layout.{sessions_of}
use Rattle.waits.specs.OnTable.{cycle_length}
use Rattle.step.specs.Step.{Stepped, stepped, plan, Formed}
use Rattle.lockmgr.specs.Calls.{step}
use Rattle.step.specs.declared.Answer.{Answer}
use Rattle.lockmgr.specs.Run as Run
use Rattle.lockmgr.specs.Run.{one, declares, rolls_back, counted}
use Rattle.lockmgr.proofs.Judging.{by_call, judged-zero, step-refused}
use Rattle.step.proofs.Form.{FormKept}
use Rattle.lockmgr.proofs.Form.{step_keeps_form}
use Rattle.tally.specs.declared.Tally.{Tally}
use Rattle.tally.specs.Tally.{added}
use Rattle.tally.specs.declared.Step.{Step}
use Rattle.tally.specs.Steps.{step_of, tally_of, is_rolled_back, Tallied}

abbrev pub step_table : Stepped → List ℕ
step_table r = r.table

abbrev pub step_mail : Stepped → List ℕ
step_mail r = r.mail

abbrev pub answer_of : Stepped → Answer
answer_of r = r.answer

pub one-low : (b : Bool) → one b ≤ 1
one-low true = omega arith
one-low false = omega arith

never_both : (b : Bool) → not b && b ≡ false
never_both true = refl
never_both false = refl

module _ (verb t x : ℕ) (table mail : List ℕ) where
  -- a step closes one cycle at most
  closes-one : (step verb t x table mail).answer.closed ≤ 1
  closes-one =
      by_call verb t x table mail (λ (r : Stepped). r.answer.closed ≤ 1) (λ _ _. omega arith)
      (λ _ _ _ _ _. let p = plan (Table.senior table) verb t x table (Mail.entries_of mail) in one-low (Item.joined p.event && not (eqb (cycle_length p.table t) 0)))

  -- a step that names a session that there is not is refused
  unnumbered : between 1 (sessions_of table) t ≡ false → (step verb t x table mail).table ≡ table
  unnumbered e =
      ap step_table (step-refused verb t x table mail (λ z. let j = (judged-zero verb t x table mail z).2 in
      true≢false (sym (between_intro 1 (sessions_of table) t j.session-low j.session-high) ∙ e)))

  module _ (f : Formed table mail) where
    abbrev after : List ℕ
    after = (step verb t x table mail).table

    -- whether the step rolls the session back, from the tables before and after
    rolls-back : (b : Bool) → between 1 (sessions_of table) t ≡ b → not (is_rolled_back table t) && is_rolled_back after t ≡ rolls_back t table after
    rolls-back true e = rw (ap (λ (c : Table.Config). c.sessions) (step_keeps_form verb t x table mail f).config, e) refl
    rolls-back false e = rw (unnumbered e, e) (sym (never_both (eqb (Table.session table t).stage Stage.rolled_back)))

module _ (c : Step) (table mail : List ℕ) (f : Formed table mail) where
  abbrev did : Stepped
  did = step c.verb c.session c.item table mail

  kept : FormKept table mail did
  kept = step_keeps_form c.verb c.session c.item table mail f

  pub formed-after : {a : Answer} {table' mail' : List ℕ} → stepped a table' mail' ≡ did → Formed table' mail'
  formed-after e = rw (ap step_table e, ap step_mail e) kept.formed

  -- with its answer added the tally is as the step leaves it
  pub adds_step : {a : Answer} {rolled : Bool} {table' mail' : List ℕ} → stepped a table' mail' ≡ did
      → rolled ≡ not (is_rolled_back table c.session) && is_rolled_back table' c.session
      → (t : Tally) → Tallied (step_of c) table mail t a (added a rolled t) table' mail'
  adds_step {rolled = rolled} e r t =
      let rolls : rolled ≡ rolls_back c.session table did.table = rw (r, ap step_table e) (rolls-back c.verb c.session c.item table mail f (between 1 (sessions_of table) c.session) refl) in
      record { did = e; tally = rw (rolls, ap answer_of e) refl }

  -- the tally grows by one at most
  pub few-more : (t : Tally) {u : Tally} → tally_of u ≡ counted c.session table did (tally_of t)
      → (u.closed ≤ t.closed + 1) × (u.declared ≤ t.declared + 1) × (u.rolled_back ≤ t.rolled_back + 1)
  few-more t e = (
    omega (arith, ap (λ (y : Run.Tally). y.closed) e, closes-one c.verb c.session c.item table mail),
    omega (arith, ap (λ (y : Run.Tally). y.declared) e, one-low (declares did.answer)),
    omega (arith, ap (λ (y : Run.Tally). y.rolled_back) e, one-low (rolls_back c.session table did.table)),
  )
