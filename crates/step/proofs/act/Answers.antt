-- The tests are the causes in their order; an item acts in a delivery to it, a session in every other step.
use mathlib.Core.List.{List}
use mathlib.Core.Path.{◌≡◌, refl, sym, ap, ◌∙◌}
use mathlib.Core.Logic.{◌⊎◌, inl, inr}
use Rattle.std.proofs.Common.{rules}
use native.Mathlib.Omega.{arith}
use Prim.Native.Nat.{ℕ, ◌<◌}
use lib.ListN.{length, get_or}
use mathlib.Core.Bool.{true}
use Rattle.std.specs.Prelude.{Option, Some, None, is_some}
use borrow.Author.Tests.{eq-eqb, ne_eqb}
use Rattle.session.specs.declared.SessionStep.{SessionStep}
use Rattle.item.specs.Rules as Item
use Rattle.item.specs.declared.ItemStep.{ItemStep}
use Rattle.mailbox.specs.Entry.{Entry, unused}
use Rattle.mailbox.specs.Layout.{count_of, entry_at, entries_of}
use Rattle.mailbox.proofs.Laws.{get_d_entries}
use Rattle.table.specs.Layout.{session, senior}
use Rattle.waits.specs.OnTable.{locks}
use Rattle.refusal.specs.Refusal.{first}
use Rattle.refusal.proofs.Outcome.{number-positive, passed-on}
use Rattle.step.specs.declared.Verb.{Verb}
use Rattle.step.specs.declared.Verb.TheVariants.{Request, Release, DeliverToSession}
use Rattle.step.specs.Verb.{verb_number}
use Rattle.step.specs.Step.{request, release, deliver_to_item, step_causes, item_receives}
use Rattle.step.specs.Parts.{Unhindered, Judged, Found, place_of}
use Rattle.step.proofs.Acting.{unhindered, mail-kept, juniors-whole, has-session, has-item, for-item, acts_few, acted-refused, acted-concluded, delivers, item_acts, session_acting}
use Rattle.step.proofs.Form.{plan_keeps}
use Rattle.step.proofs.Verbs.{verb-bounds}
use Rattle.step.proofs.act.Goals as goal

there : (o : Option ℕ) (l : List Entry) {p : ℕ} → place_of o l ≡ p → p < length l → is_some o ≡ true
there (Some k) l e h = refl
there None l e h = absurd (omega (arith, e, h))

-- what is known of a step on judged buffers that nothing hinders
module _ (v : Verb) {t x : ℕ} {o : Option ℕ} {table mail : List ℕ} (judged : Judged t x table mail) (found : Found (verb_number v) t x o mail) (none : 0 ≡ first (step_causes (verb_number v) t x table (entries_of mail))) where
  free : Unhindered (verb_number v) t x table (entries_of mail)
  free = unhindered (verb_number v) t x table (entries_of mail) (sym none)

  -- a delivery finds its entry
  some : (verb_number v ≡ request → ⊥) → (verb_number v ≡ release → ⊥) → is_some o ≡ true
  some a b =
      let p = verb-bounds v in
      there o (entries_of mail) found.place (delivers (verb_number v) t x table (entries_of mail) free p.0 p.1 a b)

  -- so does one to an item
  some-item : verb_number v ≡ deliver_to_item → is_some o ≡ true
  some-item e = some (λ q. absurd (omega (arith, e, q))) (λ q. absurd (omega (arith, e, q)))

-- a session acts in every other step
other : {v : Verb} → (v ≡ Request) ⊎ ((v ≡ Release) ⊎ (v ≡ DeliverToSession)) → verb_number v ≡ deliver_to_item → ⊥
other (inl e) q = absurd (omega (arith, q, ap verb_number e))
other (inr (inl e)) q = absurd (omega (arith, q, ap verb_number e))
other (inr (inr e)) q = absurd (omega (arith, q, ap verb_number e))

-- an entry that is there, read from the mail or from the list of its entries
read : (mail : List ℕ) (k : ℕ) (f : Entry → ItemStep) {s : ItemStep} → k < count_of mail → s ≡ f (entry_at mail k) → s ≡ f (get_or (entries_of mail) k unused)
read mail k f i e = rw (get_d_entries mail k i) e

pub delivered-entry-requires : goal.delivered-entry-requires
delivered-entry-requires c = mail-kept c.args.t c.args.x c.args.table.now c.args.mail.now c.requires (search rules)

pub returns-in_err-step_refusal : goal.returns-in_err-step_refusal
returns-in_err-step_refusal c =
    let is = c.in_err-step_refusal.ensures in
    rw (passed-on _ _ c.from_residual.ensures.1, is, acted-refused (senior c.args.table.now) (verb_number c.args.verb) c.args.t c.args.x c.args.table.now c.args.mail.now (λ z. number-positive c.in_err-step_refusal.field-0.0 (is ∙ z))) refl

pub unwrap-requires : goal.unwrap-requires
unwrap-requires c = some-item c.args.verb c.requires c.delivered-entry.ensures c.in_ok-step_refusal.ensures (ap verb_number c.in-DeliverToItem.is)

pub item_receives-r-requires : goal.item_receives-r-requires
item_receives-r-requires c =
    let kept = mail-kept c.args.t c.args.x c.args.table.now c.args.mail.now c.requires (search rules) in
    for-item c.args.t c.args.x c.args.table.now c.args.mail.now c.requires c.unwrap.result (record { kept = kept; inside = rw c.unwrap.ensures at c.delivered-entry.ensures.inside })

pub commit_item-requires : goal.commit_item-requires
commit_item-requires c =
    let kept = mail-kept c.args.t c.args.x c.args.table.now c.args.mail.now c.requires (search rules) in
    let f = c.delivered-entry.ensures in
    let received = read c.args.mail.now c.unwrap.result (λ e. Item.step_of (item_receives (senior c.args.table.now) (locks c.args.table.now c.args.x) e)) (rw c.unwrap.ensures at f.inside) c.item_receives-r.ensures.0 in
    let p = verb-bounds c.args.verb in
    let formed = (plan_keeps c.args.t c.args.x c.args.table.now c.args.mail.now c.requires (verb_number c.args.verb) p.0 p.1 (free c.args.verb c.requires f c.in_ok-step_refusal.ensures)).formed in
    let is = item_acts (senior c.args.table.now) (verb_number c.args.verb) c.args.t c.args.x c.args.table.now (entries_of c.args.mail.now) (eq-eqb (verb_number c.args.verb) 3 (ap verb_number c.in-DeliverToItem.is)) in
    (has-session c.args.t c.args.x c.args.table.now c.args.mail.now c.requires, has-item c.args.t c.args.x c.args.table.now c.args.mail.now c.requires, rw (received, rw c.unwrap.ensures at f.place) (rw (is) at formed), kept, c.item_receives-r.ensures.1, f.inside)

pub returns-in-DeliverToItem : goal.returns-in-DeliverToItem
returns-in-DeliverToItem c =
    let f = c.delivered-entry.ensures in
    let received = read c.args.mail.now c.unwrap.result (λ e. Item.step_of (item_receives (senior c.args.table.now) (locks c.args.table.now c.args.x) e)) (rw c.unwrap.ensures at f.inside) c.item_receives-r.ensures.0 in
    let is = item_acts (senior c.args.table.now) (verb_number c.args.verb) c.args.t c.args.x c.args.table.now (entries_of c.args.mail.now) (eq-eqb (verb_number c.args.verb) 3 (ap verb_number c.in-DeliverToItem.is)) in
    c.commit_item.ensures _ received ∙ sym (acted-concluded (senior c.args.table.now) (verb_number c.args.verb) c.args.t c.args.x c.args.table.now c.args.mail.now (sym c.in_ok-step_refusal.ensures) ∙ rw (is, ← f.place) (rw c.unwrap.ensures refl))

pub session_acts-r-requires : goal.session_acts-r-requires
session_acts-r-requires c =
    record { judged = c.requires; found = c.delivered-entry.ensures; some = λ a b. some c.args.verb c.requires c.delivered-entry.ensures c.in_ok-step_refusal.ensures a b }

pub commit_session-requires : goal.commit_session-requires
commit_session-requires c =
    let kept = mail-kept c.args.t c.args.x c.args.table.now c.args.mail.now c.requires (search rules) in
    let l = entries_of c.args.mail.now in
    let few = acts_few (senior c.args.table.now) c.args.t (session c.args.table.now c.args.t) (juniors-whole c.args.t c.args.x c.args.table.now c.args.mail.now c.requires) (get_or l (place_of c.delivered-entry.result l) unused) (verb_number c.args.verb) c.args.x in
    (has-session c.args.t c.args.x c.args.table.now c.args.mail.now c.requires, kept, omega (arith, ap (λ (r : SessionStep). length r.outbox) c.session_acts-r.ensures, few), c.delivered-entry.ensures.inside)

pub returns-in-Request : goal.returns-in-Request
returns-in-Request c =
    let is = session_acting (senior c.args.table.now) (verb_number c.args.verb) c.args.t c.args.x c.args.table.now (entries_of c.args.mail.now) (ne_eqb (verb_number c.args.verb) 3 (other c.in-Request.is)) in
    c.commit_session.ensures _ c.session_acts-r.ensures ∙ sym (acted-concluded (senior c.args.table.now) (verb_number c.args.verb) c.args.t c.args.x c.args.table.now c.args.mail.now (sym c.in_ok-step_refusal.ensures) ∙ rw (is, ← c.delivered-entry.ensures.place) refl)
