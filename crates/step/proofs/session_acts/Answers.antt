-- A request and a release look at the record alone, a delivery at the entry too.
use mathlib.Core.Path.{◌≡◌, refl, ap, ◌∙◌}
use mathlib.Core.Logic.{◌⊎◌, inl, inr}
use Prim.Native.Nat.{◌<◌}
use native.Mathlib.Omega.{arith}
use Rattle.mailbox.specs.Layout.{count_of}
use Rattle.mailbox.proofs.Laws.{get_d_entries}
use Rattle.step.specs.declared.Verb.{Verb}
use Rattle.step.specs.declared.Verb.TheVariants.{DeliverToItem, DeliverToSession}
use Rattle.step.specs.Verb.{verb_number}
use Rattle.step.specs.Step.{session_acts, request, release}
use Rattle.step.proofs.Acting.{item-max, mail-kept, for-session}
use Rattle.step.proofs.session_acts.Goals as goal

-- a delivery is neither a request nor a release
delivery : {P : Type 0} {v : Verb} → (v ≡ DeliverToItem) ⊎ (v ≡ DeliverToSession) → ((verb_number v ≡ request → ⊥) → (verb_number v ≡ release → ⊥) → P) → P
delivery (inl e) f = f (λ q. absurd (omega (arith, q, ap verb_number e))) (λ q. absurd (omega (arith, q, ap verb_number e)))
delivery (inr e) f = f (λ q. absurd (omega (arith, q, ap verb_number e))) (λ q. absurd (omega (arith, q, ap verb_number e)))

pub release-requires : goal.release-requires
release-requires c =
    (c.requires.judged.item-low, item-max c.args.t c.args.x c.args.table.now c.args.mail.now c.requires.judged)

pub unwrap-requires : goal.unwrap-requires
unwrap-requires c = delivery c.in-DeliverToItem.is c.requires.some

pub session_receives-requires : goal.session_receives-requires
session_receives-requires c =
    let inside : c.unwrap.result < count_of c.args.mail.now = rw c.unwrap.ensures at c.requires.found.inside in
    let kept = mail-kept c.args.t c.args.x c.args.table.now c.args.mail.now c.requires.judged (λ i h. omega (arith, c.type_inv.mail i)) in
    for-session c.args.t c.args.x c.args.table.now c.args.mail.now c.requires.judged c.unwrap.result (record { kept = kept; inside = inside })

pub returns-in-Request : goal.returns-in-Request
unfolding session_acts
returns-in-Request c = c.request.ensures ∙ rw (c.session.ensures, c.in-Request.is) refl

pub returns-in-Release : goal.returns-in-Release
unfolding session_acts
returns-in-Release c = c.release.ensures ∙ rw (c.session-in-Release.ensures, c.in-Release.is) refl

pub returns-in-DeliverToItem : goal.returns-in-DeliverToItem
unfolding session_acts
returns-in-DeliverToItem c =
    let inside : c.unwrap.result < count_of c.args.mail.now = rw c.unwrap.ensures at c.requires.found.inside in
    c.session_receives.ensures.0
    ∙ rw c.unwrap.ensures
    (elim c.in-DeliverToItem.is
    [ inl e ↦ rw (e, get_d_entries c.args.mail.now c.unwrap.result inside) refl | inr e ↦ rw (e, get_d_entries c.args.mail.now c.unwrap.result inside) refl ])
