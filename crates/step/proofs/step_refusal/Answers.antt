-- The tests of the code are the causes in their order.
use mathlib.Core.Path.{◌≡◌, refl, sym, ap}
use mathlib.Core.Bool.{Bool, not, ◌&&◌}
use lib.Dec.{eqb}
use mathlib.Core.List.{List}
use Prim.Native.Nat.{ℕ, ◌<◌}
use native.Mathlib.Omega.{arith}
use lib.ListN.{length}
use borrow.Author.Tests.{eq-eqb, ne_eqb}
use Rattle.std.specs.Prelude.{Option, Some, None, IfSome, is_some}
use Rattle.mailbox.specs.Entry.{Entry}
use Rattle.mailbox.specs.Layout.{count_of, entries_of}
use Rattle.mailbox.proofs.Laws.{length-entries}
use Rattle.refusal.specs.Refusal.{first}
use Rattle.step.specs.Step.{is_delivery, delivered, nothing_to_deliver}
use Rattle.step.specs.Parts.{Found, place_of}
use Rattle.step.specs.declared.Verb.{Verb}
use Rattle.step.specs.Verb.{verb_number}
use Rattle.step.proofs.Acting.{item-max}
use Rattle.step.proofs.step_refusal.Goals.{else-is_delivery-via-then-is_delivery+else-is_none, else-is_delivery-via-else-is_delivery}
use Rattle.step.proofs.step_refusal.Goals as goal

-- a delivery finds none where the place is none
at-end : (o : Option ℕ) (l : List Entry) (n : ℕ) → n ≡ length l → IfSome o (λ k. k < n) → eqb (place_of o l) (length l) ≡ not (is_some o)
at-end None l n e h = eq-eqb (length l) (length l) refl
at-end (Some k) l n e h = ne_eqb k (length l) (λ q. absurd (omega (arith, q, e, h)))

nothing : (v : Verb) (o : Option ℕ) {t x : ℕ} {mail : List ℕ} → Found (verb_number v) t x o mail
    → nothing_to_deliver (verb_number v) (delivered (verb_number v) t x (entries_of mail)) (entries_of mail) ≡ (is_delivery (verb_number v) && not (is_some o))
nothing v o {mail = mail} f =
    rw (← f.place) (ap (λ (b : Bool). is_delivery (verb_number v) && b) (at-end o (entries_of mail) (count_of mail) (sym (length-entries mail)) f.inside))

pub mask_forbids-masked-requires : goal.mask_forbids-masked-requires
mask_forbids-masked-requires c =
    (c.requires.0.item-low, item-max c.args.t c.args.x c.args.table.now c.args.mail.now c.requires.0)

pub returns-then-staged : goal.returns-then-staged
unfolding first
returns-then-staged c = rw (← c.session-s.ensures, ← c.stage_forbids-staged.ensures, c.if-staged.true) refl

pub returns-then-masked : goal.returns-then-masked
unfolding first
returns-then-masked c =
    rw (← c.session-s.ensures, ← c.stage_forbids-staged.ensures, c.if-staged.false, ← c.mask_forbids-masked.ensures, c.if-masked.true) refl

pub returns-then-is_none : goal.returns-then-is_none
unfolding first
returns-then-is_none c =
    let n = nothing c.args.verb c.args.entry c.requires.1 in
    rw (← c.session-s.ensures, ← c.stage_forbids-staged.ensures, c.if-staged.false, ← c.mask_forbids-masked.ensures, c.if-masked.false, n, ← c.is_delivery.ensures, c.if-is_delivery.true, c.is_none.ensures, c.if-is_none.true) refl

pub returns : goal.returns
unfolding first
returns c =
    let n = nothing c.args.verb c.args.entry c.requires.1 in
    rw (← c.session-s.ensures, ← c.stage_forbids-staged.ensures, c.if-staged.false, ← c.mask_forbids-masked.ensures, c.if-masked.false, n, ← c.is_delivery.ensures)
    (elim c.else-is_delivery.branch [
      | else-is_delivery-via-then-is_delivery+else-is_none w ↦ rw (w.if-is_delivery.true, w.is_none.ensures, w.if-is_none.false) refl
      | else-is_delivery-via-else-is_delivery w ↦ rw (w.if-is_delivery.false) refl
    ])
