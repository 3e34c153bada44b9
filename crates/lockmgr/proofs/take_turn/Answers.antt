-- No entry is left, or the delivery of the oldest is made, judged or refused.
use mathlib.Core.Path.{◌≡◌, refl, sym, ◌∙◌}
use mathlib.Core.List.{List}
use Prim.Native.Nat.{ℕ, ◌<◌}
use native.Mathlib.Omega.{arith}
use lib.Dec.{ltb}
use Rattle.mailbox.specs.Layout.{count_of}
use Rattle.mailbox.proofs.Laws.{kept-length}
use Rattle.refusal.proofs.Outcome.{number-positive}
use Rattle.drain.specs.declared.Gap.{Gap}
use Rattle.drain.specs.Parts.{closed_up, GapIn}
use Rattle.drain.proofs.Gaps.{left, some_left}
use Rattle.drain.proofs.Oldest.{oldest_due}
use Rattle.lockmgr.proofs.Draining.{turn-empty, turn-full, turn-made, turn-judged}
use Rattle.lockmgr.proofs.take_turn.Goals as goal

-- an entry is left: it stands behind the gap, and is there once the gap is closed
module _ (g : Gap) (mail : List ℕ) (spent : GapIn g mail) {n : ℕ} (counted : n ≡ count_of mail) (more : g.to < n) where
  behind : g.to < count_of mail
  behind = omega (arith, counted)

  waits : g.from < count_of (closed_up g mail)
  waits = some_left g mail spent behind

pub count-requires : goal.count-requires
count-requires c = omega (arith, kept-length c.args.mail.now c.requires.1.kept)

pub returns-then-count-gap : goal.returns-then-count-gap
returns-then-count-gap c =
    let l = left c.args.gap c.args.mail.now c.requires.1 in
    (c.requires.0, c.requires.1, turn-empty c.args.limit c.args.made c.args.table.now (closed_up c.args.gap c.args.mail.now) (omega (arith, l.count, c.if-count-gap.true, c.count.ensures, c.requires.0)))

pub deliver-requires : goal.deliver-requires
deliver-requires c =
    oldest_due c.args.gap c.args.table.now c.args.mail.now c.requires.0 c.requires.1 (behind c.args.gap c.args.mail.now c.requires.1 c.count.ensures c.if-count-gap.false) c.requires.2

pub returns-in-Ok-Some : goal.returns-in-Ok-Some
returns-in-Ok-Some c =
    let some = waits c.args.gap c.args.mail.now c.requires.1 c.count.ensures c.if-count-gap.false in
    let d = rw c.in-Ok-Some.field-0-is at c.in-Ok-Some.ensures in
    (d.1 ∙ c.requires.0, d.0, turn-made c.args.table.now (closed_up c.args.gap c.args.mail.now) c.requires.2 c.args.gap.from c.requires.0 some c.args.limit c.args.made _ _ _ (rw (sym d.3) at d.2) refl (sym d.3))

pub returns-in-Ok-None : goal.returns-in-Ok-None
returns-in-Ok-None c =
    let some = waits c.args.gap c.args.mail.now c.requires.1 c.count.ensures c.if-count-gap.false in
    let d = rw c.in-Ok-None.field-0-is at c.in-Ok-None.ensures in
    (d.1 ∙ c.requires.0, d.0, turn-judged c.args.table.now (closed_up c.args.gap c.args.mail.now) c.requires.2 c.args.gap.from c.requires.0 some c.args.limit c.args.made _ _ _ (rw (sym d.3) at d.2) refl (sym d.3))

pub returns-in-Err : goal.returns-in-Err
returns-in-Err c =
    let some = waits c.args.gap c.args.mail.now c.requires.1 c.count.ensures c.if-count-gap.false in
    let d = c.in-Err.ensures in
    (d.1 ∙ c.requires.0, d.0, turn-full c.args.table.now (closed_up c.args.gap c.args.mail.now) c.requires.2 c.args.gap.from c.requires.0 some c.args.limit c.args.made _ _ _ (ltb c.args.made c.args.limit) d.2 (number-positive c.in-Err.field-0))
