-- `item` meets its contract, by what `row` and `queue` ensure.
use mathlib.Core.Path.{refl, sym, ◌∙◌}
use Prim.Native.Nat.{◌+◌}
use native.Mathlib.Omega.{arith}
use borrow.Author.Tests.{lt-leb, le-leb}
use lib.ListN.{get_or}
use lib.Seq.{length-take-le}
use Rattle.message.specs.Limits.{max_sessions}
use Rattle.item.specs.Record.{waiting_place, well_formed}
use Rattle.form.proofs.FormLaws.{item_form, taken_low}
use Rattle.form.proofs.item.Goals.{then-h-s-via-then-h-s, then-h-s-via-else-h-s+then-n-gt-MAX_SESSIONS}
use Rattle.form.proofs.item.Goals as goal

pub returns-then-h-s : goal.returns-then-h-s
unfolding well_formed
returns-then-h-s c =
    let a = c.args in
    let t = a.t.now in
    elim c.then-h-s.branch [
      | then-h-s-via-then-h-s w ↦ rw (lt-leb (get_or t a.at 0) a.limits.now.sessions w.if-h-s.true) refl
      | then-h-s-via-else-h-s+then-n-gt-MAX_SESSIONS w ↦
          rw (le-leb (get_or t a.at 0) a.limits.now.sessions w.if-h-s.false, lt-leb (get_or t (a.at + waiting_place) 0) max_sessions (rw (c.from-n.ensures) at w.if-n-gt-MAX_SESSIONS.true)) refl
    ]

pub slice_bounds-queue-end : goal.slice_bounds-queue-end
slice_bounds-queue-end c = sym (length-take-le c.from-n.result c.row_at-line.result.now (omega arith))

pub queue-requires : goal.queue-requires
queue-requires c =
    (omega arith, λ k l. omega (arith, taken_low c.args.limits.now.sessions c.from-n.result c.row_at-line.result.now (sym c.row.ensures ∙ c.if-row.true) k l))

pub returns-then-row : goal.returns-then-row
returns-then-row c =
    let a = c.args in
    let t = a.t.now in
    c.queue.ensures
    ∙ sym (item_form t a.at a.limits.now.sessions c.from-n.ensures c.row_at-line.ensures.0
    ∙ rw (le-leb (get_or t a.at 0) a.limits.now.sessions c.if-h-s.false, le-leb c.from-n.result max_sessions c.if-n-gt-MAX_SESSIONS.false, ← c.row.ensures, c.if-row.true) refl)

pub returns-else-row : goal.returns-else-row
returns-else-row c =
    let a = c.args in
    let t = a.t.now in
    c.if-row.false
    ∙ sym (item_form t a.at a.limits.now.sessions c.from-n.ensures c.row_at-line.ensures.0
    ∙ rw (le-leb (get_or t a.at 0) a.limits.now.sessions c.if-h-s.false, le-leb c.from-n.result max_sessions c.if-n-gt-MAX_SESSIONS.false, ← c.row.ensures, c.if-row.false) refl)
