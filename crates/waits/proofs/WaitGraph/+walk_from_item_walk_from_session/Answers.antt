-- The two halves meet their contracts. An item found by a session is held, and its holder is a session.
use mathlib.Core.Path.{◌≡◌, sym, ap, ◌∙◌}
use native.Mathlib.Omega.{arith}
use Prim.Native.Nat.{◌-◌}
use Rattle.table.specs.Layout.{items_of}
use Rattle.waits.specs.declared.Wait.{Wait}
use Rattle.waits.specs.Walk.{unless_zero, walk_from_session}
use Rattle.waits.specs.OnTable.{locks, waits_at}
use Rattle.waits.proofs.Laws.{session-spent, item-spent, session-stays, session-goes, item-back, item-goes, more-none, more-some, unless-zero-is, session_le, wait-is, waits-nowhere, waits_at-held, waits-at-item, holder-high, holder-read}
use Rattle.waits.proofs.WaitGraph.+walk_from_item_walk_from_session.Goals as goal

-- ---- the item half
pub walk_from_item-returns-then-steps-eq0 : goal.walk_from_item-returns-then-steps-eq0
walk_from_item-returns-then-steps-eq0 n c =
    let t = c.args.self.now.table.now in item-spent (items_of t) (locks t) c.args.me c.if-steps-eq0.true c.args.x

pub walk_from_item-returns-then-h-me : goal.walk_from_item-returns-then-h-me
walk_from_item-returns-then-h-me n c =
    let t = c.args.self.now.table.now in
    item-back (items_of t) (locks t) c.args.me c.if-steps-eq0.false (holder-read t c.args.x c.holder-h.ensures) c.if-h-me.true

pub walk_from_item-walk_from_session-requires : goal.walk_from_item-walk_from_session-requires
walk_from_item-walk_from_session-requires n c =
    let g = c.args.self.now in
    let held = holder-read g.table.now c.args.x c.holder-h.ensures in
    let some : c.holder-h.result ≡ 0 → ⊥ = λ z. c.requires.1 (sym held ∙ z) in
    let high = holder-high g.table.now g.read.formed c.requires.0 in
    (omega arith, (omega arith, omega (arith, held)))

pub walk_from_item-returns-in_err-r : goal.walk_from_item-returns-in_err-r
walk_from_item-returns-in_err-r n c =
    let t = c.args.self.now.table.now in
    let goes = item-goes (items_of t) (locks t) c.args.me c.if-steps-eq0.false (holder-read t c.args.x c.holder-h.ensures) c.if-h-me.false in
    c.from_residual.ensures ∙ more-none (walk_from_session (c.args.steps - 1) (items_of t) (locks t) c.args.me c.holder-h.result) c.in_err-r.ensures ∙ ap unless_zero (sym goes)

pub walk_from_item-overflow_add-result : goal.walk_from_item-overflow_add-result
walk_from_item-overflow_add-result n c =
    let t = c.args.self.now.table.now in
    let same = unless-zero-is (walk_from_session (c.args.steps - 1) (items_of t) (locks t) c.args.me c.holder-h.result) c.in_ok-r.ensures in
    omega (arith, same, session_le (c.args.steps - 1) (items_of t) (locks t) c.args.me c.holder-h.result, c.if-steps-eq0.false, c.ranges.steps.fits)

pub walk_from_item-returns : goal.walk_from_item-returns
walk_from_item-returns n c =
    let t = c.args.self.now.table.now in
    let goes = item-goes (items_of t) (locks t) c.args.me c.if-steps-eq0.false (holder-read t c.args.x c.holder-h.ensures) c.if-h-me.false in
    more-some (walk_from_session (c.args.steps - 1) (items_of t) (locks t) c.args.me c.holder-h.result) c.in_ok-r.ensures ∙ ap unless_zero (sym goes)

-- ---- the session half
pub walk_from_session-returns-then-steps-eq0 : goal.walk_from_session-returns-then-steps-eq0
walk_from_session-returns-then-steps-eq0 n c =
    let t = c.args.self.now.table.now in session-spent (items_of t) (locks t) c.args.me c.if-steps-eq0.true c.args.s

pub walk_from_session-returns-in_err-w : goal.walk_from_session-returns-in_err-w
walk_from_session-returns-in_err-w n c =
    let t = c.args.self.now.table.now in
    c.from_residual.ensures ∙ session-stays (items_of t) (locks t) c.args.me c.if-steps-eq0.false c.args.s (waits-nowhere t c.args.s c.in_err-w.ensures)

pub walk_from_session-walk_from_item-requires : goal.walk_from_session-walk_from_item-requires
walk_from_session-walk_from_item-requires n c =
    let g = c.args.self.now in
    let t = g.table.now in
    let s = c.args.s in
    let w = wait-is t s c.in_ok-w.ensures in
    let found : c.in_ok-w.w.item ≡ waits_at t s = ap (λ (w : Wait). w.item) w.1 in
    (omega arith, (rw (found) (waits-at-item t g.read.formed s w.0), rw (found) (waits_at-held (items_of t) (locks t) s w.0)))

pub walk_from_session-returns : goal.walk_from_session-returns
walk_from_session-returns n c =
    let t = c.args.self.now.table.now in
    let w = wait-is t c.args.s c.in_ok-w.ensures in
    let found : c.in_ok-w.w.item ≡ waits_at t c.args.s = ap (λ (w : Wait). w.item) w.1 in
    rw (session-goes (items_of t) (locks t) c.args.me c.if-steps-eq0.false c.args.s w.0, ← found) c.walk_from_item.ensures
