-- `well_formed` meets its contract. The loops' invariants: each record passed is well-formed.
use mathlib.Core.Path.{◌≡◌, refl, sym, ◌∙◌}
use mathlib.Core.Bool.{Bool, true}
use Prim.Native.Nat.{ℕ, suc, ◌+◌}
use native.Mathlib.Omega.{arith}
use Rattle.lists.specs.Lists.{every}
use Rattle.lists.proofs.Searches.{every_more}
use Rattle.table.specs.Layout.{sessions_of, items_of}
use Rattle.table.proofs.Laws.{sized-facts, session_ok, item_ok, in_form, sessions-false, items-false, session-here, item-here}
use Rattle.table.proofs.well_formed.Goals as goal

-- a record more is well-formed, as the code has judged it
more : (p : ℕ → Bool) {r : Bool} (k : ℕ) → every k p ≡ true → r ≡ p (suc k) → r ≡ true → every (k + 1) p ≡ true
more p k all e is = rw (every_more k p, all, ← e, is) refl

pub loop-k-init : goal.loop-k-init
unfolding every
loop-k-init c = refl

pub session-requires : goal.session-requires
session-requires c =
    let f = sized-facts c.args.t.now c.requires in
    omega (arith, c.sessions-s.ensures, c.from-k-end.ensures)

pub loop-k-preserved : goal.loop-k-preserved
loop-k-preserved c =
    let k = c.loop-k.k in
    more (session_ok c.args.t.now) k c.loop-k.invariant (c.session.ensures ∙ session-here c.args.t.now k (c.of-limits.ensures.0 ∙ c.sessions-s.ensures) (c.of-limits.ensures.1 ∙ c.items-m.ensures)) c.if-not-session.false

pub returns-then-not-session : goal.returns-then-not-session
returns-then-not-session c =
    let t = c.args.t.now in
    let k = c.loop-k.k in
    sym (sessions-false t (suc k) (omega arith) (omega (arith, c.sessions-s.ensures, c.from-k-end.ensures)) (sym (session-here t k (c.of-limits.ensures.0 ∙ c.sessions-s.ensures) (c.of-limits.ensures.1 ∙ c.items-m.ensures)) ∙ sym c.session.ensures ∙ c.if-not-session.true))

pub loop-x-init : goal.loop-x-init
unfolding every
loop-x-init c = refl

pub item-requires : goal.item-requires
item-requires c =
    let f = sized-facts c.args.t.now c.requires in
    omega (arith, c.items_start-from.ensures, c.sessions-s.ensures, c.items-m.ensures, c.from-x-end.ensures)

pub loop-x-preserved : goal.loop-x-preserved
loop-x-preserved c =
    let x = c.loop-x.x in
    more (item_ok c.args.t.now) x c.loop-x.invariant (c.item.ensures ∙ item-here c.args.t.now x (c.of-limits.ensures.0 ∙ c.sessions-s.ensures) (rw (c.of-limits.ensures.0) c.items_start-from.ensures)) c.if-not-item.false

pub returns-then-not-item : goal.returns-then-not-item
returns-then-not-item c =
    let t = c.args.t.now in
    let x = c.loop-x.x in
    sym (items-false t (suc x) (omega arith) (omega (arith, c.items-m.ensures, c.from-x-end.ensures)) (sym (item-here t x (c.of-limits.ensures.0 ∙ c.sessions-s.ensures) (rw (c.of-limits.ensures.0) c.items_start-from.ensures)) ∙ sym c.item.ensures ∙ c.if-not-item.true))

pub returns : goal.returns
returns c =
    let t = c.args.t.now in
    let s : c.loop-k.k ≡ sessions_of t = omega (arith, c.sessions-s.ensures, c.from-k-end.ensures) in
    let m : c.loop-x.x ≡ items_of t = omega (arith, c.items-m.ensures, c.from-x-end.ensures) in
    c.ranks-2.ensures ∙ rw c.ranks.ensures (sym (in_form t ∙ rw (rw (s) at c.loop-k.invariant, rw (m) at c.loop-x.invariant) refl))
