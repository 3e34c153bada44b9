-- `Session::most_senior` meets its contract. The invariant: at `place` stands the most senior of those passed, or of the first alone, with rank `best`.
use mathlib.Core.Path.{◌≡◌, sym, ◌∙◌}
use mathlib.Core.Bool.{Bool, true, false, true≢false}
use mathlib.Core.List.{List}
use Prim.Native.Nat.{ℕ, zero, suc, ◌+◌, max}
use native.Mathlib.Omega.{arith}
use borrow.Author.Tests.{lt-ltb, le-ltb}
use lib.ListN.{length, get_or}
use lib.Seq.{take-length}
use Rattle.lists.proofs.Orders.{StrictWeak}
use Rattle.session.specs.Seniority.{rank, senior}
use Rattle.session.proofs.Seniority.{senior-weak}
use Rattle.session.proofs.MostSenior.{Leads, leads_one, leads_new, leads-still, leads-place}
use Rattle.session.proofs.Session.most_senior.Goals as goal
use Rattle.session.proofs.Session.most_senior.Goals.{then-rank-best, else-rank-best}

-- one session more, which is senior to the one that led, or is not; the first is led by itself
module _ {senior : ℕ → ℕ → Bool} (order : StrictWeak senior) (q : List ℕ) where
  next_new : (i k : ℕ) → Leads senior q (max 1 i) k → senior (get_or q i 0) (get_or q k 0) ≡ true → Leads senior q (max 1 (i + 1)) i
  next_new zero k l e =
      let first : k ≡ 0 = omega (arith, l.inside) in absurd (true≢false (sym e ∙ rw (first) (order.irreflexive (get_or q 0 0))))
  next_new (suc i) k l e =
      let one : max 1 (suc i) ≡ suc i = omega arith in
      let more : max 1 (suc i + 1) ≡ suc (suc i) = omega arith in rw (more) (leads_new order q (suc i) k (rw (one) at l) e)

  next-still : (i k : ℕ) → Leads senior q (max 1 i) k → senior (get_or q i 0) (get_or q k 0) ≡ false → Leads senior q (max 1 (i + 1)) k
  next-still zero k l e = l
  next-still (suc i) k l e =
      let one : max 1 (suc i) ≡ suc i = omega arith in
      let more : max 1 (suc i + 1) ≡ suc (suc i) = omega arith in rw (more) (leads-still order q (suc i) k (rw (one) at l) e)

pub loop-i-init : goal.loop-i-init
loop-i-init c = (leads_one (senior-weak _) _, c.rank-best.ensures)

pub loop-i-preserved : goal.loop-i-preserved
unfolding senior
loop-i-preserved c =
    let r = c.args.ranks.now in
    let q = c.args.list.now in
    let l = c.loop-i in
    let here = c.rank-rank.ensures in
    let best = l.invariant.1 in
    let new = rank r (get_or q l.i 0) in
    let old = rank r (get_or q l.place 0) in
    elim c.if-rank-best.branch [
      | then-rank-best w ↦
          rw (w.place-is, w.best-is) (next_new (senior-weak r) q l.i l.place l.invariant.0 (lt-ltb new old (omega (arith, here, best, w.if-rank-best.true))), here)
      | else-rank-best w ↦
          rw (w.place-is, w.best-is) (next-still (senior-weak r) q l.i l.place l.invariant.0 (le-ltb new old (omega (arith, here, best, w.if-rank-best.false))), best)
    ]

pub returns : goal.returns
returns c =
    let l = c.loop-i in
    let q = c.args.list.now in
    let all : max 1 l.i ≡ length q = omega (arith, c.requires) in
    let found : Leads (senior c.args.ranks.now) q (length q) l.place = rw (← all) l.invariant.0 in
    (sym (rw (take-length q) at (leads-place (senior-weak c.args.ranks.now) q (length q) l.place (omega arith) found)), found.inside)
