-- `ranks` meets its contract. The loop's invariant: the ranks passed are in bounds, and the mask has them.
use mathlib.Core.Path.{◌≡◌, sym}
use mathlib.Core.Bool.{true}
use Prim.Native.Nat.{ℕ, ◌≤◌}
use native.Mathlib.Numerals.{add-one}
use native.Mathlib.Omega.{arith}
use lib.ListN.{length, get_or, take}
use lib.Seq.{take-suc, take-length}
use Rattle.lists.specs.Lists.{between, member}
use Rattle.lists.proofs.Tests.{fails, within, between_intro}
use Rattle.lists.proofs.Searches.{below-and-at}
use Rattle.bitset.specs.Bitset.{single}
use Rattle.bitset.proofs.MemberLaws.{insert-below}
use Rattle.form.proofs.FormLaws.{none_seen, seen_more, ranks_beyond, ranks_form}
use Rattle.form.proofs.ranks.Goals.{then-rank-eq0-via-then-rank-eq0, then-rank-eq0-via-else-rank-eq0+then-n-from}
use Rattle.form.proofs.ranks.Goals as goal

pub loop-rank-init : goal.loop-rank-init
unfolding member single
loop-rank-init c = ((λ k h. absurd (omega arith)), none_seen 0, omega arith)

pub returns-then-rank-eq0 : goal.returns-then-rank-eq0
returns-then-rank-eq0 c =
    let l = c.args.l.now in
    let i = c.loop-rank.rank-index in
    sym (ranks_beyond l i c.loop-rank-test.true (fails _ (λ e. let bounds = within 1 (length l) (get_or l i 0) e in elim c.then-rank-eq0.branch [
      | then-rank-eq0-via-then-rank-eq0 w ↦ omega (arith, w.if-rank-eq0.true, bounds)
      | then-rank-eq0-via-else-rank-eq0+then-n-from w ↦ omega (arith, w.from.ensures, w.if-n-from.true, bounds)
    ])))

pub loop-rank-preserved : goal.loop-rank-preserved
loop-rank-preserved c =
    let l = c.args.l.now in
    let i = c.loop-rank.rank-index in
    let v = get_or l i 0 in
    let low : 1 ≤ v = omega (arith, c.if-rank-eq0.false) in
    let high : v ≤ length l = omega (arith, c.from.ensures, c.if-n-from.false) in (
      (λ k h. below-and-at (λ (j : ℕ). between 1 (length l) (get_or l j 0) ≡ true) i c.loop-rank.invariant.0 (between_intro 1 (length l) v low high) k (omega arith)),
      rw (add-one, take-suc l i 0 c.loop-rank-test.true, c.insert-used.ensures) (seen_more 0 (take i l) v c.loop-rank.used c.loop-rank.invariant.1 low),
      rw c.insert-used.ensures (insert-below 64 v c.loop-rank.used c.loop-rank.invariant.2 low (omega (arith, c.requires))),
    )

pub returns : goal.returns
returns c =
    let l = c.args.l.now in
    let done : c.loop-rank.rank-index ≡ length l = omega arith in
    rw c.full.ensures (ranks_form l c.requires (rw (done) at c.loop-rank.invariant.0) c.loop-rank.used (rw (done, take-length l) at c.loop-rank.invariant.1) c.loop-rank.invariant.2)
