-- `cut_one` meets its contract. The invariant: what is left, moved down now, makes what it would have made at the start.
use mathlib.Core.Path.{◌≡◌, sym, ◌∙◌}
use Prim.Native.Nat.{◌+◌, ◌-◌}
use native.Mathlib.Nat.{add-zero}
use lib.ListN.{length-set}
use Rattle.buffer.proofs.Laws.{moved_down, move-none, move-byte, move-more}
use Rattle.entry.proofs.Cuts.{closed-end}
use native.Mathlib.Omega.{arith}
use Rattle.entry.proofs.cut_one.Goals as goal

pub loop-n-preserved : goal.loop-n-preserved
loop-n-preserved c =
    let a = c.args in
    let l = c.loop-n in
    let fits = c.requires.0 in
    (omega arith, simp length-set l.invariant.1, rw (move-byte l.m (a.from + l.n) 3 (omega arith)) (move-more l.m a.from 3 (a.len - 3) l.n 1 (omega arith) (omega arith)) ∙ l.invariant.2)

pub returns : goal.returns
returns c =
    let a = c.args in
    let l = c.loop-n in
    let done : a.len - 3 - l.n ≡ 0 = omega arith in
    let all : a.len - 3 - 0 ≡ a.len - 3 = omega arith in
    let down : l.m ≡ moved_down a.m.now a.from 3 (a.len - 3) = sym (move-none l.m (a.from + l.n) 3) ∙ (rw (done, add-zero, all) at l.invariant.2) in
    c.put.ensures ∙ closed-end a.m.now a.from 3 a.len c.requires.0 c.requires.1 down
