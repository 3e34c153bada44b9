-- `put_bytes` meets its contract. The invariant: the bytes passed are pasted over the buffer.
use mathlib.Core.Path.{refl, ◌∙◌}
use native.Mathlib.Omega.{arith}
use native.Mathlib.Numerals.{add-one}
use lib.Seq.{paste-zero, paste-suc}
use Rattle.buffer.proofs.Laws.{paste-splice}
use Rattle.buffer.proofs.put_bytes.Goals as goal

pub loop-i-init : goal.loop-i-init
loop-i-init c = paste-zero c.args.t.now c.args.at c.args.bytes.now

pub loop-i-preserved : goal.loop-i-preserved
loop-i-preserved c =
    let a = c.args in
    rw (c.loop-i.invariant, add-one) (paste-suc a.t.now a.at a.bytes.now c.loop-i.i 0 (omega arith) (omega arith))

pub returns : goal.returns
returns c =
    let a = c.args in
    (c.loop-i.invariant ∙ paste-splice a.t.now a.at a.bytes.now c.loop-i.i (omega arith), refl)
