-- `put_spaced` meets its contract. The invariant: the numbers passed are written.
use mathlib.Core.Path.{refl, sym, ◌∙◌}
use native.Mathlib.Omega.{arith}
use lib.ListN.{length-set}
use Rattle.text.specs.Text.{spaced}
use Rattle.text.proofs.Laws.{splice-none, spaced-put, spaced_room}
use Rattle.text.proofs.put_spaced.Goals as goal

pub loop-n-init : goal.loop-n-init
unfolding spaced
loop-n-init c =
    let a = c.args in (refl, sym (splice-none a.out.now a.at), omega arith)

pub put_decimal-next-requires : goal.put_decimal-next-requires
put_decimal-next-requires c =
    let room = spaced_room c.args.numbers.now c.loop-n.n-index (omega arith) in simp length-set (omega arith)

pub loop-n-preserved : goal.loop-n-preserved
loop-n-preserved c =
    let a = c.args in
    let l = c.loop-n in
    let room = spaced_room a.numbers.now l.n-index (omega arith) in
    let d = c.put_decimal-next in
    let put = spaced-put a.numbers.now l.n-index a.out.now a.at (omega arith) (omega arith) l.invariant.1 l.invariant.2 d.ensures.0 d.ensures.1 in (
      d.auto.out ∙ simp length-set l.invariant.0,
      put.0,
      put.1,
    )
