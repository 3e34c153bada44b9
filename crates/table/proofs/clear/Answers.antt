-- `clear` meets its contract. The loop's invariant: so many sessions are written, and all else is zero.
use mathlib.Core.Path.{◌≡◌, sym, ap, ◌∙◌}
use native.Mathlib.Omega.{arith}
use lib.ListN.{length, length-set}
use Rattle.table.specs.Layout.{config}
use Rattle.table.proofs.StartLaws.{begun-none, begun_more, begun-ranks, length-begun}
use Rattle.table.proofs.clear.Goals as goal

pub bounds-t-0 : goal.bounds-t-0
bounds-t-0 c = omega (arith, c.clear.auto.t)

pub bounds-t-1 : goal.bounds-t-1
bounds-t-1 c = simp length-set (omega (arith, c.clear.auto.t))

pub loop-k-init : goal.loop-k-init
loop-k-init c =
    rw (c.clear.ensures, c.requires.1) (begun-none (config c.args.sessions c.args.items c.args.ranks.now))

-- the table has its length in the loop and behind it
pub bounds-t-k : goal.bounds-t-k
bounds-t-k c = omega (arith, ap length c.loop-k.invariant, length-begun (config c.args.sessions c.args.items c.args.ranks.now) c.loop-k.k (omega (arith, c.from-k-end.ensures)), c.from-k-end.ensures)

pub loop-k-preserved : goal.loop-k-preserved
loop-k-preserved c = rw c.loop-k.invariant (begun_more (config c.args.sessions c.args.items c.args.ranks.now) c.loop-k.k (omega (arith, c.from-k-end.ensures)))

pub put_bytes-requires : goal.put_bytes-requires
put_bytes-requires c =
    omega (arith, c.ranks_place.ensures, ap length c.loop-k.invariant, length-begun (config c.args.sessions c.args.items c.args.ranks.now) c.loop-k.k (omega (arith, c.from-k-end.ensures)), c.requires.0.ranks-whole)

pub shape_of-t : goal.shape_of-t
shape_of-t c =
    c.put_bytes.auto.t ∙ ap length c.loop-k.invariant ∙ length-begun (config c.args.sessions c.args.items c.args.ranks.now) c.loop-k.k (omega (arith, c.from-k-end.ensures)) ∙ sym c.requires.1

pub returns : goal.returns
returns c =
    let all : c.loop-k.k ≡ c.args.sessions = omega (arith, c.from-k-end.ensures) in
    c.put_bytes.ensures.0 ∙ rw (c.ranks_place.ensures, c.loop-k.invariant, all) (begun-ranks (config c.args.sessions c.args.items c.args.ranks.now) c.requires.0)
