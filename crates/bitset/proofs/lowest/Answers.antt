-- `lowest` meets its contract: trailing zeros find the lowest member.
use Prim.Native.Nat.{ℕ}
use native.Mathlib.Nat.{add_comm}
use native.Mathlib.Omega.{arith}
use lib.Count.{count_trailing_zeros}
use lib.Pow.{pow_pos}
use Rattle.bitset.proofs.Laws.{Low, low, shift_one}
use Rattle.bitset.proofs.lowest.Goals as goal

pub overflow_sub-result : goal.overflow_sub-result
overflow_sub-result c =
    let k : ℕ = count_trailing_zeros 64 c.args.mask in
    let at_low : Low 64 c.args.mask k = low 64 c.args.mask (omega arith) c.ranges.mask.fits in
    rw (shift_one k at_low.1) at_low.0

pub returns : goal.returns
returns c =
    let k : ℕ = count_trailing_zeros 64 c.args.mask in
    let at_low : Low 64 c.args.mask k = low 64 c.args.mask (omega arith) c.ranges.mask.fits in
    rw (shift_one k at_low.1)
    (rw (add_comm 1 k) at (at_low.2 1), omega (arith, at_low.0, pow_pos k), omega arith, omega (arith, at_low.1))
