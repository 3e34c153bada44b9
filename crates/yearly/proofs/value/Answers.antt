-- `value` meets its contract: two bytes make at most 65535.
use Prim.Native.Nat.{◌*◌}
use native.Mathlib.Omega.{arith}
use Rattle.buffer.proofs.Laws.{from_bytes-slice-bound}
use Rattle.yearly.proofs.value.Goals as goal

pub returns : goal.returns
returns c =
    let a = c.args in
    let few = from_bytes-slice-bound a.input.now (2 * a.i) 2 c.requires (λ i f. omega (arith, c.type_inv.input i)) in
    (c.get16.ensures, omega (arith, c.get16.ensures))
