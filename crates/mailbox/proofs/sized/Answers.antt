-- `sized` meets its contract. A buffer too short for C and a count is refused; two bytes make less than 65536.
use mathlib.Core.Path.{refl, sym}
use Prim.Native.Nat.{◌<◌}
use Rattle.buffer.proofs.Laws.{from_bytes-slice-bound}
use Rattle.mailbox.specs.Layout.{capacity_of, sized}
use Rattle.mailbox.proofs.Laws.{short_unsized}
use native.Mathlib.Omega.{arith}
use Rattle.mailbox.proofs.sized.Goals as goal

pub returns-then-m-lt-HEADER : goal.returns-then-m-lt-HEADER
returns-then-m-lt-HEADER c = sym (short_unsized c.args.m.now c.if-m-lt-HEADER.true)

pub size-requires : goal.size-requires
size-requires c =
    let m = c.args.m.now in
    let low : capacity_of m < 65536 = from_bytes-slice-bound m 0 2 (omega arith) (λ i f. omega (arith, c.type_inv.m i)) in
    omega arith

pub returns : goal.returns
unfolding sized
returns c = rw (c.size.ensures, c.capacity-c.ensures) refl
