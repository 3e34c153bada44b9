-- `is_zero` meets its contract: the bytes are or-ed together.
use Rattle.std.proofs.Common.{rules, ◌≡◌, fold, bit_or, ◌∙◌, ap, eqb}
use Prim.Native.Nat.{ℕ}
use Rattle.buffer.specs.Bytes.{slice}
use Rattle.buffer.proofs.Laws.{or_all}
use Rattle.buffer.proofs.is_zero.Goals as goal

pub returns : goal.returns
returns c =
    let e : c.fold.result ≡ fold bit_or 0 (slice c.args.t.now c.args.at c.args.n) = search rules in
    ap (λ (k : ℕ). eqb k 0) e ∙ or_all 0 (slice c.args.t.now c.args.at c.args.n)
