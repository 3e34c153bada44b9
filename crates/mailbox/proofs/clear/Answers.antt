-- `clear` meets its contract: zeros, with C written over them.
use mathlib.Core.Path.{ap, ◌∙◌}
use mathlib.Core.List.{List}
use Prim.Native.Nat.{ℕ}
use lib.ListN.{length}
use Rattle.buffer.specs.Bytes.{splice, to_bytes}
use Rattle.mailbox.proofs.Moves.{empty-mail}
use native.Mathlib.Omega.{arith}
use Rattle.mailbox.proofs.clear.Goals as goal

pub returns : goal.returns
returns c =
    let a = c.args in
    c.put16.ensures ∙ ap (λ (k : List ℕ). splice k 0 (to_bytes 2 a.c)) c.clear.ensures ∙ empty-mail a.c (length a.m.now) (omega arith)
