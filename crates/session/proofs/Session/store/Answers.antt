-- `Session::store` meets its contract: its four stores are one run of bytes written.
use mathlib.Core.Path.{ap, ◌∙◌}
use mathlib.Core.List.{List}
use Prim.Native.Nat.{ℕ, ◌+◌}
use native.Mathlib.Omega.{arith}
use Rattle.buffer.specs.Bytes.{splice}
use Rattle.session.proofs.Laws.{store_eq}
use Rattle.session.proofs.Session.store.Goals as goal

pub returns : goal.returns
returns c =
    let a = c.args in
    c.put_row.ensures ∙ ap (λ (l : List ℕ). splice l (a.at + 10) a.self.juniors) c.put64.ensures ∙ store_eq a.t.now a.at a.self (omega arith) (omega arith)
