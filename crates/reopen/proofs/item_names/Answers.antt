-- The zeros behind the queue are no sessions.
use mathlib.Core.Path.{◌≡◌, ap, ◌∙◌}
use mathlib.Core.Bool.{Bool, ◌||◌, or-false}
use mathlib.Core.List.{List, ◌++◌}
use Prim.Native.Nat.{ℕ, ◌-◌, ◌≤◌}
use native.Mathlib.Omega.{arith}
use lib.Dec.{eqb}
use lib.ListN.{length, replicate}
use borrow.Author.Tests.{ne_eqb}
use Rattle.lists.specs.Lists.{member}
use Rattle.lists.proofs.Laws.{member-append, all-member, all-zeros}
use Rattle.item.specs.Record.{unpacked}
use Rattle.item.proofs.Laws.{queue-padded}
use Rattle.reopen.specs.Reopening.{item_names}
use Rattle.reopen.proofs.item_names.Goals as goal

member-zeros : (k t : ℕ) (l : List ℕ) → 1 ≤ t → member t (l ++ replicate k 0) ≡ member t l
member-zeros k t l low =
    member-append t l (replicate k 0)
    ∙ ap (λ (b : Bool). member t l || b) (all-member (λ b. eqb b 0) t (replicate k 0) (all-zeros k) (ne_eqb t 0 (λ z. omega (arith, z, low))))
    ∙ or-false (member t l)

pub returns : goal.returns
unfolding item_names
returns c =
    let a = c.args in
    let p = c.requires in
    let q = (unpacked a.i).queue in
    let row = ap (member a.t) (queue-padded a.i p.1) ∙ member-zeros (64 - length q) a.t q p.0 in
    rw c.row_has.ensures (ap (λ (b : Bool). eqb a.i.holder a.t || b) row)
