-- `plain_ranks` meets its contract: what stands at each place.
use mathlib.Core.Path.{sym, ◌∙◌}
use Prim.Native.Nat.{suc}
use native.Mathlib.Omega.{arith}
use Rattle.std.proofs.Common.{rules}
use Rattle.std.proofs.lemmas.List.{same_lists}
use Rattle.lists.proofs.Laws.{get_d_tabulate}
use Rattle.message.specs.Limits.{max_sessions}
use Rattle.session.specs.Seniority.{plain}
use Rattle.session.proofs.Seniority.{plain-length}
use Rattle.transcript.proofs.plain_ranks.Goals as goal

pub returns : goal.returns
unfolding plain
returns c =
    let long = c.from_fn.ensures.items.long in
    same_lists _ _ (long ∙ sym (plain-length max_sessions)) (λ k d h. let at = c.from_fn.ensures.items.at k d (omega (arith, h, long)) in rw (get_d_tabulate max_sessions suc k d (omega (arith, h, long))) (search (rules, at)))
