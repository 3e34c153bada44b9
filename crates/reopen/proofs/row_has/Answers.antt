-- `row_has` meets its contract: each byte is tested, and what was found stays.
use mathlib.Core.Path.{◌≡◌, refl}
use mathlib.Core.Bool.{false}
use Rattle.std.proofs.Common.{rules, tests}
use Rattle.std.proofs.iter.Yields.{fronts}
use Rattle.std.proofs.lemmas.Fn.{fold_over}
use Rattle.std.proofs.lemmas.Iterator.{YieldsList-from_slice}
use Rattle.lists.specs.Lists.{member}
use Rattle.lists.proofs.Laws.{member-last}
use Rattle.reopen.proofs.row_has.Goals as goal

pub returns : goal.returns
unfolding member
returns c =
    let t = c.args.t in
    fold_over fronts (λ x. x.now) _ (λ l b. b ≡ member t l) _ (λ ys b x r q e k. rw (member-last t ys x.now, ← e) (search (rules, tests))) c.iter.result c.args.row false c.fold.result (YieldsList-from_slice c.args.row (search rules)).runs refl c.fold.ensures.ran
