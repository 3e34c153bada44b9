-- `row` meets its contract: a byte and its limit at a time.
use mathlib.Core.Path.{◌≡◌, refl, ◌∙◌}
use mathlib.Core.Bool.{true}
use mathlib.Core.List.{List, [], ◌∷◌}
use Prim.Native.Nat.{ℕ, ◌-◌}
use lib.ListN.{take, drop}
use Rattle.std.specs.List.{zip}
use Rattle.std.proofs.Common.{rules, tests}
use Rattle.std.proofs.iter.Yields.{fronts}
use Rattle.std.proofs.lemmas.Fn.{fold_over}
use Rattle.std.proofs.lemmas.Iterator.{zips, YieldsList-from_slice, YieldsList-from_zip}
use Rattle.lists.specs.Lists.{all_of}
use Rattle.lists.proofs.Laws.{all_append}
use Rattle.message.specs.Limits.{max_sessions}
use Rattle.form.proofs.FormLaws.{ordered, row_form}
use Rattle.form.proofs.row.Goals as goal

pub returns : goal.returns
unfolding all_of
returns c =
    let l : List ℕ = c.args.l.now in
    let bounds : List ℕ = take max_sessions (drop (max_sessions - c.args.n) c.args.limits.now.rows) in
    fold_over (zips fronts fronts) (λ p. (p.0.now, p.1.now)) _ (λ ys b. b ≡ all_of ordered ys) _
    (λ ys b x r q e k. rw (all_append ordered ys ((x.0.now, x.1.now) ∷ []), ← e) (search (rules, tests)))
    c.zip.result (zip l bounds) true c.fold.result
    (YieldsList-from_zip (YieldsList-from_slice l (search rules)) (YieldsList-from_slice bounds (search rules))).runs refl c.fold.ensures.ran
    ∙ rw (c.args.limits.now.filled) (row_form c.args.limits.now.sessions c.args.n l c.requires.0 c.requires.1)
