-- `DayList::is_consistent` meets its contract: each day is tested.
use Rattle.std.proofs.Common.{rules, tests}
use Rattle.lists.proofs.Ranges.{all_up_to}
use Rattle.yearly.specs.Input.{days_in, consistent_day, consistent}
use Rattle.yearly.proofs.DayList.is_consistent.Goals as goal

pub returns : goal.returns
unfolding consistent
returns c =
    let s = c.args.self.now in
    all_up_to (consistent_day s.input.now) _ (days_in s.input.now) c.all.result _ _ (search rules) c.all.ensures.ran (λ x b q k. search (rules, tests))
