-- `Item::waits` meets its contract: one of those that wait is the session.
use mathlib.Core.Path.{◌∙◌}
use Rattle.item.proofs.Laws.{any-member}
use Rattle.item.proofs.Item.waits.Goals as goal

pub returns : goal.returns
returns c = c.contains.ensures.value ∙ rw c.sessions.ensures (any-member c.args.t _)
