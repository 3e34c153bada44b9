-- Each measure is the steps left.
use Rattle.waits.proofs.WaitGraph.+walk_from_item_walk_from_session.Given as goal

abbrev pub decreases-walk_from_item : goal.decreases-walk_from_item
decreases-walk_from_item l = l.steps

abbrev pub decreases-walk_from_session : goal.decreases-walk_from_session
decreases-walk_from_session l = l.steps
