-- `is_rolled_back` meets its contract: S stands in the first byte, and a table has that byte.
use Rattle.table.proofs.Laws.{header-fits}
use Rattle.tally.proofs.is_rolled_back.Goals as goal

pub sessions-requires : goal.sessions-requires
sessions-requires c = header-fits c.args.table.now c.requires
