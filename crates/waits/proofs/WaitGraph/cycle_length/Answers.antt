-- `cycle_length` meets its contract: the walk from a session to itself, with twice as many steps as sessions, finds its cycle.
use native.Mathlib.Omega.{arith}
use Rattle.table.proofs.Laws.{sized-facts, header-fits}
use Rattle.waits.proofs.Laws.{walk-cycle}
use Rattle.waits.proofs.WaitGraph.cycle_length.Goals as goal

pub sessions-requires : goal.sessions-requires
sessions-requires c = header-fits c.args.self.now.table.now c.args.self.now.read.formed.sized

pub overflow_mul-sessions : goal.overflow_mul-sessions
overflow_mul-sessions c = omega (arith, c.sessions.ensures, (sized-facts c.args.self.now.table.now c.args.self.now.read.formed.sized).max-sessions)

pub walk_from_session-requires : goal.walk_from_session-requires
walk_from_session-requires c =
    (c.requires.0, omega (arith, c.requires.1, (sized-facts c.args.self.now.table.now c.args.self.now.read.formed.sized).max-sessions))

pub returns : goal.returns
returns c =
    let g = c.args.self.now in
    rw (← walk-cycle g.table.now g.read.formed c.args.me c.requires.0, ← c.sessions.ensures) c.walk_from_session.ensures
