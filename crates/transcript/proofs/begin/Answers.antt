-- `begin` meets its contract: the ranks of all sessions that there could be begin with those of s sessions.
use mathlib.Core.Path.{◌≡◌, ap, ◌∙◌}
use lib.ListN.{take}
use Rattle.message.specs.Limits.{max_sessions}
use Rattle.session.specs.Seniority.{plain}
use Rattle.session.proofs.Seniority.{plain-take}
use Rattle.transcript.proofs.begin.Goals as goal

pub returns : goal.returns
returns c =
    let ranks : take c.args.s c.plain_ranks-ranks.result ≡ plain c.args.s = ap (take c.args.s) c.plain_ranks-ranks.ensures ∙ plain-take c.args.s max_sessions c.requires in
    rw (← ranks) (rw (c.from.ensures, c.from-2.ensures, c.from-3.ensures) at c.lockmgr_start.ensures)
