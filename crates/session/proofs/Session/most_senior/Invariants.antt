-- `Session::most_senior` meets its contract. The invariant: at `place` stands the most senior of those passed, or of the first alone, with rank `best`.
use mathlib.Core.Path.{◌≡◌}
use Prim.Native.Nat.{max}
use lib.ListN.{get_or}
use Rattle.session.specs.Seniority.{rank, senior}
use Rattle.session.proofs.MostSenior.{Leads}
use Rattle.session.proofs.Session.most_senior.Given as goal

abbrev pub invariant-loop-i : goal.invariant-loop-i
invariant-loop-i l =
    Leads (senior l.ranks) l.list (max 1 l.i) l.place × (l.best ≡ rank l.ranks (get_or l.list l.place 0))
