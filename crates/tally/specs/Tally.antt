-- A tally with a step's answer added to it.
use Rattle.std.specs.Prelude.{◌+◌, ◌<◌, ◌^◌, Bool}
use Rattle.step.specs.declared.Answer.{Answer}
use Rattle.lockmgr.specs.Run.{one, declares}
use Rattle.tally.specs.declared.Tally.{Tally}

-- the answer of a step, which rolled its session back or did not
abbrev pub added : Answer → Bool → Tally → Tally
added a rolled t =
    record {
      closed = t.closed + a.closed;
      declared = t.declared + one (declares a);
      rolled_back = t.rolled_back + one rolled;
    }

-- the sums fit, whatever is added: closed is one byte of an answer, the others count one at most
pub record Fits (t : Tally) : Type 0 where
  pub closed-fits : t.closed + 255 < 2 ^ 64
  pub declared-fits : t.declared + 1 < 2 ^ 64
  pub rolled-fits : t.rolled_back + 1 < 2 ^ 64
