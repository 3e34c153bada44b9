-- `session` meets its contract, by what `row` and `get64` ensure.
use Rattle.session.specs.Record.{session_at}
use Rattle.form.proofs.FormLaws.{session_form}
use Rattle.form.proofs.session.Goals as goal

pub returns : goal.returns
returns c =
    let a = c.args in
    rw (c.row.ensures, c.row_at-juniors.ensures.0, c.from.ensures, c.get64-held.ensures, a.limits.now.whole) (session_form a.limits.now.sessions a.limits.now.items (session_at a.t.now a.at))
