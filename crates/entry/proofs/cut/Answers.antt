-- One route or body goes out by itself, more by the law of bytes taken out.
use mathlib.Core.Path.{◌∙◌}
use Rattle.entry.proofs.Cuts.{closed-end}
use Rattle.entry.proofs.cut.Goals as goal

pub returns : goal.returns
returns c =
    let a = c.args in
    c.put_zeros.ensures ∙ closed-end a.m.now a.from a.by a.len c.requires.0 c.requires.1 c.move_down.ensures
