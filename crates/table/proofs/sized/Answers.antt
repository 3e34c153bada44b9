-- `sized` meets its contract: a table has its header.
use mathlib.Core.Path.{refl, sym}
use mathlib.Core.Bool.{◌&&◌, and-false}
use native.Mathlib.Omega.{arith}
use borrow.Author.Tests.{ne_eqb}
use lib.ListN.{length}
use Rattle.lists.specs.Lists.{between}
use Rattle.message.specs.Limits.{max_sessions, max_items}
use Rattle.table.specs.Layout.{size, sessions_of, items_of, sized}
use Rattle.table.proofs.sized.Goals as goal

pub returns-then-t-lt-HEADER : goal.returns-then-t-lt-HEADER
unfolding sized
returns-then-t-lt-HEADER c =
    let t = c.args.t.now in
    let S = sessions_of t in
    let M = items_of t in
    rw (ne_eqb (length t) (size S M) (λ e. omega arith)) (sym (and-false (between 1 max_sessions S && between 1 max_items M)))

pub returns : goal.returns
unfolding sized
returns c = rw (c.size.ensures, c.from.ensures, c.from-2.ensures, c.items-m.ensures, c.sessions-s.ensures) refl
