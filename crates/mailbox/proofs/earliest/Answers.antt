-- `earliest` meets its contract, by what the search for a route ensures.
use Rattle.mailbox.proofs.Tests.{earliest-found}
use Rattle.mailbox.proofs.earliest.Goals as goal

pub returns : goal.returns
returns c =
    let a = c.args in
    let f = c.first.ensures in
    earliest-found a.m.now a.route.direction a.route.session a.route.item c.first.result c.count.ensures f
