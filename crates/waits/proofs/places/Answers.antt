-- `places` meets its contract. The invariant: the places are those among the items before x.
use mathlib.Core.Path.{◌≡◌, ap, ◌∙◌}
use Prim.Native.Nat.{ℕ, ◌-◌}
use native.Mathlib.Omega.{arith}
use Rattle.table.specs.Layout.{items_of}
use Rattle.table.proofs.Laws.{sized-facts, header-fits}
use Rattle.waits.specs.Places.{places_among}
use Rattle.waits.proofs.Laws.{places-none}
use Rattle.waits.proofs.places.Goals as goal

pub items-x-end-requires : goal.items-x-end-requires
items-x-end-requires c = header-fits c.args.t.now c.requires.sized

pub overflow_add-x-end : goal.overflow_add-x-end
overflow_add-x-end c = omega (arith, c.items-x-end.ensures, (sized-facts c.args.t.now c.requires.sized).max-items)

pub loop-x-init : goal.loop-x-init
loop-x-init c = places-none c.args.t.now

pub returns : goal.returns
returns c =
    let all : c.loop-x.x - 1 ≡ items_of c.args.t.now = omega (arith, c.items-x-end.ensures, (sized-facts c.args.t.now c.requires.sized).some-items) in
    c.loop-x.invariant ∙ ap (λ (n : ℕ). places_among n c.args.t.now) all
