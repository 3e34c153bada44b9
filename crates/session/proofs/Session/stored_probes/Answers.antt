-- `Session::stored_probes` meets its contract. The invariant: behind what was given stand the probes so far, and those to come are left.
use mathlib.Core.Path.{◌≡◌, sym, ◌∙◌}
use mathlib.Core.List.{[], ◌∷◌, append_assoc, append-nil}
use Prim.Native.Nat.{◌+◌}
use native.Mathlib.Omega.{arith}
use lib.ListN.{get_or, drop, length-append, drop_of_length-le}
use Rattle.message.specs.Outbox.{message}
use Rattle.message.specs.Kind
use Rattle.session.specs.Rules.{probes_from}
use Rattle.session.proofs.Laws.{probes-none, probes-some}
use Rattle.session.proofs.Session.stored_probes.Goals as goal
use Rattle.session.proofs.Session.stored_probes.Goals.{then-j-ne0, else-j-ne0}

pub loop-i-preserved : goal.loop-i-preserved
loop-i-preserved c =
    let a = c.args in
    let l = c.loop-i in
    let m = message a.x Kind.probe (l.i + 1) (get_or a.self.juniors l.i 0) in
    elim c.if-j-ne0.branch [
      | then-j-ne0 w ↦
          rw (w.out-is, w.push.ensures, w.new.ensures) (
            omega (arith, length-append l.out (m ∷ [])),
            rw (append_assoc, ← probes-some a.x a.self.juniors l.i (omega arith) w.if-j-ne0.true) l.invariant.1,
          )
      | else-j-ne0 w ↦
          rw (w.out-is) (omega arith, rw (← probes-none a.x a.self.juniors l.i (omega arith) w.if-j-ne0.false) l.invariant.1)
    ]

pub returns : goal.returns
unfolding probes_from
returns c =
    let l = c.loop-i in
    let all : drop l.i c.args.self.juniors ≡ [] = drop_of_length-le c.args.self.juniors {i = l.i} (omega arith) in
    sym (append-nil l.out) ∙ rw (all) at l.invariant.1
