-- `describe` meets its contract: the lines are written from the most senior member on, where there is a cycle and room.
use mathlib.Core.Path.{◌≡◌, refl, sym, ap, ◌∙◌}
use mathlib.Core.List.{List}
use Prim.Native.Nat.{ℕ, ◌≤◌}
use native.Mathlib.Omega.{arith}
use lib.ListN.{length}
use Rattle.std.specs.Prelude.{Some}
use Rattle.table.specs.Layout.{Formed, sessions_of}
use Rattle.waits.specs.Walk.{unless_zero}
use Rattle.waits.specs.OnTable.{cycle_length, leader}
use Rattle.waits.proofs.Laws.{unless-zero-is, unless-zero-some, unless-zero-none}
use Rattle.cycletext.specs.Text.{lines}
use Rattle.cycletext.specs.OnTable.{text}
use Rattle.cycletext.specs.Parts.{OnCycle, waits_from}
use Rattle.cycletext.proofs.Longest.{fits}
use Rattle.cycletext.proofs.Round.{from-leader, text-lines, refused_no_cycle, refused_short, not-refused}
use Rattle.cycletext.proofs.describe.Goals as goal
use Rattle.cycletext.proofs.describe.Goals.{else-out-lt-LONGEST-via-then-out-lt-LONGEST+else-out-lines_length, else-out-lt-LONGEST-via-else-out-lt-LONGEST}

-- what was read: the table u of the graph, the length of the cycle, and its most senior member
module _ {u t : List ℕ} {me n : ℕ} (same : u ≡ t) (p : Formed t × (1 ≤ me) × (me ≤ sessions_of t)) (long : Some n ≡ unless_zero (cycle_length u me)) where
  round : cycle_length t me ≡ 0 → ⊥
  round z = unless-zero-some (cycle_length u me) long (ap (λ (l : List ℕ). cycle_length l me) same ∙ z)

  on : OnCycle u me
  on = record { low = p.1; some = let f = unless-zero-some (cycle_length u me) long in omega arith }

  module _ {from : ℕ} (first : from ≡ leader u me) where
    on-leader : OnCycle u from
    on-leader = rw (first) (from-leader (rw (same) p.0) on (unless-zero-is (cycle_length u me) long))

    whole : text t me ≡ lines (waits_from u n from)
    whole = ap (λ (l : List ℕ). text l me) (sym same) ∙ rw (first) (text-lines (rw (same) p.0) on (unless-zero-is (cycle_length u me) long))

pub returns-in_default : goal.returns-in_default
returns-in_default c =
    let a = c.args in
    let none = ap (λ (l : List ℕ). cycle_length l a.me) (sym c.of-graph.ensures) ∙ unless-zero-none (cycle_length c.of-graph.result.table.now a.me) c.in_default.ensures in
    rw (refused_no_cycle a.me a.t.now a.out.now none) refl

pub invariant_of-round-2 : goal.invariant_of-round-2
invariant_of-round-2 c = record { on = on-leader c.of-graph.ensures c.requires c.in-Some.ensures c.leader.ensures }

pub invariant_of-round-then-out-lt-LONGEST : goal.invariant_of-round-then-out-lt-LONGEST
invariant_of-round-then-out-lt-LONGEST c = record { on = on-leader c.of-graph.ensures c.requires c.in-Some.ensures c.leader.ensures }

pub returns-then-out-lines_length : goal.returns-then-out-lines_length
returns-then-out-lines_length c =
    let a = c.args in
    let w = whole c.of-graph.ensures c.requires c.in-Some.ensures c.leader.ensures in
    let e = refused_short a.me a.t.now a.out.now (round c.of-graph.ensures c.requires c.in-Some.ensures) (omega (arith, c.lines_length.ensures, ap length w, c.if-out-lines_length.true)) in
    rw e refl

pub put_lines-length-requires : goal.put_lines-length-requires
put_lines-length-requires c =
    let a = c.args in
    let w = whole c.of-graph.ensures c.requires c.in-Some.ensures c.leader.ensures in
    elim c.else-out-lt-LONGEST.branch [
      | else-out-lt-LONGEST-via-then-out-lt-LONGEST+else-out-lines_length b ↦ omega (arith, b.lines_length.ensures, b.if-out-lines_length.false)
      | else-out-lt-LONGEST-via-else-out-lt-LONGEST b ↦ omega (arith, fits a.t.now c.requires.0 a.me c.requires.1, ap length w, b.if-out-lt-LONGEST.false)
    ]

pub overflow_cast-length : goal.overflow_cast-length
overflow_cast-length c =
    let a = c.args in
    let w = whole c.of-graph.ensures c.requires c.in-Some.ensures c.leader.ensures in
    omega (arith, c.put_lines-length.ensures.count, ap length w, fits a.t.now c.requires.0 a.me c.requires.1)

pub returns : goal.returns
returns c =
    let a = c.args in
    let w = whole c.of-graph.ensures c.requires c.in-Some.ensures c.leader.ensures in
    let p = c.put_lines-length in
    let room : length (text a.t.now a.me) ≤ length a.out.now =
    elim c.else-out-lt-LONGEST.branch [
      | else-out-lt-LONGEST-via-then-out-lt-LONGEST+else-out-lines_length b ↦ omega (arith, b.lines_length.ensures, ap length w, b.if-out-lines_length.false)
      | else-out-lt-LONGEST-via-else-out-lt-LONGEST b ↦ omega (arith, fits a.t.now c.requires.0 a.me c.requires.1, b.if-out-lt-LONGEST.false)
    ] in
    let e = not-refused a.me a.t.now a.out.now (round c.of-graph.ensures c.requires c.in-Some.ensures) room in
    rw (e, p.ensures.bytes, p.ensures.count, w) refl
