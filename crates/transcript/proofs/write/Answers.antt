-- `write` meets its contract: a short buffer is left; any other input is bad; else its steps are played in buffers of the right sizes.
use mathlib.Core.Path.{sym, ap, ◌∙◌}
use Prim.Native.Nat.{ℕ}
use native.Mathlib.Omega.{arith}
use lib.ListN.{length, replicate, length-replicate}
use lib.Seq.{length-take-le}
use Rattle.std.proofs.Common.{rules}
use Rattle.buffer.specs.Bytes.{splice}
use Rattle.message.specs.Limits.{max_sessions, max_items}
use Rattle.mailbox.specs.Layout as Mail
use Rattle.table.specs.Layout as Table
use Rattle.text.specs.Text.{ascii}
use Rattle.program.proofs.Laws.{at-start_short, at-start-long}
use Rattle.transcript.specs.Transcript.{capacity, longest, transcript}
use Rattle.transcript.proofs.Playing.{Known, known, bad_input}
use Rattle.transcript.proofs.write.Goals.{In-Some}
use Rattle.transcript.proofs.write.Goals as goal

pub returns-then-out-lt-LONGEST : goal.returns-then-out-lt-LONGEST
returns-then-out-lt-LONGEST c = let a = c.args in at-start_short longest (transcript a.input.now) a.out.now c.if-out-lt-LONGEST.true

pub returns-in_default : goal.returns-in_default
unfolding ascii
returns-in_default c =
    let a = c.args in
    let p = c.put_bytes in
    let e = bad_input a.input.now (search rules) in
    at-start-long longest (transcript a.input.now) a.out.now (omega (arith, c.if-out-lt-LONGEST.false)) (omega (arith, ap length e))
    (p.ensures.0 ∙ ap (splice a.out.now 0) (sym e)) (p.ensures.1 ∙ ap length (sym e))

-- what is known of the input that is played
good : (c : In-Some) → Known c.args.input.now
good c = known c.args.input.now (rw (c.in-Some.ensures) at c.in-Some.script.whole)

pub slice_bounds-table-end : goal.slice_bounds-table-end
slice_bounds-table-end c = let k = good (goal.at.slice_bounds-table-end c).In-Some in omega (arith, c.size-size.ensures)

pub slice_bounds-play-end : goal.slice_bounds-play-end
slice_bounds-play-end c =
    let k = good (goal.at.slice_bounds-play-end c).In-Some in
    sym (length-take-le c.size-size.result (replicate (Table.size max_sessions max_items) 0) (omega (arith, c.size-size.ensures)))

pub play-requires : goal.play-requires
play-requires c =
    let k = good (goal.at.play-requires c).In-Some in (
      rw (c.in-Some.ensures) (length-take-le c.size-size.result (replicate (Table.size max_sessions max_items) 0) (omega (arith, c.size-size.ensures)) ∙ c.size-size.ensures),
      length-replicate {A = ℕ} (Mail.size capacity) 0,
      omega (arith, c.if-out-lt-LONGEST.false),
    )

pub returns : goal.returns
returns c =
    let a = c.args in
    let e = rw (c.in-Some.ensures) at c.play.ensures in
    at-start-long longest (transcript a.input.now) a.out.now (omega (arith, c.if-out-lt-LONGEST.false)) (omega (arith, e.1, e.2)) e.0 e.1
