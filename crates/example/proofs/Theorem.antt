-- The printed list, by computation on the bytes.
use mathlib.Core.Path.{◌≡◌, refl, ap}
use mathlib.Core.List.{List, [], ◌∷◌}
use Prim.Native.Nat.{ℕ}
use lib.ListN.{length}
use Rattle.buffer.specs.Bytes.{splice}
use Rattle.lists.specs.Lists.{every, lowest, member, distinct, all_of, filter, find_index, remove_at, tabulate, append_up_to}
use Rattle.bitset.specs.Bitset.{has, insert, remove, bits_from}
use Rattle.session.specs.Seniority
use Rattle.session.specs.Seniority.{rank, senior, plain}
use Rattle.session.specs.Record as SessionRecord
use Rattle.session.specs.Rules as Session
use Rattle.session.specs.MostSenior.{is_most_senior, most_senior}
use Rattle.item.specs.NextHolder.{next_holder}
use Rattle.item.specs.Record as ItemRecord
use Rattle.item.specs.Rules as Item
use Rattle.mailbox.specs.Entry
use Rattle.mailbox.specs.Layout as Mail
use Rattle.table.specs.Layout as Table
use Rattle.waits.specs.Waits
use Rattle.waits.specs.OnTable.{locks}
use Rattle.refusal.specs.Refusal
use Rattle.step.specs.Step as Step
use Rattle.lockmgr.specs.Calls
use Rattle.lockmgr.specs.Run
use Rattle.lockmgr.specs.Run.{Ran, Tally}
use Rattle.example.specs.Marked.{calls, printed, shown, last_line, capacity, begun, Example}

-- start accepts buffers of the right lengths, whatever they hold
accepted : (table mail : List ℕ) → length table ≡ Table.size 2 2 → length mail ≡ Mail.size capacity
    → begun table mail ≡ record { refusal = 0; table = Table.started (Table.config 2 2 (plain 2)); mail = Mail.mail_bytes capacity [] }
unfolding Calls.start Calls.start_refusal Refusal.first Seniority.well_formed plain all_of distinct member tabulate
accepted table mail p q = rw (p, q) refl

-- a list of steps, where each is computed once
unfoldable in_turn : List ℕ → List ℕ → Tally → List Run.Step → Ran
in_turn table mail y [] = record { answers = []; table = table; mail = mail; tally = y }
in_turn table mail y (c ∷ l) =
    let r = Calls.step c.verb c.session c.item table mail in
    let rest = in_turn r.table r.mail (Run.counted c.session table r y) l in record { answers = r.answer ∷ rest.answers; table = rest.table; mail = rest.mail; tally = rest.tally }

run_in_turn : (table mail : List ℕ) (y : Tally) (l : List Run.Step) → Run.run table mail y l ≡ in_turn table mail y l
unfolding Run.run Run.done Run.left Run.tallied in_turn
run_in_turn table mail y [] = refl
run_in_turn table mail y (c ∷ l) =
    let r = Calls.step c.verb c.session c.item table mail in
    ap (λ (rest : Ran). record { answers = r.answer ∷ rest.answers; table = rest.table; mail = rest.mail; tally = rest.tally }) (run_in_turn r.table r.mail (Run.counted c.session table r y) l)

-- from there on every answer and the last line are as printed
computed : shown (in_turn (Table.started (Table.config 2 2 (plain 2))) (Mail.mail_bytes capacity []) Run.zeros calls) ≡ record { answers = printed; left = 0; tally = last_line }
unfolding splice every lowest member distinct all_of filter find_index remove_at tabulate append_up_to has insert remove bits_from rank senior Seniority.well_formed plain is_most_senior most_senior next_holder SessionRecord.well_formed Session.probes_from Session.to_held Session.requested Session.released Session.granted Session.resent Session.aborted Session.cleaned Session.cleaned_waiting Session.cleaned_victim Session.rolled_back Session.junior Session.kept_probe Session.probed Session.received ItemRecord.well_formed Item.resends Item.without Item.on_withdraw Item.granted Item.probes Item.queued Item.on_request Item.on_probe Item.on_clean Item.on_rebroadcast Item.handed_over Item.vacated Item.on_release Item.received Entry.well_formed Mail.sized Mail.entry_at Mail.entries_of Mail.well_formed Mail.routes Mail.bodies Mail.mail_bytes Table.sized Table.session Table.with_session Table.item Table.with_item Table.ranks Table.well_formed Table.started Waits.queued_at Waits.waits_at Waits.waits_for Waits.reached Waits.cycle_length locks Refusal.first Step.delivered Step.session_acts Step.plan Calls.judged Step.hindered Step.acted Calls.step_by Calls.step in_turn
computed = refl

pub theorem : Example
theorem table mail p q =
    let s = accepted table mail p q in
    (rw (s) refl, rw (s, run_in_turn (Table.started (Table.config 2 2 (plain 2))) (Mail.mail_bytes capacity []) Run.zeros calls) computed)
