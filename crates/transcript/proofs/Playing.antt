-- A replay step by step: what is written and what is still to be printed make the transcript.
use mathlib.Core.Path.{◌≡◌, refl, sym, ap, ◌∙◌}
use mathlib.Core.Bool.{true, false, ◌&&◌}
use mathlib.Core.List.{List, [], ◌∷◌, ◌++◌, append_assoc}
use Prim.Native.Nat.{ℕ, suc, ◌+◌, ◌*◌, ◌≤◌, ◌<◌, zero-le}
use native.Mathlib.Numerals.{add-one}
use native.Mathlib.Omega.{arith}
use borrow.Author.Tests.{leb-true, eqb-true}
use lib.Dec.{eqb, leb}
use lib.ListN.{length, drop, replicate, length-append, length-replicate, drop_of_length-le}
use lib.Seq.{drop-cons}
use Rattle.buffer.specs.Bytes.{splice}
use Rattle.lists.specs.Lists.{all_of, between, tabulate}
use Rattle.lists.proofs.Laws.{get_d_tabulate, length-tabulate}
use Rattle.lists.proofs.Tests.{and_both, within}
use Rattle.message.specs.Limits.{max_sessions, max_items}
use Rattle.mailbox.specs.Layout as Mail
use Rattle.mailbox.proofs.Laws.{sized-mail, well_formed-mail, sized-facts, formed-facts}
use Rattle.table.specs.Layout as Table
use Rattle.session.specs.Seniority.{plain}
use Rattle.session.proofs.Seniority.{plain-length, plain-formed}
use Rattle.table.proofs.StartLaws.{config_of-started, sized-started, well_formed-started}
use Rattle.step.specs.declared.Answer.{Answer}
use Rattle.step.specs.Step.{Stepped, stepped, Formed}
use Rattle.lockmgr.specs.Calls.{Config, Started, config, start, start_result, step}
use Rattle.lockmgr.specs.Run as Run
use Rattle.lockmgr.specs.Run.{counted}
use Rattle.lockmgr.proofs.Judging.{Startable, start_none}
use Rattle.tally.specs.declared.Tally.{Tally}
use Rattle.text.proofs.Laws.{splice_then, splice-none}
use Rattle.tally.specs.declared.Step.{Step}
use Rattle.transcript.specs.Input.{sessions_in, items_in, count_in, max_steps, size, well_formed, step_at, steps_in}
use Rattle.transcript.specs.Transcript.{bad, step_line, end_line, replayed, replay_start, capacity, longest_line, transcript}
use Rattle.tally.specs.Steps.{step_of, tally_of}
use Rattle.tally.proofs.Steps.{answer_of, step_table, step_mail, formed-after, few-more}
use Rattle.transcript.proofs.Lines.{ahead, ahead_none, ahead_step}

-- what a well-formed input is known to be
pub record Known (input : List ℕ) : Type 0 where
  pub some-sessions : 1 ≤ sessions_in input
  pub max-sessions : sessions_in input ≤ max_sessions
  pub some-items : 1 ≤ items_in input
  pub max-items : items_in input ≤ max_items
  pub max-steps : count_in input ≤ max_steps
  pub whole : length input ≡ size (count_in input)

pub known : (input : List ℕ) → well_formed input ≡ true → Known input
unfolding well_formed
known input w =
    let sessions = between 1 max_sessions (sessions_in input) in
    let items = between 1 max_items (items_in input) in
    let few = leb (count_in input) max_steps in
    let three = and_both (sessions && items && few) (eqb (length input) (size (count_in input))) w in
    let two = and_both (sessions && items) few three.0 in
    let one = and_both sessions items two.0 in
    let s = within 1 max_sessions (sessions_in input) one.0 in
    let m = within 1 max_items (items_in input) one.1 in
    record {
      some-sessions = s.0;
      max-sessions = s.1;
      some-items = m.0;
      max-items = m.1;
      max-steps = leb-true (count_in input) max_steps two.1;
      whole = eqb-true (length input) (size (count_in input)) three.1;
    }

-- any other input
pub bad_input : (input : List ℕ) → well_formed input ≡ false → transcript input ≡ bad
unfolding transcript
bad_input input e = rw (e) refl

-- ---- step by step
-- the entries left in a well-formed mailbox can be counted, and are not many
pub left-few : {table mail : List ℕ} → Formed table mail → (4 ≤ length mail) × (Mail.count_of mail ≤ capacity)
left-few {table} {mail} f =
    let s = sized-facts mail f.mail-sized in
    let m = formed-facts (Table.sessions_of table) (Table.items_of table) mail f.mail-formed in (s.head, omega arith)

-- before step k: what is written at the start of `out`, and what is still to be printed
pub record Played (input out₀ table mail out : List ℕ) (t : Tally) (at k : ℕ) : Type 0 where
  pub reached : k ≤ count_in input
  pub formed : Formed table mail
  pub same : length out ≡ length out₀
  pub closed-few : t.closed ≤ k
  pub declared-few : t.declared ≤ k
  pub rolled-few : t.rolled_back ≤ k
  pub place-low : at ≤ longest_line * k
  pub written : List ℕ
  pub out-is : out ≡ splice out₀ 0 written
  pub at-is : at ≡ length written
  pub whole : written ++ ahead (k + 1) table mail (tally_of t) (drop k (steps_in input)) ≡ transcript input

-- none is done
module _ (input : List ℕ) (w : well_formed input ≡ true) where
  abbrev given : Config
  given = config (sessions_in input) (items_in input) capacity (plain (sessions_in input))

  bounded : Table.Bounded given.kept
  bounded =
      let k = known input w in
      record {
        some-sessions = k.some-sessions;
        max-sessions = k.max-sessions;
        some-items = k.some-items;
        max-items = k.max-items;
        ranks-whole = plain-length (sessions_in input);
      }

  startable : (table mail : List ℕ) → length table ≡ Table.size (sessions_in input) (items_in input) → length mail ≡ Mail.size capacity → Startable given table mail
  startable table mail ht hm =
      record {
        sizes = record { bounded = bounded; some-room = omega arith; max-room = omega arith; table-whole = ht; mail-whole = hm };
        ranks = plain-formed (sessions_in input);
      }

  -- its lock manager starts, in any buffers of the right sizes
  abbrev begun : List ℕ
  begun = Table.started given.kept

  starts : (table mail : List ℕ) → length table ≡ Table.size (sessions_in input) (items_in input) → length mail ≡ Mail.size capacity
      → start given table mail ≡ start_result 0 begun (Mail.mail_bytes capacity [])
  unfolding start
  starts table mail ht hm = rw (start_none given table mail (startable table mail ht hm)) refl

  opens : replay_start (sessions_in input) (items_in input) ≡ start_result 0 begun (Mail.mail_bytes capacity [])
  unfolding replay_start
  opens =
      starts (replicate (Table.size (sessions_in input) (items_in input)) 0) (replicate (Mail.size capacity) 0)
      (length-replicate {A = ℕ} (Table.size (sessions_in input) (items_in input)) 0) (length-replicate {A = ℕ} (Mail.size capacity) 0)

  formed-start : Formed begun (Mail.mail_bytes capacity [])
  unfolding all_of
  formed-start =
      let S = sessions_in input in
      let M = items_in input in
      let stands = config_of-started given.kept bounded in
      record {
        records = record { sized = sized-started given.kept bounded; formed = well_formed-started given.kept bounded (plain-formed S) };
        mail-sized = sized-mail capacity [] (omega arith) (omega arith) zero-le;
        mail-formed =
            rw (ap (λ (c : Table.Config). c.sessions) stands, ap (λ (c : Table.Config). c.items) stands) (well_formed-mail capacity [] (omega arith) (omega arith) zero-le S M refl);
      }

  pub none_done : (out table mail : List ℕ) {table' mail' : List ℕ} {r : ℕ} → length table ≡ Table.size (sessions_in input) (items_in input) → length mail ≡ Mail.size capacity
      → start_result r table' mail' ≡ start given table mail → Played input out table' mail' out (record { closed = 0; declared = 0; rolled_back = 0 }) 0 0
  unfolding transcript replayed
  none_done out table mail ht hm e =
      let q = e ∙ starts table mail ht hm in
      let t = ap (λ (r : Started). r.table) q in
      let m = ap (λ (r : Started). r.mail) q in
      record {
        reached = omega arith;
        formed = rw (t, m) formed-start;
        same = refl;
        closed-few = omega arith;
        declared-few = omega arith;
        rolled-few = omega arith;
        place-low = omega arith;
        written = [];
        out-is = sym (splice-none out 0);
        at-is = refl;
        whole = rw (w, opens, t, m) refl;
      }

-- the next step of those that are left
steps-drop : (input : List ℕ) (k : ℕ) → k < count_in input → drop k (steps_in input) ≡ step_at input k ∷ drop (k + 1) (steps_in input)
unfolding steps_in
steps-drop input k h =
    let n = count_in input in
    let l = tabulate n (step_at input) in
    rw (add-one k)
    (drop-cons l k (step_at input 0) (rw (length-tabulate n (step_at input)) h)
    ∙ ap (λ (c : Run.Step). c ∷ drop (suc k) l) (get_d_tabulate n (step_at input) k (step_at input 0) h))

no_more : (input : List ℕ) → drop (count_in input) (steps_in input) ≡ []
unfolding steps_in
no_more input = let n = count_in input in drop_of_length-le (tabulate n (step_at input)) {i = n} (rw (length-tabulate n (step_at input)) (omega arith))

module _ {input out₀ table mail out : List ℕ} {t : Tally} {at k : ℕ} (p : Played input out₀ table mail out t at k) where
  -- the step is done and its line is written
  module _ (less : k < count_in input) (c : Step) (asked : step_of c ≡ step_at input k) where
    abbrev did : Stepped
    did = step c.verb c.session c.item table mail

    abbrev later : List Run.Step
    later = drop (k + 1) (steps_in input)

    next-ahead : ahead (k + 1) table mail (tally_of t) (drop k (steps_in input))
        ≡ step_line (k + 1) (step_of c) did.answer ++ ahead (suc (k + 1)) did.table did.mail (counted c.session table did (tally_of t)) later
    next-ahead =
        ap (ahead (k + 1) table mail (tally_of t)) (steps-drop input k less ∙ ap (λ (q : Run.Step). q ∷ later) (sym asked))
        ∙ ahead_step (k + 1) table mail (tally_of t) (step_of c) later

    module _ {a : Answer} {u : Tally} {table' mail' : List ℕ} (e : stepped a table' mail' ≡ did)
        (f : tally_of u ≡ counted c.session table did (tally_of t)) where
      next-left : ahead (k + 1) table mail (tally_of t) (drop k (steps_in input))
          ≡ step_line (k + 1) (step_of c) a ++ ahead (k + 1 + 1) table' mail' (tally_of u) (drop (k + 1) (steps_in input))
      next-left = rw (add-one (k + 1), f, ap answer_of e, ap step_table e, ap step_mail e) next-ahead

      pub next : {out' : List ℕ} {at' : ℕ} → at + longest_line ≤ length out
          → out' ≡ splice out at (step_line (k + 1) (step_of c) a) → at' ≡ at + length (step_line (k + 1) (step_of c) a) → at' ≤ at + longest_line
          → length out' ≡ length out → Played input out₀ table' mail' out' u at' (k + 1)
      next room o r low lo =
          let line = step_line (k + 1) (step_of c) a in
          let few = few-more c table mail p.formed t f in
          record {
            reached = omega arith;
            formed = formed-after c table mail p.formed e;
            same = lo ∙ p.same;
            closed-few = omega arith;
            declared-few = omega arith;
            rolled-few = omega arith;
            place-low = omega arith;
            written = p.written ++ line;
            out-is = splice_then out₀ 0 p.written line (omega arith) p.out-is (omega arith) o;
            at-is = omega (arith, length-append p.written line);
            whole = append_assoc p.written line _ ∙ ap (λ (l : List ℕ). p.written ++ l) (sym next-left) ∙ p.whole;
          }

  -- all steps are done and the last line is written
  pub finished : k ≡ count_in input → {out' : List ℕ} {at' : ℕ} → at + longest_line ≤ length out
      → out' ≡ splice out at (end_line (Mail.count_of mail) (tally_of t)) → at' ≡ at + length (end_line (Mail.count_of mail) (tally_of t))
      → (out' ≡ splice out₀ 0 (transcript input)) × (at' ≡ length (transcript input))
  finished e room o r =
      let line = end_line (Mail.count_of mail) (tally_of t) in
      let last : p.written ++ line ≡ transcript input =
      ap (λ (l : List ℕ). p.written ++ l)
      (sym (ap (ahead (k + 1) table mail (tally_of t)) (ap (λ (j : ℕ). drop j (steps_in input)) e ∙ no_more input) ∙ ahead_none (k + 1) table mail (tally_of t))) ∙ p.whole in (
        splice_then out₀ 0 p.written line (omega arith) p.out-is (omega arith) o ∙ ap (splice out₀ 0) last,
        omega (arith, length-append p.written line, ap length last),
      )
