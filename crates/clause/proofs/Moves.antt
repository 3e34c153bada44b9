-- What a call that is not refused is to the machine: one of its moves, with the same event.
use mathlib.Core.Path.{◌≡◌, refl, ap, ◌∙◌}
use mathlib.Core.Bool.{Bool, true, false, cond, not, ◌&&◌, and-false}
use mathlib.Core.List.{List, ◌++◌, map}
use mathlib.Core.Logic.{◌≢◌}
use mathlib.Core.Option.{none, some}
use Prim.Native.Nat.{ℕ}
use lib.Dec.{eqb}
use Rattle.lists.specs.Lists.{between}
use Rattle.session.specs.Stage
use Rattle.session.specs.declared.Session.{Session}
use Rattle.session.specs.Record as SessionRecord
use Rattle.session.specs.Rules as Session
use Rattle.item.specs.Record.{Lock, packed}
use Rattle.item.specs.Rules as Item
use Rattle.item.specs.declared.Event.{Event}
use Rattle.item.specs.declared.Event.TheVariants.{Nothing, Joined, Declared}
use Rattle.mailbox.specs.Entry.{Entry, from_session, from_item}
use Rattle.mailbox.specs.Layout as Mail
use Rattle.table.specs.Layout as Table
use Rattle.waits.specs.OnTable.{locks, cycle_length}
use Rattle.wellformed.proofs.Sessions.{SessionKept}
use Rattle.wellformed.proofs.Items.{ItemKept}
use Rattle.step.specs.Step as Step
use Rattle.step.specs.Step.{Stepped, committed, session_plan, item_plan}
use Rattle.lockmgr.specs.Calls.{Config}
use Rattle.lockmgr.specs.Run.{Buffers, buffers, rolls_back}
use Rattle.deadlock.specs.Lists.{bit}
use Rattle.deadlock.specs.Machine
use Rattle.bound.specs.Statement as Bound
use Rattle.agreement.specs.Reading.{read_state}
use Rattle.agreement.proofs.MoveAgrees.{Replaced}
use Rattle.clause.proofs.State
use Rattle.clause.proofs.State.{machine_of, state_of, Good, given}
use Rattle.clause.proofs.Cycles.{on-cycle_of}

-- from a table and entries to other buffers: a call of the machine, with what happens at it
pub record Moved (conf : Config) (table : List ℕ) (l : List Entry) (b : Buffers) : Type 0 where
  pub call : Machine.Call
  pub is_of_machine : Machine.of_machine (machine_of conf) call ≡ true
  pub entries : List Entry
  pub mail : b.mail ≡ Mail.mail_bytes conf.capacity entries
  pub good : Good conf b.table entries
  pub moves : state_of conf b.table entries ≡ Machine.move (machine_of conf) (state_of conf table l) call
  pub event : Machine.Event
  pub happens : Machine.event_of (machine_of conf) (state_of conf table l) call (state_of conf b.table entries) ≡ event

-- such a move by a step with this verb and session, which leaves and answers r
pub record StepMoved (conf : Config) (table : List ℕ) (l : List Entry) (verb t : ℕ) (r : Stepped) : Type 0 where
  pub moved : Moved conf table l (buffers r.table r.mail)
  pub accepted : r.answer.refusal ≡ 0
  pub closes : r.answer.closed ≡ bit moved.event.closed
  pub declares : r.answer.victim ≢ 0 → moved.event.declared ≡ some (record { victim = r.answer.victim; initiator = r.answer.initiator })
  pub rolls : rolls_back t table r.table ≡ moved.event.rolled_back
  pub delivered : Step.is_delivery verb && rolls_back t table r.table ≡ rolls_back t table r.table
  pub delivers : Step.is_delivery verb ≡ true → Bound.delivers (state_of conf table l) moved.call ≡ true

pub one-is-bit : (b : Bool) → cond b 1 0 ≡ bit b
one-is-bit true = refl
one-is-bit false = refl

middle : (a b c : Bool) → a && c ≡ c → a && (b && c) ≡ b && c
middle true b c e = refl
middle false true c e = e
middle false false c e = refl

pub never_both : (b : Bool) → not b && b ≡ false
never_both true = refl
never_both false = refl

module _ {conf : Config} {table : List ℕ} {l : List Entry} (g : Good conf table l) (t : ℕ) (t-range : between 1 conf.kept.sessions t ≡ true) where
  abbrev before : Machine.State
  before = state_of conf table l

  -- what session t does: the machine's call, the entries that are not delivered by it
  module _ (call : Machine.Call) (is_of_machine : Machine.of_machine (machine_of conf) call ≡ true) (rest : List Entry) (r : Session.After) where
    abbrev sent : List Entry
    sent = rest ++ map (from_session t) r.sends

    abbrev Put : (ℕ → Session) → Type 0
    Put f = Replaced conf.kept.sessions (Table.session table) f t r.session

    module _ (kept : SessionKept (Table.sessions_of table) (Table.items_of table) t r) (good : Good conf (Table.with_session table t r.session) sent)
        (moves : (f : ℕ → Session) → Put f → read_state conf.kept.sessions conf.kept.items f (locks table) sent ≡ Machine.move (machine_of conf) before call)
        (happens : (f : ℕ → Session) → Put f → SessionRecord.well_formed conf.kept.sessions conf.kept.items (f t) ≡ true
        → Machine.event_of (machine_of conf) before call (read_state conf.kept.sessions conf.kept.items f (locks table) sent)
        ≡ record { closed = false; declared = none; rolled_back = not (eqb (Table.session table t).stage Stage.rolled_back) && eqb (f t).stage Stage.rolled_back }) where
      abbrev table-after : List ℕ
      table-after = Table.with_session table t r.session

      put : Put (Table.session table-after)
      put = State.session_replaced g t t-range kept

      state : state_of conf table-after sent ≡ read_state conf.kept.sessions conf.kept.items (Table.session table-after) (locks table) sent
      state = State.session-state g t t-range kept sent

      pub session-moved : Moved conf table l (buffers table-after (Mail.mail_bytes conf.capacity sent))
      session-moved = record {
        call = call;
        is_of_machine = is_of_machine;
        entries = sent;
        mail = refl;
        good = good;
        moves = state ∙ moves (Table.session table-after) put;
        event = record { closed = false; declared = none; rolled_back = rolls_back t table table-after };
        happens = ap (Machine.event_of (machine_of conf) before call) state ∙ happens (Table.session table-after) put ((given good).session t t-range);
      }

      pub session-call : session-moved.call ≡ call
      unfolding session-moved
      session-call = refl

      -- by a step with this verb
      pub session-stepped : (verb : ℕ)
          → Step.is_delivery verb && eqb r.session.stage Stage.rolled_back ≡ eqb r.session.stage Stage.rolled_back
          → (Step.is_delivery verb ≡ true → Bound.delivers before call ≡ true)
          → StepMoved conf table l verb t (committed t conf.capacity (session_plan t table rest r))
      unfolding session-moved
      session-stepped verb delivered delivers = record {
        moved = session-moved;
        accepted = refl;
        closes = one-is-bit false;
        declares = λ n. absurd (n refl);
        rolls = refl;
        delivered = middle (Step.is_delivery verb) (not (eqb (Table.session table t).stage Stage.rolled_back)) (eqb (Table.session table-after t).stage Stage.rolled_back)
            (rw put.here delivered);
        delivers = delivers;
      }

  -- what item x does on a message of session t
  module _ (x : ℕ) (x-range : between 1 conf.kept.items x ≡ true) (call : Machine.Call) (is_of_machine : Machine.of_machine (machine_of conf) call ≡ true)
      (rest : List Entry) (r : Item.After) where
    abbrev answered : List Entry
    answered = rest ++ map (from_item x) r.sends

    abbrev PutLock : (ℕ → Lock) → Type 0
    PutLock f = Replaced conf.kept.items (locks table) f x r.lock

    module _ (kept : ItemKept (Table.sessions_of table) (Table.items_of table) x r) (good : Good conf (Table.with_item table x (packed r.lock)) answered)
        (moves : (f : ℕ → Lock) → PutLock f → read_state conf.kept.sessions conf.kept.items (Table.session table) f answered ≡ Machine.move (machine_of conf) before call)
        (happens : (after : Machine.State) → Machine.event_of (machine_of conf) before call after ≡ Machine.item_event r.event (Machine.on_cycle (machine_of conf) after t))
        (delivers : Bound.delivers before call ≡ true) where
      abbrev item-after : List ℕ
      item-after = Table.with_item table x (packed r.lock)

      put-lock : PutLock (locks item-after)
      put-lock = State.lock_replaced g x x-range kept

      same-stage : rolls_back t table item-after ≡ false
      same-stage = rw (State.session-same g x x-range kept t t-range) (never_both (eqb (Table.session table t).stage Stage.rolled_back))

      closes : (e : Event) → Step.closed t item-after e ≡ bit (Machine.item_event e (Machine.on_cycle (machine_of conf) (state_of conf item-after answered) t)).closed
      unfolding Machine.item_event
      closes Nothing = one-is-bit false
      closes Joined = rw (on-cycle_of good t) (one-is-bit (not (eqb (cycle_length item-after t) 0)))
      closes (Declared v i) = one-is-bit false

      declares : (e : Event) (b : Bool) → Item.victim e ≢ 0 → (Machine.item_event e b).declared ≡ some (record { victim = Item.victim e; initiator = Item.initiator e })
      unfolding Machine.item_event
      declares Nothing b n = absurd (n refl)
      declares Joined b n = absurd (n refl)
      declares (Declared v i) b n = refl

      never_rolls : (e : Event) (b : Bool) → false ≡ (Machine.item_event e b).rolled_back
      unfolding Machine.item_event
      never_rolls Nothing b = refl
      never_rolls Joined b = refl
      never_rolls (Declared v i) b = refl

      -- by a step with this verb
      pub item-stepped : (verb : ℕ) → StepMoved conf table l verb t (committed t conf.capacity (item_plan x table rest r))
      item-stepped verb = record {
        moved = record {
          call = call;
          is_of_machine = is_of_machine;
          entries = answered;
          mail = refl;
          good = good;
          moves = State.item-state g x x-range kept answered ∙ moves (locks item-after) put-lock;
          event = Machine.item_event r.event (Machine.on_cycle (machine_of conf) (state_of conf item-after answered) t);
          happens = happens (state_of conf item-after answered);
        };
        accepted = refl;
        closes = closes r.event;
        declares = declares r.event (Machine.on_cycle (machine_of conf) (state_of conf item-after answered) t);
        rolls = same-stage ∙ never_rolls r.event (Machine.on_cycle (machine_of conf) (state_of conf item-after answered) t);
        delivered = rw (same-stage) (and-false (Step.is_delivery verb));
        delivers = λ _. delivers;
      }
