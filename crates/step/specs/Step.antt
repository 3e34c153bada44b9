-- One step on buffers that were judged: the answer and both buffers after. RULES is docs/RULES.md.
-- T is the session and X the item that a step names; S, M and C are read from the buffers.
use Rattle.std.specs.Prelude.{ℕ, ◌≡◌, Bool, true, cond, not, ◌&&◌, ◌||◌, List, [], ◌∷◌, ◌++◌, map, eqb, ltb, length, get_or}
use Rattle.lists.specs.Lists.{between, remove_at}
use Rattle.bitset.specs.Bitset.{has}
use Rattle.session.specs.Stage
use Rattle.session.specs.declared.Session.{Session}
use Rattle.session.specs.Rules as Session
use Rattle.item.specs.declared.Event.{Event}
use Rattle.item.specs.declared.Event.TheVariants.{Nothing}
use Rattle.item.specs.Record.{Lock, packed}
use Rattle.item.specs.NextHolder.{next_holder}
use Rattle.item.specs.Rules as Item
use Rattle.mailbox.specs.Entry.{Entry, to_item, to_session, unused, earliest, from_session, from_item, seen_by_item, seen_by_session}
use Rattle.mailbox.specs.Layout as Mail
use Rattle.table.specs.Layout as Table
use Rattle.waits.specs.OnTable.{locks, cycle_length}
use Rattle.step.specs.declared.Answer.{Answer}
use Rattle.refusal.specs.Refusal
use Rattle.refusal.specs.Refusal.{Cause, cause, first}

-- both buffers are well-formed (01: in form)
pub record Formed (table mail : List ℕ) : Type 0 where
  pub records : Table.Formed table
  pub mail-sized : Mail.sized mail ≡ true
  pub mail-formed : Mail.well_formed (Table.sessions_of table) (Table.items_of table) mail ≡ true

-- the number, and zeros
abbrev pub refused_answer : ℕ → Answer
refused_answer n = record { refusal = n; sent = 0; closed = 0; victim = 0; initiator = 0 }

abbrev pub accepted_answer : ℕ → ℕ → ℕ → ℕ → Answer
accepted_answer sent closed victim initiator = record { refusal = 0; sent = sent; closed = closed; victim = victim; initiator = initiator }

-- the verbs
abbrev pub request : ℕ
request = 1

abbrev pub release : ℕ
release = 2

abbrev pub deliver_to_item : ℕ
deliver_to_item = 3

abbrev pub deliver_to_session : ℕ
deliver_to_session = 4

-- one of the last two
abbrev pub is_delivery : ℕ → Bool
is_delivery verb = between deliver_to_item deliver_to_session verb

-- the place of the entry that a step delivers, the earliest of its route; a request or a release delivers none, and its place is past the end
unfoldable pub delivered : ℕ → ℕ → ℕ → List Entry → ℕ
delivered verb t x entries =
    cond (eqb verb deliver_to_item) (earliest to_item t x entries)
    (cond (eqb verb deliver_to_session) (earliest to_session t x entries) (length entries))

-- what an item does on the entry that is delivered to it, and what session T does: by the seniority, its own record and number, and that entry alone
abbrev pub item_receives : (ℕ → ℕ → Bool) → Lock → Entry → Item.After
item_receives senior lock e = Item.received senior (next_holder senior) lock (seen_by_item e)

abbrev pub session_receives : (ℕ → ℕ → Bool) → ℕ → Session → Entry → Session.After
session_receives senior t s e = Session.received senior t s (seen_by_session e)

-- what session T does: on a request, on a release, or on the entry that is delivered to it
unfoldable pub session_acts : (ℕ → ℕ → Bool) → ℕ → ℕ → ℕ → Session → Entry → Session.After
session_acts senior verb t x s e =
    cond (eqb verb request) (Session.requested x s)
    (cond (eqb verb release) (Session.released x s) (session_receives senior t s e))

-- what a step does where nothing refuses it: the table and the entries after it, how many were sent, and what happened
pub record Plan : Type 0 where
  pub table : List ℕ
  pub entries : List Entry
  pub sent : ℕ
  pub event : Event

-- the step of a session, and of an item; `rest` are the entries that are not delivered by it
abbrev pub session_plan : ℕ → List ℕ → List Entry → Session.After → Plan
session_plan t table rest r =
    record { table = Table.with_session table t r.session; entries = rest ++ map (from_session t) r.sends; sent = length r.sends; event = Nothing }

abbrev pub item_plan : ℕ → List ℕ → List Entry → Item.After → Plan
item_plan x table rest r =
    record { table = Table.with_item table x (packed r.lock); entries = rest ++ map (from_item x) r.sends; sent = length r.sends; event = r.event }

-- an item acts in a delivery to it, a session in every other step; the entry that is delivered is gone, and the rest close up
unfoldable pub plan : (ℕ → ℕ → Bool) → ℕ → ℕ → ℕ → List ℕ → List Entry → Plan
plan senior verb t x table entries =
    let k = delivered verb t x entries in
    cond (eqb verb deliver_to_item)
    (item_plan x table (remove_at k entries) (item_receives senior (locks table x) (get_or entries k unused)))
    (session_plan t table (remove_at k entries) (session_acts senior verb t x (Table.session table t) (get_or entries k unused)))

-- the stage forbids a request or a release: RULES 8.6
abbrev pub stage_forbids : ℕ → ℕ → Bool
stage_forbids verb stage =
    eqb verb request && not (eqb stage Stage.growing)
    || eqb verb release && not (eqb stage Stage.growing || eqb stage Stage.shrinking)

-- the mask forbids a request or a release: RULES 8.7
abbrev pub mask_forbids : ℕ → ℕ → ℕ → Bool
mask_forbids verb x held = eqb verb request && has x held || eqb verb release && not (has x held)

-- a delivery finds no entry: RULES 8.8
abbrev pub nothing_to_deliver : ℕ → ℕ → List Entry → Bool
nothing_to_deliver verb k entries = is_delivery verb && eqb k (length entries)

-- there is no room for the entries after a step: RULES 8.9
abbrev pub overfull : ℕ → List Entry → Bool
overfull C entries = ltb C (length entries)

-- the causes that lie in the step itself, in their order
abbrev pub step_causes : ℕ → ℕ → ℕ → List ℕ → List Entry → List Cause
step_causes verb t x table entries =
    cause (stage_forbids verb (Table.session table t).stage) Refusal.wrong_stage
    ∷ cause (mask_forbids verb x (Table.session table t).held) Refusal.wrong_item
    ∷ cause (nothing_to_deliver verb (delivered verb t x entries) entries) Refusal.no_message
    ∷ []

-- and at last room for what it sends
unfoldable pub hindered : (ℕ → ℕ → Bool) → ℕ → ℕ → ℕ → List ℕ → List ℕ → ℕ
hindered senior verb t x table mail =
    first
    (step_causes verb t x table (Mail.entries_of mail)
    ++ (cause (overfull (Mail.capacity_of mail) (plan senior verb t x table (Mail.entries_of mail)).entries) Refusal.mail_full ∷ []))

-- what a step answers, and both buffers after
pub record Stepped : Type 0 where
  pub answer : Answer
  pub table : List ℕ
  pub mail : List ℕ

abbrev pub stepped : Answer → List ℕ → List ℕ → Stepped
stepped a table mail = record { answer = a; table = table; mail = mail }

-- refused with a number other than 0, and table and mail as they were; else as given
abbrev pub unless : ℕ → List ℕ → List ℕ → Stepped → Stepped
unless n table mail r = cond (eqb n 0) r (stepped (refused_answer n) table mail)

-- 1 if this step put T in a queue and T then lies on a cycle, else 0: RULES 7.5
abbrev pub closed : ℕ → List ℕ → Event → ℕ
closed t table e = cond (Item.joined e && not (eqb (cycle_length table t) 0)) 1 0

-- what an accepted step answers: RULES 4.6
abbrev pub answered : ℕ → ℕ → List ℕ → Event → Answer
answered t sent table e = accepted_answer sent (closed t table e) (Item.victim e) (Item.initiator e)

abbrev pub committed : ℕ → ℕ → Plan → Stepped
committed t C p = stepped (answered t p.sent p.table p.event) p.table (Mail.mail_bytes C p.entries)

-- a step on buffers that were judged, by a seniority: that of the table in every call
unfoldable pub acted : (ℕ → ℕ → Bool) → ℕ → ℕ → ℕ → List ℕ → List ℕ → Stepped
acted senior verb t x table mail =
    unless (hindered senior verb t x table mail) table mail (committed t (Mail.capacity_of mail) (plan senior verb t x table (Mail.entries_of mail)))
