-- The abstract lock manager: sessions, items and a mailbox between them. Any seniority, any choice of the next holder, any policy that refuses calls.
use Rattle.std.specs.Prelude.{◌≡◌, ◌&&◌, ◌||◌, Bool, cond, false, not, true, [], ◌++◌, ◌∷◌, List, map, ◌+◌, ℕ, eqb, leb}
use Rattle.std.specs.Bool.{beq}
use Rattle.std.proofs.Math.Option.{none, Option, some}
use Rattle.lists.specs.Lists.{all_of, every, member, filter}
use Rattle.deadlock.specs.Lists.{bit, one_to, updated, without}
use Rattle.item.specs.Record.{lock}
use Rattle.item.specs.declared.Event.{Event as ItemEvent}
use Rattle.item.specs.declared.Event.TheVariants.{Declared, Joined, Nothing}
use Rattle.waits.specs.Waits

-- S sessions, numbered from 1, and M items, numbered from 1; who is senior to whom; the next holder when the queue is x ∷ xs
pub record Rules : Type 0 where
  pub S : ℕ
  pub M : ℕ
  pub senior : ℕ → ℕ → Bool
  pub next : ℕ → List ℕ → ℕ

-- seniority is a strict total order, and the next holder comes from the queue
pub record Laws (R : Rules) : Type 0 where
  pub irreflexive : (a : ℕ) → R.senior a a ≡ false
  pub transitive : (a b c : ℕ) → R.senior a b ≡ true → R.senior b c ≡ true → R.senior a c ≡ true
  pub total : (a b : ℕ) → R.senior a b ≡ false → R.senior b a ≡ false → a ≡ b
  pub next-member : (x : ℕ) (xs : List ℕ) → member (R.next x xs) (x ∷ xs) ≡ true

-- what a session sends to an item with no session named, and what an item sends to a session
pub data Upward : Type 0 where
  request release rebroadcast withdraw : Upward

pub data Downward : Type 0 where
  grant resend withdrawn : Downward

-- and the messages that name two sessions: probe (initiator, junior), clean (victim, initiator), abort (victim, initiator)
pub data Message : Type 0 where
  up : Upward → Message
  down : Downward → Message
  probe clean abort : ℕ → ℕ → Message

-- a victim's clean is on its way, or it withdraws from the queue in which it waits
pub data VictimPhase : Type 0 where
  cleaning withdrawing : VictimPhase

-- a session that requests no more until it is reopened: by its own release, or as a victim that was rolled back
pub data ReleasePhase : Type 0 where
  shrinking rolled_back : ReleasePhase

-- the six stages; those that await an item carry it
pub data Stage : Type 0 where
  growing : Stage
  waiting : ℕ → Stage
  victim : VictimPhase → ℕ → Stage
  releasing : ReleasePhase → Stage

-- its stage, the items that it holds, and for each initiator the junior of the stored probe, or 0
pub record Session : Type 0 where
  pub stage : Stage
  pub held : ℕ → Bool
  pub stored : ℕ → ℕ

-- a session that grows, holds nothing and stores no probe
abbrev pub fresh : Session
fresh = record { stage = growing; held = λ (_ : ℕ). false; stored = λ (_ : ℕ). 0 }

pub record Item : Type 0 where
  pub holder : Option ℕ
  pub queue : List ℕ

-- a message between a session and an item: to the item or to the session
pub record Entry : Type 0 where
  pub to_item : Bool
  pub session : ℕ
  pub item : ℕ
  pub message : Message

pub record State : Type 0 where
  pub session : ℕ → Session
  pub item : ℕ → Item
  pub mailbox : List Entry

-- messages with the item or session to which each is sent
abbrev pub Sends : Type 0
Sends = List (ℕ × Message)

-- what an item or a session does on a message: the record that follows, and what it sends, in order; at an item also what happens besides: its
-- session joins the queue, or a victim is declared
pub record ItemStep : Type 0 where
  pub after : Item
  pub sends : Sends
  pub event : ItemEvent

pub record SessionStep : Type 0 where
  pub after : Session
  pub sends : Sends

-- what a session does on a call
pub data Answer : Type 0 where
  refused : Answer
  accepted : SessionStep → Answer

-- the message is dropped
abbrev pub item_drops : Item → ItemStep
item_drops i = record { after = i; sends = []; event = Nothing }

abbrev pub session_drops : Session → SessionStep
session_drops r = record { after = r; sends = [] }

unfoldable pub held_by : Option ℕ → ℕ → Bool
held_by none t = false
held_by (some h) t = eqb h t

-- the holder's number, or 0 for none
abbrev pub holder_or0 : Option ℕ → ℕ
holder_or0 none = 0
holder_or0 (some h) = h

-- a resend to each of a list of sessions
unfoldable pub resends : List ℕ → Sends
resends l = map (λ (a : ℕ). (a, down resend)) l

-- what is stored, as probes to item x, by rising initiator
unfoldable pub probes_from : (ℕ → ℕ) → ℕ → List ℕ → Sends
probes_from f x [] = []
probes_from f x (i ∷ l) = cond (eqb (f i) 0) (probes_from f x l) ((x, probe i (f i)) ∷ probes_from f x l)

-- a message to each item of a list that passes the test
unfoldable pub to_each : Message → (ℕ → Bool) → List ℕ → Sends
to_each m f [] = []
to_each m f (x ∷ l) = cond (f x) ((x, m) ∷ to_each m f l) (to_each m f l)

-- a message to the item that a session of this stage awaits, if it awaits one
unfoldable pub to_awaited : Stage → Message → Sends
to_awaited growing m = []
to_awaited (waiting y) m = (y, m) ∷ []
to_awaited (victim p y) m = (y, m) ∷ []
to_awaited (releasing p) m = []

-- the stages in which a session takes probes
abbrev pub is_live : Stage → Bool
is_live growing = true
is_live (waiting y) = true
is_live (victim p y) = false
is_live (releasing p) = false

-- the stages of a session that releases, or was rolled back
abbrev pub is_over : Stage → Bool
is_over growing = false
is_over (waiting y) = false
is_over (victim p y) = false
is_over (releasing p) = true

-- a message comes from session t or goes to it
unfoldable pub of_session : ℕ → Entry → Bool
of_session t e = eqb t e.session

-- no message of a list does
unfoldable pub none_of_session : ℕ → List Entry → Bool
none_of_session t l = all_of (λ (e : Entry). not (of_session t e)) l

-- session t holds the item or stands in its queue
unfoldable pub item_names : ℕ → Item → Bool
item_names t i = held_by i.holder t || member t i.queue

module _ (R : Rules) where
  -- ---- what an item does on a message of session t
  -- probe (a, holder) to the holder for each session a of a list that is senior to it
  unfoldable pub probes_to : ℕ → List ℕ → Sends
  probes_to h l = map (λ (a : ℕ). (h, probe a h)) (filter (λ (a : ℕ). R.senior a h) l)

  -- probes anew: to the holder h for the sessions l, then a resend to each of m, so that they send their stored probes again
  unfoldable pub probes_anew : ℕ → List ℕ → List ℕ → Sends
  probes_anew h l m = probes_to h l ++ resends m

  -- no holder: t becomes holder. Else t joins the end of the queue; if t is senior to the holder, a probe to the holder
  unfoldable pub grant_or_queue : ℕ → List ℕ → Option ℕ → ItemStep
  grant_or_queue t l none = record { after = record { holder = some t; queue = l }; sends = (t, down grant) ∷ []; event = Nothing }
  grant_or_queue t l (some h) =
      record { after = record { holder = some h; queue = l ++ t ∷ [] }; sends = cond (R.senior t h) ((h, probe t h) ∷ []) []; event = Joined }

  unfoldable pub on_request : ℕ → Item → ItemStep
  on_request t r = cond (held_by r.holder t || member t r.queue) (item_drops r) (grant_or_queue t r.queue r.holder)

  -- to the next holder: grant, then a probe for each remaining session senior to it; then a resend to each remaining session
  unfoldable pub hand_over : List ℕ → ItemStep
  hand_over [] = record { after = record { holder = none; queue = [] }; sends = []; event = Nothing }
  hand_over (x ∷ xs) =
      let a = R.next x xs in
      let rest = without a (x ∷ xs) in
      record { after = record { holder = some a; queue = rest }; sends = (a, down grant) ∷ probes_anew a rest rest; event = Nothing }

  unfoldable pub on_release : ℕ → Item → ItemStep
  on_release t r = cond (held_by r.holder t) (hand_over r.queue) (item_drops r)

  -- probe (i, j) of a session in the queue: dropped if the holder is senior to i; declared if the holder is i; else passed on
  unfoldable pub pass_probe : ℕ → ℕ → Option ℕ → Sends
  pass_probe i j none = []
  pass_probe i j (some h) = cond (R.senior h i) [] (cond (eqb h i) ((j, abort j i) ∷ []) ((h, probe i j) ∷ []))

  unfoldable pub declares : ℕ → ℕ → Option ℕ → ItemEvent
  declares i j none = Nothing
  declares i j (some h) = cond (R.senior h i) Nothing (cond (eqb h i) (Declared j i) Nothing)

  unfoldable pub pass_clean : ℕ → ℕ → ℕ → List ℕ → Option ℕ → Sends
  pass_clean t v i l none = []
  pass_clean t v i l (some h) = (h, clean v i) ∷ probes_anew h l (without t l)

  unfoldable pub on_rebroadcast : List ℕ → Option ℕ → Sends
  on_rebroadcast l none = []
  on_rebroadcast l (some h) = probes_anew h l l

  -- the sender of a probe stands in the queue: other probes are dropped
  unfoldable pub in_queue : ℕ → Item → Bool
  in_queue t r = member t r.queue

  unfoldable pub item_receives : ℕ → Item → Message → ItemStep
  item_receives t r (up request) = on_request t r
  item_receives t r (up release) = on_release t r
  item_receives t r (up rebroadcast) = record { after = r; sends = on_rebroadcast r.queue r.holder; event = Nothing }
  item_receives t r (up withdraw) =
      record { after = record { holder = r.holder; queue = without t r.queue }; sends = (t, down withdrawn) ∷ []; event = Nothing }
  item_receives t r (down m) = item_drops r
  item_receives t r (probe i j) =
      record {
        after = r;
        sends = cond (in_queue t r) (pass_probe i j r.holder) [];
        event = cond (in_queue t r) (declares i j r.holder) Nothing;
      }
  item_receives t r (clean v i) = record { after = r; sends = pass_clean t v i r.queue r.holder; event = Nothing }
  item_receives t r (abort v i) = item_drops r

  -- ---- what session t does on a message of item x
  unfoldable pub stored_probes : Session → ℕ → Sends
  stored_probes r x = probes_from r.stored x (one_to R.S)

  unfoldable pub on_grant : ℕ → Session → Stage → SessionStep
  on_grant x r growing = session_drops r
  on_grant x r (waiting y) =
      cond (eqb y x) (record { after = record { stage = growing; held = updated r.held x true; stored = r.stored }; sends = [] }) (session_drops r)
  on_grant x r (victim p y) = session_drops r
  on_grant x r (releasing p) = session_drops r

  -- the more junior of the two
  unfoldable pub junior : ℕ → ℕ → ℕ
  junior j t = cond (R.senior j t) t j

  -- nothing is stored for i, or something senior to j
  unfoldable pub is_news : (ℕ → ℕ) → ℕ → ℕ → Bool
  is_news f i j = eqb (f i) 0 || R.senior (f i) j

  unfoldable pub store_probe : Session → ℕ → ℕ → Sends → SessionStep
  store_probe r i j sends =
      cond (is_news r.stored i j)
      (record { after = record { stage = r.stage; held = r.held; stored = updated r.stored i j }; sends = sends })
      (session_drops r)

  -- a session that takes probes stores this one, and passes it on to the item that it awaits
  unfoldable pub on_probe : ℕ → Session → ℕ → ℕ → Stage → SessionStep
  on_probe t r i j s = cond (is_live s) (store_probe r i (junior j t) (to_awaited s (probe i (junior j t)))) (session_drops r)

  unfoldable pub on_resend : ℕ → Session → Stage → SessionStep
  on_resend x r growing = session_drops r
  on_resend x r (waiting y) = record { after = r; sends = cond (eqb y x) (stored_probes r x) [] }
  on_resend x r (victim p y) = session_drops r
  on_resend x r (releasing p) = session_drops r

  -- a waiting session becomes a victim: its probes are cleared and a clean goes round the cycle
  unfoldable pub on_abort : Session → ℕ → ℕ → Stage → SessionStep
  on_abort r v i growing = session_drops r
  on_abort r v i (waiting y) =
      record { after = record { stage = victim cleaning y; held = r.held; stored = λ (_ : ℕ). 0 }; sends = (y, clean v i) ∷ [] }
  on_abort r v i (victim p y) = session_drops r
  on_abort r v i (releasing p) = session_drops r

  -- the session with its probes cleared
  unfoldable pub cleared : Session → Session
  cleared r = record { stage = r.stage; held = r.held; stored = λ (_ : ℕ). 0 }

  -- a rebroadcast to each held item but x
  unfoldable pub rebroadcasts : ℕ → Session → Sends
  rebroadcasts x r = to_each (up rebroadcast) (λ (k : ℕ). r.held k && not (eqb k x)) (one_to R.M)

  -- probes cleared and rebroadcasts; a waiting session passes the clean on; the victim, back where the clean began, withdraws
  unfoldable pub on_clean : ℕ → ℕ → Session → ℕ → ℕ → Stage → SessionStep
  on_clean t x r v i growing = record { after = cleared r; sends = rebroadcasts x r }
  on_clean t x r v i (waiting y) = record { after = cleared r; sends = rebroadcasts x r ++ (y, clean v i) ∷ [] }
  on_clean t x r v i (victim cleaning y) =
      cond (eqb v t)
      (record { after = record { stage = victim withdrawing y; held = r.held; stored = r.stored }; sends = (y, up withdraw) ∷ [] })
      (session_drops r)
  on_clean t x r v i (victim withdrawing y) = session_drops r
  on_clean t x r v i (releasing p) = session_drops r

  unfoldable pub on_withdrawn : Session → Stage → SessionStep
  on_withdrawn r growing = session_drops r
  on_withdrawn r (waiting y) = session_drops r
  on_withdrawn r (victim cleaning y) = session_drops r
  on_withdrawn r (victim withdrawing y) =
      record {
        after = record { stage = releasing rolled_back; held = λ (_ : ℕ). false; stored = r.stored };
        sends = to_each (up release) r.held (one_to R.M);
      }
  on_withdrawn r (releasing p) = session_drops r

  unfoldable pub session_receives : ℕ → ℕ → Session → Message → SessionStep
  session_receives t x r (up m) = session_drops r
  session_receives t x r (down grant) = on_grant x r r.stage
  session_receives t x r (down resend) = on_resend x r r.stage
  session_receives t x r (down withdrawn) = on_withdrawn r r.stage
  session_receives t x r (probe i j) = on_probe t r i j r.stage
  session_receives t x r (clean v i) = on_clean t x r v i r.stage
  session_receives t x r (abort v i) = on_abort r v i r.stage

  -- ---- what a session does on a call for item x
  unfoldable pub on_request_call : ℕ → Session → Stage → Answer
  on_request_call x r growing =
      cond (r.held x) refused
      (accepted (record { after = record { stage = waiting x; held = r.held; stored = r.stored }; sends = (x, up request) ∷ stored_probes r x }))
  on_request_call x r (waiting y) = refused
  on_request_call x r (victim p y) = refused
  on_request_call x r (releasing p) = refused

  unfoldable pub release_held : ℕ → Session → Answer
  release_held x r =
      cond (r.held x)
      (accepted (record {
        after = record { stage = releasing shrinking; held = updated r.held x false; stored = λ (_ : ℕ). 0 };
        sends = (x, up release) ∷ [];
      }))
      refused

  unfoldable pub on_release_call : ℕ → Session → Stage → Answer
  on_release_call x r growing = release_held x r
  on_release_call x r (waiting y) = refused
  on_release_call x r (victim p y) = refused
  on_release_call x r (releasing shrinking) = release_held x r
  on_release_call x r (releasing rolled_back) = refused

  -- ---- when a session may be reopened
  -- it releases or was rolled back, no message is on its way to it or from it, and no item names it; a policy may ask for more
  unfoldable pub may_reopen : State → ℕ → Bool
  may_reopen s t =
      is_over (s.session t).stage
      && (none_of_session t s.mailbox && every R.M (λ (x : ℕ). not (item_names t (s.item x))))

  -- it begins anew
  unfoldable pub on_reopen_call : State → ℕ → Answer
  on_reopen_call s t = cond (may_reopen s t) (accepted (record { after = fresh; sends = [] })) refused

-- ---- the mailbox
unfoldable pub is_on_route : Bool → ℕ → ℕ → Entry → Bool
is_on_route d t x e = beq d e.to_item && (eqb t e.session && eqb x e.item)

-- the messages on the route between session t and item x, to the item (true) or to the session (false), earliest first
unfoldable pub route : Bool → ℕ → ℕ → List Entry → List Message
route d t x [] = []
route d t x (e ∷ es) = cond (is_on_route d t x e) (e.message ∷ route d t x es) (route d t x es)

-- the earliest message of a route, with the entries that remain
pub data Taken : Type 0 where
  no_entry : Taken
  taken : Message → List Entry → Taken

unfoldable pub put_back : Entry → Taken → Taken
put_back e no_entry = no_entry
put_back e (taken m l) = taken m (e ∷ l)

unfoldable pub take_first : Bool → ℕ → ℕ → List Entry → Taken
take_first d t x [] = no_entry
take_first d t x (e ∷ es) = cond (is_on_route d t x e) (taken e.message es) (put_back e (take_first d t x es))

unfoldable pub from_session : ℕ → Sends → List Entry
from_session t [] = []
from_session t (p ∷ l) = record { to_item = true; session = t; item = p.0; message = p.1 } ∷ from_session t l

unfoldable pub from_item : ℕ → Sends → List Entry
from_item x [] = []
from_item x (p ∷ l) = record { to_item = false; session = p.0; item = x; message = p.1 } ∷ from_item x l

-- ---- the step
-- session, item: a request, a release, delivery of the earliest message to the item or to the session; session: it is reopened
pub data Call : Type 0 where
  request_call release_call deliver_to_item deliver_to_session : ℕ → ℕ → Call
  reopen : ℕ → Call

unfoldable pub after_session : State → ℕ → List Entry → SessionStep → State
after_session s t m o = record { session = updated s.session t o.after; item = s.item; mailbox = m ++ from_session t o.sends }

unfoldable pub after_item : State → ℕ → List Entry → ItemStep → State
after_item s x m o = record { session = s.session; item = updated s.item x o.after; mailbox = m ++ from_item x o.sends }

module _ (R : Rules) where
  unfoldable pub after_answer : State → ℕ → Answer → State
  after_answer s t refused = s
  after_answer s t (accepted o) = after_session s t s.mailbox o

  unfoldable pub item_takes : State → ℕ → ℕ → Taken → State
  item_takes s t x no_entry = s
  item_takes s t x (taken m l) = after_item s x l (item_receives R t (s.item x) m)

  unfoldable pub session_takes : State → ℕ → ℕ → Taken → State
  session_takes s t x no_entry = s
  session_takes s t x (taken m l) = after_session s t l (session_receives R t x (s.session t) m)

  -- the state after a call that is admitted
  unfoldable pub move : State → Call → State
  move s (request_call t x) = after_answer s t (on_request_call R x (s.session t) (s.session t).stage)
  move s (release_call t x) = after_answer s t (on_release_call R x (s.session t) (s.session t).stage)
  move s (deliver_to_item t x) = item_takes s t x (take_first true t x s.mailbox)
  move s (deliver_to_session t x) = session_takes s t x (take_first false t x s.mailbox)
  move s (reopen t) = after_answer s t (on_reopen_call R s t)

  -- a session of the machine, and a session and an item
  abbrev pub is_session : ℕ → Bool
  is_session t = leb 1 t && leb t R.S

  unfoldable pub in_range : ℕ → ℕ → Bool
  in_range t x = is_session t && (leb 1 x && leb x R.M)

  unfoldable pub of_machine : Call → Bool
  of_machine (request_call t x) = in_range t x
  of_machine (release_call t x) = in_range t x
  of_machine (deliver_to_item t x) = in_range t x
  of_machine (deliver_to_session t x) = in_range t x
  of_machine (reopen t) = is_session t

  -- every session grows and holds nothing, every item is free, the mailbox is empty
  unfoldable pub start : State
  start = record {
    session = λ (_ : ℕ). fresh;
    item = λ (_ : ℕ). record { holder = none; queue = [] };
    mailbox = [];
  }

  -- ---- who waits for whom in a state
  unfoldable pub waits_for : State → ℕ → ℕ
  waits_for s t = Waits.waits_for R.M (λ x. lock (holder_or0 (s.item x).holder) (s.item x).queue) t

  -- the session reached from t by n waits, or 0
  abbrev pub reached : State → ℕ → ℕ → ℕ
  reached s n t = Waits.reached (waits_for s) n t

  abbrev pub on_cycle : State → ℕ → Bool
  on_cycle s t = Waits.on_cycle (waits_for s) R.S t

-- ---- what happens at a step
pub record Declaration : Type 0 where
  pub victim : ℕ
  pub initiator : ℕ

-- closed: the step put its session in a queue, and that session then lies on a cycle;
-- declared: a probe (initiator, victim) of a session in the queue came to an item held by the initiator;
-- rolled_back: a delivery brought its session from another stage to rolled_back
pub record Event : Type 0 where
  pub closed : Bool
  pub declared : Option Declaration
  pub rolled_back : Bool

abbrev pub nothing : Event
nothing = record { closed = false; declared = none; rolled_back = false }

abbrev pub is_rolled_back : Stage → Bool
is_rolled_back growing = false
is_rolled_back (waiting y) = false
is_rolled_back (victim p y) = false
is_rolled_back (releasing shrinking) = false
is_rolled_back (releasing rolled_back) = true

-- a delivery to an item, by what happens there and whether its session lies on a cycle in the state after
unfoldable pub item_event : ItemEvent → Bool → Event
item_event Nothing on_cycle = nothing
item_event Joined on_cycle = record { closed = on_cycle; declared = none; rolled_back = false }
item_event (Declared v i) on_cycle = record { closed = false; declared = some (record { victim = v; initiator = i }); rolled_back = false }

-- a delivery to a session, from its stage before and after
unfoldable pub session_event : Stage → Stage → Event
session_event before after = record { closed = false; declared = none; rolled_back = not (is_rolled_back before) && is_rolled_back after }

module _ (R : Rules) where
  unfoldable pub taken_event : ℕ → Item → State → Taken → Event
  taken_event t r after no_entry = nothing
  taken_event t r after (taken m l) = item_event (item_receives R t r m).event (on_cycle R after t)

  -- what happens when an admitted call takes the machine from one state to another
  unfoldable pub event_of : State → Call → State → Event
  event_of s (request_call t x) after = nothing
  event_of s (release_call t x) after = nothing
  event_of s (deliver_to_item t x) after = taken_event t (s.item x) after (take_first true t x s.mailbox)
  event_of s (deliver_to_session t x) after = session_event (s.session t).stage (after.session t).stage
  event_of s (reopen t) after = nothing

-- the state after a call, and what happened
pub record Stepped : Type 0 where
  pub state : State
  pub event : Event

-- what a list of calls leaves, and what happened at each of them
pub record Ran : Type 0 where
  pub state : State
  pub events : List Event

-- a policy may refuse any call for any reason; a call that it refuses, or that is not of the machine, is no step
module _ (R : Rules) (admits : State → Call → Bool) where
  unfoldable pub step : State → Call → Stepped
  step s c =
      cond (of_machine R c && admits s c)
      (record { state = move R s c; event = event_of R s c (move R s c) })
      (record { state = s; event = nothing })

  unfoldable pub run : State → List Call → Ran
  run s [] = record { state = s; events = [] }
  run s (c ∷ cs) =
      let a = step s c in
      let r = run a.state cs in
      record { state = r.state; events = a.event ∷ r.events }

-- ---- what is counted over a list of events
unfoldable pub count_closed : List Event → ℕ
count_closed [] = 0
count_closed (e ∷ es) = bit e.closed + count_closed es

unfoldable pub count_rolled_back : List Event → ℕ
count_rolled_back [] = 0
count_rolled_back (e ∷ es) = bit e.rolled_back + count_rolled_back es
