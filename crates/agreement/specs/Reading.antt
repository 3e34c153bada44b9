-- How a record of the lock manager is read as the abstract machine's.
use Rattle.std.specs.Prelude.{Bool, cond, ◌&&◌, List, [], ◌∷◌, ℕ, ◌-◌, eqb, get_or}
use Rattle.std.proofs.Math.Option.{Option, none, some}
use Rattle.lists.specs.Lists.{between}
use Rattle.bitset.specs.Bitset.{has}
use Rattle.message.specs.Kind
use Rattle.message.specs.declared.Message.{Message}
use Rattle.session.specs.Stage
use Rattle.session.specs.declared.Session.{Session}
use Rattle.session.specs.Rules as SessionRules
use Rattle.item.specs.Record.{Lock}
use Rattle.item.specs.Rules as ItemRules
use Rattle.mailbox.specs.Entry.{Entry, to_item, to_session}
use Rattle.deadlock.specs.Machine

-- stages 1 to 5, of which 2, 4 and 5 await x; any other number is read as rolled back
unfoldable pub read_stage : ℕ → ℕ → Machine.Stage
read_stage stage x =
    cond (eqb stage Stage.growing) Machine.growing
    (cond (eqb stage Stage.waiting) (Machine.waiting x)
    (cond (eqb stage Stage.shrinking) (Machine.releasing Machine.shrinking)
    (cond (eqb stage Stage.cleaning) (Machine.victim Machine.cleaning x)
    (cond (eqb stage Stage.withdrawing) (Machine.victim Machine.withdrawing x) (Machine.releasing Machine.rolled_back)))))

-- the items of a mask: none outside 1 to 64
unfoldable pub read_held : ℕ → ℕ → Bool
read_held mask k = between 1 64 k && has k mask

-- the junior stored for an initiator: 0 outside 1 to 64
unfoldable pub read_stored : List ℕ → ℕ → ℕ
read_stored juniors i = cond (between 1 64 i) (get_or juniors (i - 1) 0) 0

abbrev pub read_session : Session → Machine.Session
read_session s =
    record { stage = read_stage s.stage s.awaited; held = read_held s.held; stored = read_stored s.juniors }

unfoldable pub read_holder : ℕ → Option ℕ
read_holder h = cond (eqb h 0) none (some h)

abbrev pub read_item : Lock → Machine.Item
read_item k = record { holder = read_holder k.holder; queue = k.queue }

-- kinds 1 to 10; any other kind is read as a withdrawn
unfoldable pub read_message : ℕ → ℕ → ℕ → Machine.Message
read_message kind a b =
    cond (eqb kind Kind.request) (Machine.up Machine.request)
    (cond (eqb kind Kind.release) (Machine.up Machine.release)
    (cond (eqb kind Kind.probe) (Machine.probe a b)
    (cond (eqb kind Kind.clean) (Machine.clean a b)
    (cond (eqb kind Kind.rebroadcast) (Machine.up Machine.rebroadcast)
    (cond (eqb kind Kind.withdraw) (Machine.up Machine.withdraw)
    (cond (eqb kind Kind.grant) (Machine.down Machine.grant)
    (cond (eqb kind Kind.resend) (Machine.down Machine.resend) (cond (eqb kind Kind.abort) (Machine.abort a b) (Machine.down Machine.withdrawn)))))))))

-- a message with the item or session to which it is sent
abbrev pub read_send : Message → ℕ × Machine.Message
read_send m = (m.peer, read_message m.kind m.a m.b)

unfoldable pub read_sends : List Message → Machine.Sends
read_sends [] = []
read_sends (m ∷ l) = read_send m ∷ read_sends l

-- what a session does
abbrev pub read_session_step : SessionRules.After → Machine.SessionStep
read_session_step r = record { after = read_session r.session; sends = read_sends r.sends }

-- what an item does
abbrev pub read_item_step : ItemRules.After → Machine.ItemStep
read_item_step r = record { after = read_item r.lock; sends = read_sends r.sends; event = r.event }

-- the machine's rules, of S sessions, M items, a seniority and a choice of the place of the next holder in the queue
abbrev pub rules : ℕ → ℕ → (ℕ → ℕ → Bool) → (List ℕ → ℕ) → Machine.Rules
rules S M senior next = record { S = S; M = M; senior = senior; next = λ x xs. get_or (x ∷ xs) (next (x ∷ xs)) 0 }

-- ---- the whole state
abbrev pub read_entry : Entry → Machine.Entry
read_entry e =
    record { to_item = eqb e.direction to_item; session = e.session; item = e.item; message = read_message e.kind e.a e.b }

unfoldable pub read_entries : List Entry → List Machine.Entry
read_entries [] = []
read_entries (e ∷ l) = read_entry e ∷ read_entries l

-- the number of a direction
abbrev pub direction_of : Bool → ℕ
direction_of d = cond d to_item to_session

-- of S sessions and M items: the others are as at the start
unfoldable pub read_sessions : ℕ → (ℕ → Session) → ℕ → Machine.Session
read_sessions S sessions t =
    cond (between 1 S t) (read_session (sessions t)) Machine.fresh

unfoldable pub read_items : ℕ → (ℕ → Lock) → ℕ → Machine.Item
read_items M locks x = cond (between 1 M x) (read_item (locks x)) (record { holder = none; queue = [] })

abbrev pub read_state : ℕ → ℕ → (ℕ → Session) → (ℕ → Lock) → List Entry → Machine.State
read_state S M sessions locks l = record { session = read_sessions S sessions; item = read_items M locks; mailbox = read_entries l }
