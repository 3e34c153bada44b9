-- What a session does: on the two calls that act on it, and on each message, by kind and then by stage. RULES is docs/RULES.md.
-- T is the session itself, X the item that the call names or the message comes from.
use Rattle.std.specs.Prelude.{ℕ, suc, ◌-◌, ◌≤◌, ◌≡◌, Bool, true, cond, not, ◌||◌, List, [], ◌∷◌, ◌++◌, map, eqb, get_or, set}
use Rattle.lists.specs.Lists.{filter}
use Rattle.bitset.specs.Bitset.{insert, remove, members}
use Rattle.message.specs.Limits.{max_items, IsSession}
use Rattle.message.specs.Kind
use Rattle.message.specs.declared.Message.{Message}
use Rattle.message.specs.Outbox.{message, plain}
use Rattle.session.specs.declared.Session.{Session}
use Rattle.session.specs.declared.SessionStep.{SessionStep}
use Rattle.session.specs.Stage
use Rattle.session.specs.Record.{none, with_stage, with_awaited, with_held, with_juniors}

-- the record that follows, and what is sent, in order of sending
pub record After : Type 0 where
  pub session : Session
  pub sends : List Message

abbrev pub after : Session → List Message → After
after s l = record { session = s; sends = l }

-- the same as the code hands it back
abbrev pub step_of : After → SessionStep
step_of r = record { session = r.session; outbox = r.sends }

-- the message is dropped
abbrev pub dropped : Session → After
dropped s = after s []

-- a rule that holds in one stage
abbrev pub in_stage : ℕ → (Session → After) → Session → After
in_stage stage rule s = cond (eqb s.stage stage) (rule s) (dropped s)

-- the stored probes of initiators i, i + 1 and so on, by rising initiator, as messages to item x
unfoldable pub probes_from : ℕ → ℕ → List ℕ → List Message
probes_from x i [] = []
probes_from x i (j ∷ js) = cond (eqb j 0) (probes_from x (suc i) js) (message x Kind.probe i j ∷ probes_from x (suc i) js)

-- all stored probes by rising initiator, to item x
abbrev pub stored_probes : Session → ℕ → List Message
stored_probes s x = probes_from x 1 s.juniors

-- the junior of the probe stored for initiator i, or 0 for none
abbrev pub stored : Session → ℕ → ℕ
stored s i = get_or s.juniors (i - 1) 0

-- a message of one kind to every held item but x, by rising item number; no item has number 0, so with 0 none is left out
unfoldable pub to_held : ℕ → ℕ → ℕ → List Message
to_held kind x held = map (λ y. plain y kind) (filter (λ y. not (eqb y x)) (members held))

-- the session with its probes cleared
abbrev pub cleared : Session → Session
cleared s = with_juniors none s

-- the call request: RULES 6.1
unfoldable pub requested : ℕ → Session → After
requested x s = after (with_stage Stage.waiting (with_awaited x s)) (plain x Kind.request ∷ stored_probes s x)

-- the call release: RULES 6.2
unfoldable pub released : ℕ → Session → After
released x s = after (with_stage Stage.shrinking (with_held (remove x s.held) (cleared s))) (plain x Kind.release ∷ [])

-- grant, stage 2: RULES 6.3
unfoldable pub granted : ℕ → Session → After
granted x s = cond (eqb x s.awaited) (after (with_stage Stage.growing (with_awaited 0 (with_held (insert x s.held) s))) []) (dropped s)

-- resend, stage 2: RULES 6.5
unfoldable pub resent : ℕ → Session → After
resent x s = cond (eqb x s.awaited) (after s (stored_probes s s.awaited)) (dropped s)

-- abort, stage 2: RULES 6.6
unfoldable pub aborted : ℕ → ℕ → Session → After
aborted a b s = after (with_stage Stage.cleaning (cleared s)) (message s.awaited Kind.clean a b ∷ [])

-- clean, stage 1: RULES 6.7
unfoldable pub cleaned : ℕ → Session → After
cleaned x s = after (cleared s) (to_held Kind.rebroadcast x s.held)

-- clean, stage 2: RULES 6.7
unfoldable pub cleaned_waiting : ℕ → ℕ → ℕ → Session → After
cleaned_waiting x a b s = after (cleared s) (to_held Kind.rebroadcast x s.held ++ (message s.awaited Kind.clean a b ∷ []))

-- clean, stage 4: RULES 6.8
unfoldable pub cleaned_victim : ℕ → ℕ → Session → After
cleaned_victim t a s = cond (eqb a t) (after (with_stage Stage.withdrawing s) (plain s.awaited Kind.withdraw ∷ [])) (dropped s)

-- clean, by stage
abbrev pub on_clean : ℕ → Message → Session → After
on_clean t m s =
    cond (eqb s.stage Stage.growing) (cleaned m.peer s)
    (cond (eqb s.stage Stage.waiting) (cleaned_waiting m.peer m.a m.b s)
    (cond (eqb s.stage Stage.cleaning) (cleaned_victim t m.a s) (dropped s)))

-- withdrawn, stage 5: RULES 6.9
unfoldable pub rolled_back : Session → After
rolled_back s = after (with_stage Stage.rolled_back (with_awaited 0 (with_held 0 s))) (to_held Kind.release 0 s.held)

module _ (senior : ℕ → ℕ → Bool) where
  -- the more junior of j and t
  unfoldable pub junior : ℕ → ℕ → ℕ
  junior j t = cond (senior j t) t j

  -- a probe is stored, and in stage 2 sent on, if it is news: RULES 6.4
  unfoldable pub kept_probe : ℕ → ℕ → Session → After
  kept_probe i j s =
      cond (eqb (stored s i) 0 || senior (stored s i) j)
      (after (with_juniors (set s.juniors (i - 1) j) s) (cond (eqb s.stage Stage.waiting) (message s.awaited Kind.probe i j ∷ []) []))
      (dropped s)

  -- probe (i, j), stages 1 and 2: RULES 6.4
  unfoldable pub probed : ℕ → ℕ → ℕ → Session → After
  probed t i j s = kept_probe i (junior j t) s

  abbrev pub on_probe : ℕ → ℕ → ℕ → Session → After
  on_probe t i j s = cond (Stage.takes_probes s.stage) (probed t i j s) (dropped s)

  -- what session t does on a message, by kind and then by stage; any other pair is dropped: RULES 6.10
  unfoldable pub received : ℕ → Session → Message → After
  received t s m =
      cond (eqb m.kind Kind.grant) (in_stage Stage.waiting (granted m.peer) s)
      (cond (eqb m.kind Kind.probe) (on_probe t m.a m.b s)
      (cond (eqb m.kind Kind.resend) (in_stage Stage.waiting (resent m.peer) s)
      (cond (eqb m.kind Kind.abort) (in_stage Stage.waiting (aborted m.a m.b) s)
      (cond (eqb m.kind Kind.clean) (on_clean t m s)
      (cond (eqb m.kind Kind.withdrawn) (in_stage Stage.withdrawing rolled_back s) (dropped s))))))

-- what a session that takes a probe is handed
pub record Storable (i : ℕ) (s : Session) : Type 0 where
  pub initiator : IsSession i
  pub stage : Stage.takes_probes s.stage ≡ true

-- what a session may be handed: a message from an item, of which a probe names an initiator
pub record Deliverable (m : Message) : Type 0 where
  pub from_low : 1 ≤ m.peer
  pub from-high : m.peer ≤ max_items
  pub initiator : m.kind ≡ Kind.probe → IsSession m.a
