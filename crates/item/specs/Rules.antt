-- What an item does on each message, by kind. T is the session that sent it. RULES is docs/RULES.md.
use Rattle.std.specs.Prelude.{ℕ, Bool, true, false, cond, not, ◌||◌, List, [], ◌∷◌, ◌++◌, map, eqb, get_or}
use Rattle.lists.specs.Lists.{member, filter, find_index, remove_at}
use Rattle.message.specs.Kind
use Rattle.message.specs.declared.Message.{Message}
use Rattle.message.specs.Outbox.{message, plain}
use Rattle.item.specs.declared.Event.{Event}
use Rattle.item.specs.declared.Event.TheVariants.{Nothing, Joined, Declared}
use Rattle.item.specs.declared.ItemStep.{ItemStep}
use Rattle.item.specs.Record.{Lock, lock, with_holder, with_queue, packed}

-- the record that follows, what is sent, in order of sending, and what happened besides
pub record After : Type 0 where
  pub lock : Lock
  pub sends : List Message
  pub event : Event

abbrev pub after : Lock → List Message → Event → After
after k l e = record { lock = k; sends = l; event = e }

-- the same as the code hands it back
abbrev pub step_of : After → ItemStep
step_of r = record { item = packed r.lock; outbox = r.sends; event = r.event }

-- the message is dropped
abbrev pub dropped : Lock → After
dropped k = after k [] Nothing

-- what an event puts into a step's answer: the session was put in a queue; victim and initiator of a declaration, else 0
abbrev pub joined : Event → Bool
joined Nothing = false
joined Joined = true
joined (Declared v i) = false

abbrev pub victim : Event → ℕ
victim Nothing = 0
victim Joined = 0
victim (Declared v i) = v

abbrev pub initiator : Event → ℕ
initiator Nothing = 0
initiator Joined = 0
initiator (Declared v i) = i

-- a resend to each of a list of sessions, in order
unfoldable pub resends : List ℕ → List Message
resends q = map (λ r. plain r Kind.resend) q

-- the queue without session t, which stands there once at most
unfoldable pub without : ℕ → List ℕ → List ℕ
without t q = remove_at (find_index (λ r. eqb r t) q) q

-- withdraw: RULES 5.6
unfoldable pub on_withdraw : ℕ → Lock → After
on_withdraw t k = after (with_queue (without t k.queue) k) (plain t Kind.withdrawn ∷ []) Nothing

-- the free item goes to T
unfoldable pub granted : ℕ → Lock → After
granted t k = after (with_holder t k) (plain t Kind.grant ∷ []) Nothing

module _ (senior : ℕ → ℕ → Bool) where
  -- probe (R, holder) to the holder for each R of a list senior to it, in order
  unfoldable pub probes : ℕ → List ℕ → List Message
  probes h q = map (λ r. message h Kind.probe r h) (filter (λ r. senior r h) q)

  -- T joins the end of the queue
  unfoldable pub queued : ℕ → Lock → After
  queued t k =
      after (with_queue (k.queue ++ (t ∷ [])) k) (cond (senior t k.holder) (message k.holder Kind.probe t k.holder ∷ []) []) Joined

  -- request: RULES 5.1
  unfoldable pub on_request : ℕ → Lock → After
  on_request t k =
      cond (eqb k.holder t || member t k.queue) (dropped k) (cond (eqb k.holder 0) (granted t k) (queued t k))

  -- probe (i, j): RULES 5.3
  unfoldable pub on_probe : ℕ → ℕ → ℕ → Lock → After
  on_probe t i j k =
      cond (not (member t k.queue) || eqb k.holder 0 || senior k.holder i) (dropped k)
      (cond (eqb k.holder i) (after k (message j Kind.abort j i ∷ []) (Declared j i))
      (after k (message k.holder Kind.probe i j ∷ []) Nothing))

  -- clean: RULES 5.4
  unfoldable pub on_clean : ℕ → ℕ → ℕ → Lock → After
  on_clean t a b k =
      cond (eqb k.holder 0) (dropped k)
      (after k (message k.holder Kind.clean a b ∷ (probes k.holder k.queue ++ resends (without t k.queue))) Nothing)

  -- rebroadcast: RULES 5.5
  unfoldable pub on_rebroadcast : Lock → After
  on_rebroadcast k = cond (eqb k.holder 0) (dropped k) (after k (probes k.holder k.queue ++ resends k.queue) Nothing)

  -- the next holder N, with the queue that it has left: RULES 5.2. 01's probes are kept, for any choice of N; with `next_holder` none is ever sent
  -- (`next-sends` in proofs/NextHolder.antt)
  unfoldable pub handed_over : ℕ → List ℕ → After
  handed_over n rest = after (lock n rest) (plain n Kind.grant ∷ (probes n rest ++ resends rest)) Nothing

  module _ (next : List ℕ → ℕ) where
    -- an empty queue: no holder; else the next holder leaves it
    unfoldable pub vacated : List ℕ → After
    vacated [] = after (lock 0 []) [] Nothing
    vacated (r ∷ q) = handed_over (get_or (r ∷ q) (next (r ∷ q)) 0) (remove_at (next (r ∷ q)) (r ∷ q))

    -- release: RULES 5.2
    unfoldable pub on_release : ℕ → Lock → After
    on_release t k = cond (eqb k.holder t) (vacated k.queue) (dropped k)

    -- what an item does on a message of session m .peer; any other kind is dropped
    unfoldable pub received : Lock → Message → After
    received k m =
        cond (eqb m.kind Kind.request) (on_request m.peer k)
        (cond (eqb m.kind Kind.release) (on_release m.peer k)
        (cond (eqb m.kind Kind.probe) (on_probe m.peer m.a m.b k)
        (cond (eqb m.kind Kind.clean) (on_clean m.peer m.a m.b k)
        (cond (eqb m.kind Kind.rebroadcast) (on_rebroadcast k)
        (cond (eqb m.kind Kind.withdraw) (on_withdraw m.peer k) (dropped k))))))
