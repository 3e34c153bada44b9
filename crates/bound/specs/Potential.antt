-- The potential of a state: a number that every delivery makes smaller. It is the sum of what each message, each stage and each store of probes can still give rise to.
use Rattle.std.specs.Prelude.{Bool, cond, [], ◌∷◌, List, ◌*◌, ◌+◌, ℕ, eqb}
use Rattle.lists.specs.Lists.{count_up_to, lowest, sum_up_to}
use Rattle.deadlock.specs.Machine.{abort, clean, down, Downward, Entry, grant, growing, is_news, Message, probe, reached, rebroadcast, release, releasing, request, resend, Rules, Session, Stage, State, up, Upward, victim, waiting, withdraw, withdrawn}
use Rattle.bound.specs.Formula.{clean_cost, hop_cost, items_cost, queue_cost, resend_cost, wait_cost}

-- the sum of a number of each entry
unfoldable pub mail_sum : (Entry → ℕ) → List Entry → ℕ
mail_sum f [] = 0
mail_sum f (e ∷ l) = f e + mail_sum f l

module _ (R : Rules) where
  -- ---- messages
  -- its own delivery, and what it gives rise to: a grant or a probe, the answer to a withdraw, or what an item sends for its queue
  abbrev pub upward_weight : Upward → ℕ
  upward_weight request = 2
  upward_weight release = queue_cost R.S
  upward_weight rebroadcast = queue_cost R.S
  upward_weight withdraw = 2

  -- its own delivery, and the probes that a resend gives rise to
  abbrev pub downward_weight : Downward → ℕ
  downward_weight grant = 1
  downward_weight resend = resend_cost R.S
  downward_weight withdrawn = 1

  -- where `distance t v` waits, one or more, lead from session t to session v
  module _ (distance : ℕ → ℕ → ℕ) where
    -- the waits that a clean of victim v still has to pass when it comes to session t: none at v itself
    unfoldable pub waits_left : ℕ → ℕ → ℕ
    waits_left t v = cond (eqb t v) 0 (distance t v)

    -- a message between session t and an item, on its way to the item (true) or to the session (false)
    unfoldable pub weight : Bool → ℕ → Message → ℕ
    weight d t (up m) = upward_weight m
    weight d t (down m) = downward_weight m
    weight d t (probe i j) = cond d 2 1
    weight d t (clean v i) = cond d (hop_cost R.S R.M * distance t v) (hop_cost R.S R.M * waits_left t v + clean_cost R.S R.M)
    weight d t (abort v i) = 1

    unfoldable pub mail_weight : List Entry → ℕ
    mail_weight l = mail_sum (λ (e : Entry). weight e.to_item e.session e.message) l

  -- ---- sessions
  -- what a session of that stage may still have to send as a victim
  abbrev pub stage_weight : Stage → ℕ
  stage_weight growing = 0
  stage_weight (waiting y) = wait_cost R.S R.M
  stage_weight (victim p y) = items_cost R.S R.M
  stage_weight (releasing p) = 0

  -- for each initiator twice the number of juniors that would be news
  unfoldable pub store_weight : (ℕ → ℕ) → ℕ
  store_weight f = sum_up_to R.S (λ i. 2 * count_up_to R.S (is_news R f i))

  unfoldable pub session_weight : Session → ℕ
  session_weight r = stage_weight r.stage + store_weight r.stored

  -- ---- the state
  -- how many waits, one or more, lead from session t to session v, or 0
  unfoldable pub distance_in : State → ℕ → ℕ → ℕ
  distance_in s t v = lowest R.S (λ n. eqb (reached R s n t) v)

  unfoldable pub potential : State → ℕ
  potential s = sum_up_to R.S (λ t. session_weight (s.session t)) + mail_weight (distance_in s) s.mailbox
