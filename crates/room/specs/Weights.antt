-- What each message weighs: at least the number of messages that it can still turn into at one time. No delivery makes the mailbox heavier.
use Rattle.std.specs.Prelude.{◌&&◌, Bool, cond, not, List, ◌+◌, ℕ, eqb}
use Rattle.lists.specs.Lists.{member, sum_up_to}
use Rattle.deadlock.specs.Lists.{bit}
use Rattle.deadlock.specs.Machine.{abort, clean, down, Downward, Entry, grant, Message, probe, rebroadcast, release, request, resend, Rules, up, Upward, withdraw, withdrawn}
use Rattle.bound.specs.Potential.{mail_sum}
use Rattle.room.specs.Snapshot.{ahead_down, ahead_up, of_member, of_victim, Snapshot, stored_count}

module _ (R : Rules) (p : Snapshot) where
  -- ---- sessions in a queue
  -- a resend to t: itself, and the probes that t stores. A member may come to store any; the others store what they stored
  unfoldable pub resend_weight : ℕ → ℕ
  resend_weight t = cond (p.member t) R.S (1 + stored_count R (p.state.session t).stored)

  -- what an item sends anew for t: a probe of its own, and a resend unless it is a member
  unfoldable pub own_weight : ℕ → ℕ
  own_weight t = cond (p.member t) 1 (1 + resend_weight t)

  -- and for the whole queue of item y
  unfoldable pub queue_weight : ℕ → ℕ
  queue_weight y = sum_up_to R.S (λ t. cond (member t (p.state.item y).queue) (own_weight t) 0)

  -- ---- what goes to an item
  -- a release: a grant, what is sent anew, and at the closing item a resend to the member that waits there
  unfoldable pub release_weight : ℕ → ℕ
  release_weight y = 1 + queue_weight y + cond (eqb y p.closing) R.S 0

  -- the releases of all that the victim holds, the closing item among them
  unfoldable pub releases_weight : ℕ
  releases_weight = sum_up_to R.M (λ y. cond (of_victim p y) (1 + queue_weight y) 0) + R.S

  -- ---- the clean, by the items that it still has ahead
  -- what is sent anew there, and a rebroadcast unless the victim holds the item
  unfoldable pub pass_weight : ℕ → ℕ
  pass_weight y = queue_weight y + bit (not (of_victim p y))

  unfoldable pub ahead_weight : (ℕ → Bool) → ℕ
  ahead_weight ahead = sum_up_to R.M (λ y. cond (of_member p y && ahead y) (pass_weight y) 0)

  -- ---- messages between session t and item x, on their way to the item (true) or to the session (false)
  abbrev pub upward_weight : ℕ → Upward → ℕ
  upward_weight x request = 1
  upward_weight x release = release_weight x
  upward_weight x rebroadcast = 1 + queue_weight x
  upward_weight x withdraw = 1 + releases_weight

  abbrev pub downward_weight : ℕ → Downward → ℕ
  downward_weight t grant = 1
  downward_weight t resend = resend_weight t
  downward_weight t withdrawn = 1 + releases_weight

  unfoldable pub weight : Bool → ℕ → ℕ → Message → ℕ
  weight d t x (up m) = upward_weight x m
  weight d t x (down m) = downward_weight t m
  weight d t x (probe i j) = 1
  weight d t x (clean v i) = 1 + cond d (ahead_weight (ahead_up p t)) (ahead_weight (ahead_down p t x)) + releases_weight
  weight d t x (abort v i) = 1

  abbrev pub entry_weight : Entry → ℕ
  entry_weight e = weight e.to_item e.session e.item e.message

  -- the whole mailbox
  unfoldable pub mail_weight : List Entry → ℕ
  mail_weight l = mail_sum entry_weight l
