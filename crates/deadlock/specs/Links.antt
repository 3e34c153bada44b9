-- What a pair of a session and an item shows, in numbers; and the link invariant, which is linear in them.
use Rattle.std.specs.Prelude.{◌≡◌, List, ◌+◌, ◌≤◌, ℕ, eqb}
use Rattle.deadlock.specs.Lists.{bit, occurs}
use Rattle.deadlock.specs.Machine.{cleaning, growing, held_by, Item, Message, releasing, rolled_back, Session, shrinking, Stage, victim, waiting, withdrawing}
use Rattle.message.specs.Kind
use Rattle.deadlock.specs.Counts.{count_behind, count_kind}

-- ---- a session's stage as 0 or 1, seen from item x
-- the session awaits this item
abbrev pub awaits : Stage → ℕ → ℕ
awaits growing x = 0
awaits (waiting y) x = bit (eqb y x)
awaits (victim p y) x = bit (eqb y x)
awaits (releasing p) x = 0

-- it awaits this item and is no victim
abbrev pub waits : Stage → ℕ → ℕ
waits growing x = 0
waits (waiting y) x = bit (eqb y x)
waits (victim p y) x = 0
waits (releasing p) x = 0

-- it withdraws from this item
abbrev pub withdraws : Stage → ℕ → ℕ
withdraws growing x = 0
withdraws (waiting y) x = 0
withdraws (victim cleaning y) x = 0
withdraws (victim withdrawing y) x = bit (eqb y x)
withdraws (releasing p) x = 0

-- it is a victim, or was rolled back
abbrev pub doomed : Stage → ℕ
doomed growing = 0
doomed (waiting y) = 0
doomed (victim p y) = 1
doomed (releasing shrinking) = 0
doomed (releasing rolled_back) = 1

-- it may have a release on its way
abbrev pub may_release : Stage → ℕ
may_release growing = 0
may_release (waiting y) = 0
may_release (victim p y) = 0
may_release (releasing p) = 1

-- stage and item, holding and being holder, place in the queue; messages on their way by kind; and the requests and grants that come too late
pub record PairView : Type 0 where
  pub stage : Stage
  pub item : ℕ
  pub holding : ℕ
  pub holder : ℕ
  pub queued : ℕ
  pub requests : ℕ
  pub releases : ℕ
  pub withdraws : ℕ
  pub grants : ℕ
  pub withdrawns : ℕ
  pub late_requests : ℕ
  pub late_grants : ℕ

-- the view of session t and item x, from their records and the messages u from t to x and d from x to t
abbrev pub view_of : ℕ → ℕ → Session → Item → List Message → List Message → PairView
view_of t x r i u d = record {
  stage = r.stage;
  item = x;
  holding = bit (r.held x);
  holder = bit (held_by i.holder t);
  queued = occurs t i.queue;
  requests = count_kind Kind.request u;
  releases = count_kind Kind.release u;
  withdraws = count_kind Kind.withdraw u;
  grants = count_kind Kind.grant d;
  withdrawns = count_kind Kind.withdrawn d;
  late_requests = count_behind Kind.withdraw Kind.request u;
  late_grants = count_behind Kind.withdrawn Kind.grant d;
}

-- the link invariant of one pair
pub record Linked (v : PairView) : Type 0 where
  -- a request, a place in the queue and a grant exclude each other, and are only at the awaited item
  pub one_place : v.requests + v.queued + v.grants ≤ awaits v.stage v.item
  -- a waiting session has one of them there
  pub some-place : waits v.stage v.item ≤ v.requests + v.queued + v.grants
  -- whoever holds the item, is granted it or releases it is its holder, and does one of these
  pub own_if : v.holding + v.grants + v.releases ≤ v.holder
  -- the holder does one of these, unless it is a victim, withdrawing or rolled back
  pub own-only_if : v.holder ≤ v.holding + v.grants + v.releases + doomed v.stage
  -- only a shrinking or rolled-back session has a release on its way
  pub release_when : v.releases ≤ may_release v.stage
  -- no session awaits an item that it holds
  pub held-not-awaited : v.holding + awaits v.stage v.item ≤ 1
  -- a withdraw and its answer exclude each other, and belong to a withdrawing session
  pub withdrawal : v.withdraws + v.withdrawns ≤ withdraws v.stage v.item
  -- a withdrawing session has one of them on its way
  pub some-withdrawal : withdraws v.stage v.item ≤ v.withdraws + v.withdrawns
  -- whoever is out of the queue by a withdraw does not stand in it
  pub one_at_most : v.requests + v.queued + v.withdrawns ≤ 1
  -- no request stands behind a withdraw
  pub no_late_request : v.late_requests ≡ 0
  -- no grant stands behind the answer to a withdraw
  pub no_late_grant : v.late_grants ≡ 0
