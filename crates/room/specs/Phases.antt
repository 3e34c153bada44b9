-- The phases from a call at an empty mailbox until the mailbox is empty again: a request on its way; probes on their way; a cycle dissolved, or an item handed over.
use Rattle.std.specs.Prelude.{◌≡◌, false, true, [], ◌∷◌, List, ◌≢◌, ◌⊎◌, ◌+◌, ◌≤◌, ℕ, length}
use Rattle.std.proofs.Math.Option.{some}
use Rattle.deadlock.specs.Lists.{occurs}
use Rattle.deadlock.specs.Machine.{abort, clean, down, Entry, grant, Message, probe, rebroadcast, release, request, Rules, State, up, Upward, waiting, withdraw}
use Rattle.message.specs.Kind
use Rattle.deadlock.specs.Counts.{count_behind, Every, probes_by}
use Rattle.deadlock.specs.Links.{awaits, may_release}
use Rattle.deadlock.specs.Walks.{FirstApart, Walk}
use Rattle.deadlock.specs.World.{Edge, is_victim, is_waiting}
use Rattle.deadlock.specs.Invariant.{down_route, Invariant, world_of}
use Rattle.room.specs.Capacity.{capacity_bound}
use Rattle.room.specs.Snapshot.{NoVictim, of_member, of_victim, Snapshot, Sound, stored_count}
use Rattle.room.specs.Weights.{mail_weight}

-- what holds in every reached state besides the invariant: no session is told of its own probe, no probe comes before the grant, and whatever is awaited
-- is an item of the machine
pub record Tidy (R : Rules) (s : State) : Type 0 where
  pub own-stored : (t : ℕ) → (s.session t).stored t ≡ 0
  pub own-sent : (t x : ℕ) → probes_by t (down_route s t x) ≡ 0
  pub grant-first : (t x : ℕ) → count_behind Kind.probe Kind.grant (down_route s t x) ≡ 0
  pub awaited : (t x : ℕ) → 1 ≤ awaits (s.session t).stage x → (1 ≤ x) × (x ≤ R.M)

-- ---- a request on its way
-- a probe on its way from t to item x
pub data ProbeFrom (t x : ℕ) : Entry → Type 0 where
  probe_from : {i j : ℕ} → ProbeFrom t x (record { to_item = true; session = t; item = x; message = probe i j })

-- a request of t for x, with the probes that t stores behind it, and no cycle
pub record Asked (R : Rules) (s : State) : Type 0 where
  pub session : ℕ
  pub item : ℕ
  pub probes : List Entry
  pub mail : s.mailbox ≡ record { to_item = true; session = session; item = item; message = up request } ∷ probes
  pub all-probes : Every (ProbeFrom session item) probes
  pub few : length probes ≤ R.S
  pub stage : (s.session session).stage ≡ waiting item
  pub no_victim : NoVictim s
  pub has_no_cycle : (v : ℕ) → FirstApart (Edge R (world_of s)) v v → ⊥

-- ---- probes on their way
-- what follows a request and sends at most one message
pub data Single : Message → Type 0 where
  single_probe : {i j : ℕ} → Single (probe i j)
  single_abort : {v i : ℕ} → Single (abort v i)
  single_grant : Single (down grant)

-- item y is held by a session that t leads to
pub record HeldFrom (R : Rules) (s : State) (t y : ℕ) : Type 0 where
  pub holder : ℕ
  pub held : (s.item y).holder ≡ some holder
  pub walk : Walk (Edge R (world_of s)) t holder

-- since the session `from` joined a queue or was granted its item: probes, aborts and grants, at items that it holds or a session that it leads to; every
-- cycle has it on it
pub record Probing (R : Rules) (s : State) : Type 0 where
  pub from : ℕ
  pub mail : Every (λ (e : Entry). Single e.message × HeldFrom R s from e.item) s.mailbox
  pub few : length s.mailbox ≤ R.S + 1
  pub no_victim : NoVictim s
  pub one-cycle : (v : ℕ) → FirstApart (Edge R (world_of s)) v v → Walk (Edge R (world_of s)) v from

-- ---- a cycle dissolved, or an item handed over
module _ (p : Snapshot) where
  -- what an entry with this session, item and message may be
  abbrev pub AllowedUp : ℕ → ℕ → Upward → Type 0
  AllowedUp t x request = ⊥
  AllowedUp t x release = (t ≡ p.victim) × (of_victim p x ≡ true)
  AllowedUp t x rebroadcast = (a : ℕ) → p.member a ≡ true → occurs a (p.state.item x).queue ≡ 0
  AllowedUp t x withdraw = Unit {0}

  abbrev pub AllowedMessage : ℕ → ℕ → Message → Type 0
  AllowedMessage t x (up m) = AllowedUp t x m
  AllowedMessage t x (down m) = Unit {0}
  AllowedMessage t x (probe i j) = Unit {0}
  AllowedMessage t x (clean v i) = Unit {0}
  AllowedMessage t x (abort v i) = Unit {0}

  -- every message is between a session and an item that a member held
  abbrev pub Allowed : Entry → Type 0
  Allowed e = (of_member p e.item ≡ true) × AllowedMessage e.session e.item e.message

  -- the victim releases, and item x was handed over, to a session of its queue or to nobody
  pub record HandedOver (s : State) (x : ℕ) : Type 0 where
    pub over : 1 ≤ may_release (s.session p.victim).stage
    pub now : (h : ℕ) → (s.item x).holder ≡ some h → 1 ≤ occurs h (p.state.item x).queue

  -- what holds from the snapshot on, until the mailbox is empty
  pub record Clearing (R : Rules) (s : State) : Type 0 where
    -- the victim is one, or releases
    pub victim-stage : 1 ≤ is_victim (s.session p.victim).stage + may_release (s.session p.victim).stage
    -- nobody else is a victim
    pub only-victim : (t : ℕ) → t ≢ p.victim → is_victim (s.session t).stage ≡ 0
    -- whoever waits waited
    pub waited : (t y : ℕ) → (s.session t).stage ≡ waiting y → (p.state.session t).stage ≡ waiting y
    -- nobody joins a queue
    pub queues : (t x : ℕ) → occurs t (s.item x).queue ≤ occurs t (p.state.item x).queue
    -- holders stay, but for what the victim hands over
    pub holders : (x : ℕ) → ((s.item x).holder ≡ (p.state.item x).holder) ⊎ HandedOver s x
    -- whoever waits and is no member stores no more than before
    pub stores : (t : ℕ) → p.member t ≡ false → 1 ≤ is_waiting (s.session t).stage → stored_count R (s.session t).stored ≤ stored_count R (p.state.session t).stored
    -- every message is one of those that are allowed
    pub mail : Every Allowed s.mailbox
    -- and together they weigh no more than the capacity
    pub light : mail_weight R p s.mailbox ≤ capacity_bound R.S R.M

-- ---- the phases together
pub data Phase (R : Rules) (s : State) : Type 0 where
  empty : s.mailbox ≡ [] → Phase R s
  asked : Asked R s → Phase R s
  probing : Probing R s → Phase R s
  clearing : (p : Snapshot) → Sound R p → Clearing p R s → Phase R s

-- what holds of every state that is reached where sessions call at an empty mailbox only
pub record Orderly (R : Rules) (s : State) : Type 0 where
  pub invariant : Invariant R s
  pub tidy : Tidy R s
  pub phase : Phase R s
