-- A state as the invariant sees it: records, the messages of each route in order, and how many cleans there are of each victim. The clauses on links, victims and probes.
use Rattle.std.specs.Prelude.{◌≡◌, false, true, [], ◌∷◌, List, ◌≢◌, ◌⊎◌, ◌+◌, ◌≤◌, ℕ}
use Rattle.std.proofs.Math.Option.{none, some}
use Rattle.deadlock.specs.Lists.{occurs}
use Rattle.deadlock.specs.Machine.{abort, clean, cleaning, down, growing, is_live, Item, Message, probe, releasing, rolled_back, Rules, Session, shrinking, Stage, up, victim, waiting, withdrawing}
use Rattle.message.specs.Kind
use Rattle.deadlock.specs.Counts.{behind_request, cleans_of, count_kind, EachBehind, Every, OfProbe}
use Rattle.deadlock.specs.Links.{Linked, view_of}
use Rattle.deadlock.specs.Walks.{FirstApart, LastApart, Path, Walk}

-- an item that nobody holds has an empty queue
unfoldable pub FreeIsEmpty : Item → Type 0
FreeIsEmpty i = i.holder ≡ none → i.queue ≡ []

-- an edge of the wait-for graph: a stands in the queue of an item that b holds
pub record WaitEdge (R : Rules) (I : ℕ → Item) (a b : ℕ) : Type 0 where
  pub item : ℕ
  pub low : 1 ≤ item
  pub high : item ≤ R.M
  pub stands : 1 ≤ occurs a (I item).queue
  pub held : (I item).holder ≡ some b

-- a is not senior to b
module _ (R : Rules) where
  abbrev pub NotSenior : ℕ → ℕ → Type 0
  NotSenior a b = R.senior a b ≡ false

-- the messages on their way: up, to item x from session t; down, to session t from item x; and how many cleans there are of a victim
pub record Mail : Type 0 where
  pub up : ℕ → ℕ → List Message
  pub down : ℕ → ℕ → List Message
  pub total : ℕ → ℕ

-- records and messages
pub record World : Type 0 where
  pub session : ℕ → Session
  pub item : ℕ → Item
  pub up : ℕ → ℕ → List Message
  pub down : ℕ → ℕ → List Message
  pub total : ℕ → ℕ

-- ---- stages as 0 or 1
-- a victim whose clean is on its way
abbrev pub is_cleaning : Stage → ℕ
is_cleaning growing = 0
is_cleaning (waiting y) = 0
is_cleaning (victim cleaning y) = 1
is_cleaning (victim withdrawing y) = 0
is_cleaning (releasing p) = 0

-- a victim until it is rolled back: its clean is on its way, or it withdraws
abbrev pub is_victim : Stage → ℕ
is_victim growing = 0
is_victim (waiting y) = 0
is_victim (victim p y) = 1
is_victim (releasing p) = 0

-- waiting, and no victim
abbrev pub is_waiting : Stage → ℕ
is_waiting growing = 0
is_waiting (waiting y) = 1
is_waiting (victim p y) = 0
is_waiting (releasing p) = 0

-- ---- what a world shows
abbrev pub stage_of : World → ℕ → Stage
stage_of w t = (w.session t).stage

-- session t is growing or waiting
abbrev pub Live : World → ℕ → Type 0
Live w t = is_live (stage_of w t) ≡ true

-- session v is a victim, not yet rolled back
abbrev pub VictimIn : World → ℕ → Type 0
VictimIn w v = 1 ≤ is_victim (stage_of w v)

-- the clean of session v is on its way
abbrev pub CleanUnderWay : World → ℕ → Type 0
CleanUnderWay w v = 1 ≤ is_cleaning (stage_of w v)

-- session t stands in the queue of item x
abbrev pub Queued : World → ℕ → ℕ → Type 0
Queued w t x = 1 ≤ occurs t (w.item x).queue

-- item x is held by session h
abbrev pub HolderIs : World → ℕ → ℕ → Type 0
HolderIs w x h = (w.item x).holder ≡ some h

-- the ranks on a path from i to t that leaves the sessions ps: none of them is senior to i, none is junior to j, and j is one of them or t
pub record Ranks (R : Rules) (i j t : ℕ) (ps : List ℕ) : Type 0 where
  pub junior_to_all : Every (λ (y : ℕ). NotSenior R j y) ps
  pub senior_to_all : Every (λ (y : ℕ). NotSenior R y i) ps
  pub has-junior : 1 ≤ occurs j (t ∷ ps)
  pub end-not-senior : NotSenior R t i

module _ (R : Rules) (w : World) where
  abbrev pub Edge : ℕ → ℕ → Type 0
  Edge = WaitEdge R w.item

  -- a wait of a for b with no clean of v on its two routes
  pub record ClearEdge (v a b : ℕ) : Type 0 where
    pub edge : Edge a b
    pub above : cleans_of v (w.up a edge.item) ≡ 0
    pub under : cleans_of v (w.down b edge.item) ≡ 0

  -- the clean of victim v has passed t: a walk of one wait or more leads from v to t, with no clean of v on it
  pub record Passed (v t : ℕ) : Type 0 where
    pub is-victim : VictimIn w v
    pub past : LastApart (ClearEdge v) v t

  -- what a probe (i, j) at t tells: a path from i to t that leaves no victim in B, with i its most senior and j its most junior
  pub record ToldOf (i j t : ℕ) (B : ℕ → Type 0) : Type 0 where
    pub places : List ℕ
    pub path : Path Edge i t places
    pub avoid : (v : ℕ) → B v → occurs v places ≡ 0
    pub ranks : Ranks R i j t places
    pub last : NotSenior R j t

  -- what a probe (i, j) on its way from item x to t tells: such a path, with its last wait at x; t is not yet weighed against j
  pub record CameTo (i j t x : ℕ) (B : ℕ → Type 0) : Type 0 where
    pub from : ℕ
    pub places : List ℕ
    pub path : Path Edge i from places
    pub low : 1 ≤ x
    pub high : x ≤ R.M
    pub stands : Queued w from x
    pub held : HolderIs w x t
    pub avoid : (v : ℕ) → B v → occurs v (from ∷ places) ≡ 0
    pub ranks : Ranks R i j t (from ∷ places)

  -- the victims that the path of a probe from t must avoid, with r behind the probe: those that have passed t, unless a clean is behind it
  abbrev pub MustAvoidUp : ℕ → List Message → ℕ → Type 0
  MustAvoidUp t r v = (count_kind Kind.clean r ≡ 0) × Passed v t

  -- the same for a probe from item x to t: also those whose clean is on the same route
  abbrev pub MustAvoidDown : ℕ → ℕ → List Message → ℕ → Type 0
  MustAvoidDown t x r v = (count_kind Kind.clean r ≡ 0) × (Passed v t ⊎ (1 ≤ cleans_of v (w.down t x)))

  -- what a message from t tells, with r behind it, if it is a probe
  abbrev pub TellsUp : ℕ → Message → List Message → Type 0
  TellsUp t m r = OfProbe (λ i j. ToldOf i j t (MustAvoidUp t r)) m

  -- what a message from item x to t tells
  abbrev pub TellsDown : ℕ → ℕ → Message → List Message → Type 0
  TellsDown t x m r = OfProbe (λ i j. CameTo i j t x (MustAvoidDown t x r)) m

  -- v lies on a cycle, and every other member of it has the property
  pub record CycleOf (v : ℕ) (P : ℕ → Type 0) : Type 0 where
    pub cycle : FirstApart Edge v v
    pub others : (u : ℕ) → Walk Edge v u → (u ≡ v) ⊎ P u

  -- u, another member of victim v's cycle, waits, is no victim, and is senior to v
  abbrev pub CycleMate : ℕ → ℕ → Type 0
  CycleMate v u = (1 ≤ is_waiting (stage_of w u)) × (R.senior u v ≡ true)

  -- a clean of v on its way from t to item x: t waits there and lies on v's cycle
  pub record CleanGoesUp (v t x : ℕ) : Type 0 where
    pub low : 1 ≤ x
    pub high : x ≤ R.M
    pub stands : Queued w t x
    pub walk : Walk Edge v t

  -- a clean of v on its way from item x to t: t holds x, and a member of v's cycle waits there
  pub record CleanGoesDown (v t x : ℕ) : Type 0 where
    pub low : 1 ≤ x
    pub high : x ≤ R.M
    pub held : HolderIs w x t
    pub from : ℕ
    pub stands : Queued w from x
    pub walk : Walk Edge v from

  -- an abort on its way to t, by the stage of t: a waiting t lies on a cycle and is its most junior
  unfoldable pub AbortTo : ℕ → Stage → Type 0
  AbortTo t growing = ⊥
  AbortTo t (waiting y) = CycleOf t (λ u. R.senior u t ≡ true)
  AbortTo t (victim p y) = Unit {0}
  AbortTo t (releasing shrinking) = ⊥
  AbortTo t (releasing rolled_back) = Unit {0}

  -- what a message on its way to t says, if it is an abort
  abbrev pub OfAbort : ℕ → Message → Type 0
  OfAbort t (up m) = Unit {0}
  OfAbort t (down m) = Unit {0}
  OfAbort t (probe i j) = Unit {0}
  OfAbort t (clean a b) = Unit {0}
  OfAbort t (abort v i) = (v ≡ t) × AbortTo t (stage_of w t)

  -- cleans on two routes are two cleans
  pub record MailCounts : Type 0 where
    pub up_le : (v t x : ℕ) → cleans_of v (w.up t x) ≤ w.total v
    pub down_le : (v t x : ℕ) → cleans_of v (w.down t x) ≤ w.total v
    pub up-and-down : (v t x t' x' : ℕ) → cleans_of v (w.up t x) + cleans_of v (w.down t' x') ≤ w.total v
    pub two_downs : (v t x t' x' : ℕ) → x ≢ x' → cleans_of v (w.down t x) + cleans_of v (w.down t' x') ≤ w.total v

  -- the clauses on links: every pair of a session and an item is in one of the phases of the lock protocol
  pub record Links : Type 0 where
    -- each pair is linked
    pub linked : (t x : ℕ) → 1 ≤ x → x ≤ R.M → Linked (view_of t x (w.session t) (w.item x) (w.up t x) (w.down t x))
    -- a free item has nobody in its queue
    pub idle : (x : ℕ) → FreeIsEmpty (w.item x)

  -- the clauses on victims and their cleans
  pub record Victims : Type 0 where
    -- exactly one clean goes round for each session in stage cleaning, and none for any other
    pub one-clean : (v : ℕ) → w.total v ≡ is_cleaning (stage_of w v)
    -- a victim that still waits lies on a cycle, is its most junior, and is the only victim there
    pub victim-on-cycle : (v h : ℕ) → VictimIn w v → Edge v h → CycleOf v (CycleMate v)
    -- a victim waits as long as its clean is on its way
    pub victim-waits : (v : ℕ) → CleanUnderWay w v → (h : ℕ) × Edge v h
    -- a clean on its way to an item is on its victim's cycle
    pub clean-up-on-cycle : (v t x : ℕ) → 1 ≤ cleans_of v (w.up t x) → CleanGoesUp v t x
    -- a clean on its way to a session is on its victim's cycle
    pub clean-down-on-cycle : (v t x : ℕ) → 1 ≤ cleans_of v (w.down t x) → CleanGoesDown v t x
    -- an abort finds the most junior of a standing cycle, or a session that is a victim already
    pub aborts : (t x : ℕ) → Every (OfAbort t) (w.down t x)
    -- a victim has no request on its way
    pub no_request : (v x : ℕ) → 1 ≤ x → x ≤ R.M → VictimIn w v → count_kind Kind.request (w.up v x) ≡ 0
    -- behind every probe that a waiting victim has sent there is a clean
    pub clean-behind-probes : (v x : ℕ) → 1 ≤ x → x ≤ R.M → VictimIn w v → Queued w v x
        → EachBehind (λ m r. OfProbe (λ _ _. 1 ≤ count_kind Kind.clean r) m) (w.up v x)

  -- the clauses on probes: what they tell is true
  pub record Probes : Type 0 where
    -- a stored probe tells of a path that avoids every victim whose clean has passed
    pub stored-true : (t : ℕ) → Live w t → (i : ℕ) → (w.session t).stored i ≢ 0 → ToldOf i ((w.session t).stored i) t (λ v. Passed v t)
    -- so does a probe from a session that stands in the queue
    pub up-true : (t x : ℕ) → 1 ≤ x → x ≤ R.M → Queued w t x → EachBehind (TellsUp t) (w.up t x)
    -- and a probe behind the session's request
    pub up-true-behind-request : (t x : ℕ) → 1 ≤ x → x ≤ R.M → EachBehind (TellsUp t) (behind_request (w.up t x))
    -- and a probe on its way to a live session, which holds the item that it comes from
    pub down-true : (t x : ℕ) → Live w t → EachBehind (TellsDown t x) (w.down t x)

-- what the steps take as known of a world
pub record Known (R : Rules) (w : World) : Type 0 where
  pub links : Links R w
  pub victims : Victims R w
  pub mail : MailCounts R w
