-- A request joins a queue or is granted; then probes go on one by one, until a victim is told of a cycle.
use mathlib.Core.Path.{◌∙◌, ◌≡◌, ap, refl, subst, subst₂, sym}
use mathlib.Core.Bool.{Bool, false, false≢true, true}
use mathlib.Core.List.{◌++◌, List}
use mathlib.Core.Logic.{◌⊎◌, inl, inr}
use mathlib.Core.Option.{none, Option, some}
use Prim.Native.Nat.{◌+◌, ◌≤◌, ℕ}
use native.Mathlib.Omega.{arith}
use lib.Dec.{eqb}
use lib.ListN.{length}
use Rattle.lists.proofs.Tests.{by-test, eqb_self}
use Rattle.deadlock.specs.Lists.{bit, occurs, updated}
use Rattle.deadlock.specs.Machine.{abort, after_item, after_session, Call, deliver_to_item, deliver_to_session, down, Entry, from_item, from_session, grant, growing, held_by, in_queue, is_live, is_news, is_on_route, Item, item_receives, ItemStep, item_takes, junior, Laws, Message, move, on_abort, on_grant, on_probe, pass_probe, probe, release_call, releasing, reopen, request_call, route, Rules, Session, session_drops, session_receives, SessionStep, Stage, State, store_probe, take_first, Taken, taken, to_awaited, victim, waiting}
use Rattle.message.specs.Kind
use Rattle.deadlock.specs.Counts.{count_kind, Every, every-cons, every-nil, kind_of}
use Rattle.deadlock.specs.Links.{awaits, waits}
use Rattle.deadlock.specs.Walks.{onward, Walk}
use Rattle.deadlock.specs.World.{Edge, is_victim}
use Rattle.deadlock.specs.Invariant.{Invariant, up_route, world_of}
use Rattle.deadlock.proofs.Laws.Entries.{entry, every-fromItem, every-fromSession, every_take}
use Rattle.deadlock.proofs.Laws.Counts.{every_append, every_map, is_held_by}
use Rattle.deadlock.proofs.Laws.Lists.{bit-one, updated-unchanged, zero-or-more}
use Rattle.deadlock.proofs.Laws.Walks.{walk-map}
use Rattle.deadlock.proofs.Victims.OneOnCycle.{edge-against, edge-along, queue-has-holder}
use Rattle.deadlock.proofs.Core.Kept.{links-of}
use Rattle.bound.specs.Statement.{delivers}
use Rattle.bound.proofs.Mail.{sum-item, sum-session, sum-take}
use Rattle.bound.proofs.Ranges.{came}
use Rattle.bound.proofs.Sent.{sent_weight}
use Rattle.room.specs.Snapshot.{NoVictim}
use Rattle.room.specs.Phases.{Asked, HeldFrom, Phase, probing, Probing, Single, single_abort, single_grant, single_probe, Tidy}
use Rattle.room.proofs.Joining.{first_taken, length-sum, no_single, one_single, OneSingle, only-route, request-done}
use Rattle.room.proofs.Holders.{told-cycle}
use Rattle.room.proofs.Told.{told-phase}

-- the only delivery is that of the request
pub asked-goes-on : (R : Rules) (s : State) → Invariant R s → Tidy R s → Asked R s → (c : Call) → delivers s c ≡ true → Phase R (move R s c)
unfolding move delivers item_takes
asked-goes-on R s k d a (request_call t x) e = absurd (false≢true e)
asked-goes-on R s k d a (release_call t x) e = absurd (false≢true e)
asked-goes-on R s k d a (reopen t) e = absurd (false≢true e)
asked-goes-on R s k d a (deliver_to_session t x) e = absurd (false≢true (only-route R s k d a false t x (take_first false t x s.mailbox) refl e).0)
asked-goes-on R s k d a (deliver_to_item t x) e =
    let q = only-route R s k d a true t x (take_first true t x s.mailbox) refl e in
    subst₂ (λ (b y : ℕ). Phase R (item_takes R s b y (take_first true b y s.mailbox))) (sym q.1) (sym q.2)
    (subst (λ (p : Taken). Phase R (item_takes R s a.session a.item p)) (sym (first_taken R s k d a)) (request-done R s k d a))

-- ---- probes, aborts and grants
-- none of them is a request
no_request : {Q : Entry → Type 0} (d : Bool) (t x : ℕ) {l : List Entry} → Every (λ (e : Entry). Single e.message × Q e) l → count_kind Kind.request (route d t x l) ≡ 0
unfolding count_kind route
no_request d t x every-nil = refl
no_request d t x (every-cons {a} {l} h k) =
    by-test (λ (q : List Message). count_kind Kind.request q ≡ 0) (is_on_route d t x a) (λ _. omega (arith, other a.message h.0, no_request d t x k)) (λ _. no_request d t x k)
  where
    other : (m : Message) → Single m → bit (eqb (kind_of m) Kind.request) ≡ 0
    other _ single_probe = refl
    other _ single_abort = refl
    other _ single_grant = refl

module _ (R : Rules) (s : State) (a : Probing R s) where
  abbrev OnWay : Entry → Type 0
  OnWay e = Single e.message × HeldFrom R s a.from e.item

  -- a step that leaves the items as they are
  goes_on : (r : State) → ((z : ℕ) → r.item z ≡ s.item z) → NoVictim r → Every OnWay r.mailbox → length r.mailbox ≤ R.S + 1 → Probing R r
  goes_on r same nv m f = record {
    from = a.from;
    mail = every_map held-still m;
    few = f;
    no_victim = nv;
    one-cycle = λ v c. walk-map along (a.one-cycle v (record { next = c.next; out = edge-against R s.item r.item same v c.next c.out; walk = walk-map (edge-against R s.item r.item same) c.walk }));
  }
    where
      along : (u b : ℕ) → Edge R (world_of s) u b → Edge R (world_of r) u b
      along = edge-along R s.item r.item same

      held-still : (e : Entry) → OnWay e → Single e.message × HeldFrom R r a.from e.item
      held-still e h = (h.0, record { holder = h.1.holder; held = ap (λ (y : Item). y.holder) (same e.item) ∙ h.1.held; walk = walk-map along h.1.walk })

  -- ---- at an item
  module _ (t x : ℕ) where
    abbrev Kept : ItemStep → Type 0
    Kept o = (o.after ≡ s.item x) × OneSingle o.sends

    passes : (i j : ℕ) (h : Option ℕ) → OneSingle (pass_probe R i j h)
    unfolding pass_probe
    passes i j none = no_single
    passes i j (some h) =
        by-test OneSingle (R.senior h i) (λ _. no_single)
        (λ _. by-test OneSingle (eqb h i) (λ _. one_single j (abort j i) single_abort) (λ _. one_single h (probe i j) single_probe))

    kept : (m : Message) → Single m → Kept (item_receives R t (s.item x) m)
    unfolding item_receives
    kept _ (single_probe {i} {j}) = (refl, by-test OneSingle (in_queue R t (s.item x)) (λ _. passes i j (s.item x).holder) (λ _. no_single))
    kept _ single_abort = (refl, no_single)
    kept _ single_grant = (refl, no_single)

  -- ---- at a session
  module _ (t x : ℕ) (m : Message) (l : List Entry) (e : take_first false t x s.mailbox ≡ taken m l) where
    -- what was taken, and what is left
    heard : OnWay (entry false t x m) × Every OnWay l
    heard = every_take false t x m l a.mail e

    session-on : (o : SessionStep) → is_victim o.after.stage ≡ 0 → sent_weight (λ _ _. 1) o.sends ≤ 1
        → Every (λ (p : ℕ × Message). Single p.1 × HeldFrom R s a.from p.0) o.sends → Phase R (after_session s t l o)
    unfolding after_session updated
    session-on o nv f h = probing (goes_on (after_session s t l o) (λ z. refl)
        (λ u. by-test (λ (r : Session). is_victim r.stage ≡ 0) (eqb t u) (λ _. nv) (λ _. a.no_victim u))
        (every_append heard.1 (every-fromSession t h))
        (omega (
          arith,
          sum-session (λ _. 1) t x s.mailbox m l o.sends e,
          length-sum s.mailbox,
          length-sum (l ++ from_session t o.sends),
          f,
          a.few,
        )))

    dropped : Phase R (after_session s t l (session_drops (s.session t)))
    dropped = session-on (session_drops (s.session t)) (a.no_victim t) no_single.0 every-nil

    granted : (b : Stage) → Phase R (after_session s t l (on_grant R x (s.session t) b))
    unfolding on_grant
    granted growing = dropped
    granted (waiting y) = by-test (λ (o : SessionStep). Phase R (after_session s t l o)) (eqb y x) (λ _. session-on _ refl no_single.0 every-nil) (λ _. dropped)
    granted (victim p y) = dropped
    granted (releasing p) = dropped

  module _ (L : Laws R) (k : Invariant R s) (d : Tidy R s) where
    module _ (t x i j : ℕ) (l : List Entry) (e : take_first false t x s.mailbox ≡ taken (probe i j) l) (live : is_live (s.session t).stage ≡ true) where
      -- a session that takes the probe holds its item
      holds : (s.item x).holder ≡ some t
      holds = (came R s k t x i j l e live).held

      leads-here : Walk (Edge R (world_of s)) a.from t
      leads-here =
          let h = (heard t x (probe i j) l e).0.1 in
          let p = h.held in
          let q = holds in
          let z : h.holder ≡ t = cc in
          subst (Walk (Edge R (world_of s)) a.from) z h.walk

      -- the item that it awaits is held by itself or by whom it waits for
      awaited-held : (y : ℕ) → (s.session t).stage ≡ waiting y → HeldFrom R s a.from y
      unfolding up_route
      awaited-held y q = cases (zero-or-more (occurs t (s.item y).queue))
        where
          range : (1 ≤ y) × (y ≤ R.M)
          range = d.awaited t y (omega (arith, ap (λ (b : Stage). awaits b y) q, ap bit (eqb_self y)))

          cases : (occurs t (s.item y).queue ≡ 0) ⊎ (1 ≤ occurs t (s.item y).queue) → HeldFrom R s a.from y
          cases (inr w) =
              let h = queue-has-holder (links-of R L s k.core) t y w in
              record { holder = h.0; held = h.1; walk = onward leads-here (record { item = y; low = range.0; high = range.1; stands = w; held = h.1 }) }
          cases (inl z) =
              let f = k.core.links.linked t y range.0 range.1 in
              let h = bit-one (held_by (s.item y).holder t) (omega (arith, ap (λ (b : Stage). waits b y) q, ap bit (eqb_self y), no_request true t y a.mail)) in
              record { holder = t; held = is_held_by (s.item y).holder t h; walk = leads-here }

      passed_on : (n : ℕ) (b : Stage) → (s.session t).stage ≡ b
          → (sent_weight (λ _ _. 1) (to_awaited b (probe i n)) ≤ 1) × Every (λ (p : ℕ × Message). Single p.1 × HeldFrom R s a.from p.0) (to_awaited b (probe i n))
      unfolding to_awaited
      passed_on n growing q = (no_single.0, every-nil)
      passed_on n (waiting y) q = ((one_single y (probe i n) single_probe).0, every-cons (single_probe, awaited-held y q) every-nil)
      passed_on n (victim p y) q = absurd (omega (arith, a.no_victim t, ap is_victim q))
      passed_on n (releasing p) q = (no_single.0, every-nil)

      stored : Phase R (after_session s t l (store_probe R (s.session t) i (junior R j t) (to_awaited (s.session t).stage (probe i (junior R j t)))))
      unfolding store_probe
      stored =
          let f = passed_on (junior R j t) (s.session t).stage refl in
          by-test (λ (o : SessionStep). Phase R (after_session s t l o)) (is_news R (s.session t).stored i (junior R j t))
          (λ _. session-on t x (probe i j) l e _ (a.no_victim t) f.0 f.1) (λ _. dropped t x (probe i j) l e)

    module _ (t x : ℕ) (tlo : 1 ≤ t) (thi : t ≤ R.S) (l : List Entry) where
      probed : (i j : ℕ) → take_first false t x s.mailbox ≡ taken (probe i j) l → Phase R (after_session s t l (on_probe R t (s.session t) i j (s.session t).stage))
      unfolding on_probe
      probed i j e = by-test (λ (o : SessionStep). Phase R (after_session s t l o)) (is_live (s.session t).stage) (λ live. stored t x i j l e live) (λ _. dropped t x (probe i j) l e)

      -- a waiting session lies on a cycle, as its most junior
      aborted : (v i : ℕ) → take_first false t x s.mailbox ≡ taken (abort v i) l → (b : Stage) → (s.session t).stage ≡ b → Phase R (after_session s t l (on_abort R (s.session t) v i b))
      unfolding on_abort
      aborted v i e growing q = dropped t x (abort v i) l e
      aborted v i e (victim p y) q = dropped t x (abort v i) l e
      aborted v i e (releasing p) q = dropped t x (abort v i) l e
      aborted v i e (waiting y) q =
          told-phase R L s k d a t tlo thi (told-cycle R s k t x v i y l e q) y v i q l (heard t x (abort v i) l e).1
          (omega (arith, sum-take (λ _. 1) false t x s.mailbox (abort v i) l e, length-sum s.mailbox, length-sum l, a.few))

      at-session : (m : Message) → take_first false t x s.mailbox ≡ taken m l → Single m → Phase R (after_session s t l (session_receives R t x (s.session t) m))
      unfolding session_receives
      at-session _ e (single_probe {i} {j}) = probed i j e
      at-session _ e (single_abort {v} {i}) = aborted v i e (s.session t).stage refl
      at-session _ e single_grant = granted t x (down grant) l e (s.session t).stage

pub item-probes : (R : Rules) (s : State) → Probing R s → (t x : ℕ) (m : Message) (l : List Entry) → take_first true t x s.mailbox ≡ taken m l
    → Probing R (after_item s x l (item_receives R t (s.item x) m))
unfolding after_item
item-probes R s a t x m l e =
    let q = every_take true t x m l a.mail e in
    let o = item_receives R t (s.item x) m in
    let f = kept R s a t x m q.0.0 in
    goes_on R s a (after_item s x l o) (λ z. ap (λ (y : Item). updated s.item x y z) f.0 ∙ updated-unchanged s.item x z) a.no_victim
    (every_append q.1 (every-fromItem x (every_map (λ p z. (z, q.0.1)) f.1.1)))
    (omega (
      arith,
      sum-item (λ _. 1) t x s.mailbox m l o.sends e,
      length-sum s.mailbox,
      length-sum (l ++ from_item x o.sends),
      f.1.0,
      a.few,
    ))

pub session-probes : (R : Rules) (L : Laws R) (s : State) → Invariant R s → Tidy R s → Probing R s → (t x : ℕ) → 1 ≤ t → t ≤ R.S
    → (m : Message) (l : List Entry) → take_first false t x s.mailbox ≡ taken m l → Phase R (after_session s t l (session_receives R t x (s.session t) m))
session-probes R L s k d a t x tlo thi m l e = at-session R s a L k d t x tlo thi l m e (heard R s a t x m l e).0.0
