-- A step of an item keeps the balance: a request closes at most one cycle, a release none, and a withdraw turns a standing cycle into a session that leaves.
use mathlib.Core.Path.{◌∙◌, ◌≡◌, ap, refl, subst, sym}
use mathlib.Core.Bool.{◌||◌, Bool, cond, false, true}
use mathlib.Core.List.{[], ◌∷◌, List}
use mathlib.Core.Option.{none, Option, some}
use mathlib.Core.Logic.{◌≢◌, inl, inr}
use Prim.Native.Nat.{◌+◌, ◌≤◌, ℕ}
use native.Mathlib.Omega.{arith}
use lib.Dec.{eqb}
use Rattle.lists.specs.Lists.{member}
use Rattle.lists.proofs.Tests.{by-test, fails, same?}
use Rattle.deadlock.specs.Lists.{bit, occurs, without}
use Rattle.item.specs.declared.Event.{Event as ItemEvent}
use Rattle.item.specs.declared.Event.TheVariants.{Declared, Joined, Nothing}
use Rattle.deadlock.specs.Machine.{abort, after_item, clean, cleaning, declares, down, Entry, grant_or_queue, growing, hand_over, held_by, in_queue, Item, item_drops, item_event, item_receives, ItemStep, Laws, Message, on_cycle, on_release, on_request, probe, rebroadcast, release, releasing, request, Rules, Stage, State, take_first, taken, up, victim, waiting, withdraw, withdrawing, withdrawn}
use Rattle.message.specs.Kind
use Rattle.deadlock.specs.Counts.{count_kind}
use Rattle.deadlock.specs.Links.{withdraws}
use Rattle.deadlock.specs.World.{Edge, FreeIsEmpty, HolderIs, is_victim, is_waiting, Known, Queued}
use Rattle.deadlock.specs.Invariant.{Invariant, leaving, mail_of, standing, world_of}
use Rattle.deadlock.proofs.Laws.Lists.{bit-eqb, member-occurs, occurs-member, occurs-without-other, occurs-without-same, updated-other, updated-same, without-absent, zero-or-more}
use Rattle.deadlock.proofs.Laws.Stages.{seen-facts}
use Rattle.deadlock.proofs.Victims.OneOnCycle.{one-queue}
use Rattle.deadlock.proofs.StateWaits.{cycle-on_cycle}
use Rattle.deadlock.proofs.Probes.PathsStay.{ItemTakes}
use Rattle.deadlock.proofs.Probes.KeptByWithdraw.{holder-same, queue-keep}
use Rattle.deadlock.proofs.Victims.KeptByWithdraw.{withdraw-edge-back, withdraw-leaves, withdraws-victim}
use Rattle.deadlock.proofs.Core.KeptByRequestAndRelease.{granted-edge, granted-edge-back, queued-edge, queued-edge-back, queued-other, release-holder, release-no-edge, released-no-victim, request-is-waiting, request-no-edge}
use Rattle.deadlock.proofs.Core.Kept.{item-takes, known_of, links-of}
use Rattle.deadlock.proofs.Count.StandingCycles.{standing-kept, standing-more, standing-same, standing-turned}
use Rattle.deadlock.proofs.Count.LeavingSessions.{leaving-more, leaving-same}

bit-cond : (b : Bool) → bit b ≡ cond b 1 0
bit-cond true = refl
bit-cond false = refl

-- a stage that an item sees as withdrawing
withdrawing-is : (a : Stage) (x : ℕ) → 1 ≤ withdraws a x → a ≡ victim withdrawing x
withdrawing-is growing x h = absurd (omega arith)
withdrawing-is (waiting y) x h = absurd (omega arith)
withdrawing-is (victim cleaning y) x h = absurd (omega arith)
withdrawing-is (victim withdrawing y) x h = ap (victim withdrawing) (bit-eqb y x h)
withdrawing-is (releasing p) x h = absurd (omega arith)

module _ (R : Rules) (L : Laws R) (s : State) (k : Invariant R s) where
  -- from s to r, with a cycle closed or not
  abbrev pub Balanced : Bool → State → Type 0
  Balanced c r = standing R s + leaving R s + bit c ≡ standing R r + leaving R r

  module _ (t x : ℕ) (lo : 1 ≤ x) (hi : x ≤ R.M) (low : 1 ≤ t) (high : t ≤ R.S) (l : List Entry) where
    abbrev known_now : Known R (world_of s)
    known_now = known_of R L s k.core

    abbrev after : ItemStep → State
    after o = after_item s x l o

    -- the step keeps the balance
    abbrev Done : ItemStep → Type 0
    Done o = Invariant R (after o) → Balanced (item_event o.event (on_cycle R (after o) t)).closed (after o)

    -- and closes no cycle
    abbrev Quiet : ItemStep → Type 0
    Quiet o = Invariant R (after o) → Balanced false (after o)

    item-at : (o : ItemStep) → (after o).item x ≡ o.after
    unfolding after_item
    item-at o = updated-same s.item x o.after

    item-off : (o : ItemStep) (z : ℕ) → x ≢ z → (after o).item z ≡ s.item z
    unfolding after_item
    item-off o z ne = updated-other s.item x o.after z ne

    stage-kept : (o : ItemStep) (a : ℕ) → ((after o).session a).stage ≡ (s.session a).stage
    unfolding after_item
    stage-kept o a = refl

    -- a queue in which session a has its place as before
    queue-kept : (o : ItemStep) (a y : ℕ) → (x ≡ y → occurs a o.after.queue ≡ occurs a (s.item x).queue)
        → occurs a ((after o).item y).queue ≡ occurs a (s.item y).queue
    queue-kept o a y f = elim (same? x y) [ yes q ↦ rw (← q, item-at o) (f q) | no q ↦ rw (item-off o y q) ]

    -- ---- the item stays as it was
    unchanged : (o : ItemStep) → o.after ≡ s.item x → Quiet o
    unchanged o e kr = omega (arith, standing-same R L s (after o) k kr same, leaving-same R s (after o) (stage-kept o) (λ a y _. ap (λ (i : Item). occurs a i.queue) (same y)))
      where
        same : (z : ℕ) → (after o).item z ≡ s.item z
        same z = elim (same? x z) [ yes q ↦ rw (← q, item-at o) e | no q ↦ item-off o z q ]

    -- ---- request
    request-granted-or-queued : take_first true t x s.mailbox ≡ taken (up request) l → (h : Option ℕ) → (s.item x).holder ≡ h → Done (grant_or_queue R t (s.item x).queue h)
    unfolding grant_or_queue after_item item_event
    request-granted-or-queued e none free kr =
        let o = grant_or_queue R t (s.item x).queue none in
        let ar = item-takes R L s k.core t x (up request) l e o in
        let mail = mail_of (after o) in
        let q = mail.up t x in
        omega (
          arith,
          standing-kept R L s (after o) k kr (granted-edge L known_now t x lo hi mail q ar.head free ar) (granted-edge-back L known_now t x lo hi mail q ar.head free ar),
          leaving-same R s (after o) (stage-kept o) (λ a y _. queue-kept o a y (λ _. refl)),
        )
    request-granted-or-queued e (some h) held kr =
        let o = grant_or_queue R t (s.item x).queue (some h) in
        let ar = item-takes R L s k.core t x (up request) l e o in
        let mail = mail_of (after o) in
        let q = mail.up t x in
        let place : (a y : ℕ) → (s.session a).stage ≡ victim withdrawing y → occurs a ((after o).item y).queue ≡ occurs a (s.item y).queue =
        λ a y w. queued-other L known_now t x lo hi mail q ar.head h held ar a y
        (λ z. omega (arith, request-is-waiting L known_now t x lo hi mail q ar.head, ap (λ (u : ℕ). is_waiting (s.session u).stage) z, ap is_waiting w)) in
        omega (
          arith,
          bit-cond (on_cycle R (after o) t),
          standing-more R L s (after o) k kr t low (request-no-edge L known_now t x lo hi mail q ar.head)
              (λ a b _. queued-edge L known_now t x lo hi mail q ar.head h held ar a b) (queued-edge-back L known_now t x lo hi mail q ar.head h held ar),
          leaving-same R s (after o) (stage-kept o) place,
        )

    -- ---- release
    holder-now : (o : ItemStep) (y b : ℕ) → ((after o).item y).holder ≡ some b → x ≡ y → o.after.holder ≡ some b
    holder-now o y b h p = sym (ap (λ (i : Item). i.holder) (item-at o)) ∙ (ap (λ (z : ℕ). ((after o).item z).holder) p ∙ h)

    -- t, which holds the item, waits for nobody
    release-leads-nowhere : take_first true t x s.mailbox ≡ taken (up release) l → (a b c : ℕ) (d : Edge R (world_of s) a b) → x ≡ d.item → Edge R (world_of s) b c → ⊥
    release-leads-nowhere e a b c d p g =
        let o = item_drops (s.item x) in
        let mail = mail_of (after o) in
        let ar = item-takes R L s k.core t x (up release) l e o in
        let h : HolderIs (world_of s) x b = rw p d.held in
        let h2 = release-holder L known_now t x lo hi mail (mail.up t x) ar.head in
        let z : b ≡ t = cc in
        release-no-edge L known_now t x lo hi mail (mail.up t x) ar.head c (rw z at g)

    -- so nobody in the queue is a victim
    release-no-victim : take_first true t x s.mailbox ≡ taken (up release) l → (a : ℕ) → Queued (world_of s) a x → 1 ≤ is_victim (s.session a).stage → ⊥
    release-no-victim e =
        let o = item_drops (s.item x) in
        let mail = mail_of (after o) in
        let ar = item-takes R L s k.core t x (up release) l e o in
        released-no-victim L known_now t x lo hi mail (mail.up t x) ar.head (s.item x) (λ a. omega arith) ar

    -- the next holder, out of the queue, waits for nobody
    next-leads-nowhere : (o : ItemStep) (n : ℕ) → 1 ≤ occurs n (s.item x).queue → o.after.queue ≡ without n (s.item x).queue → (c : ℕ) → Edge R (world_of (after o)) n c → ⊥
    next-leads-nowhere o n m q c g = elim (same? x g.item) [
      | yes p ↦ let h : 1 ≤ occurs n ((after o).item x).queue = subst (λ (z : ℕ). 1 ≤ occurs n ((after o).item z).queue) (sym p) g.stands in
          let f = k.core.links.linked n x lo hi in
          omega (arith, h, ap (λ (i : Item). occurs n i.queue) (item-at o), ap (occurs n) q, occurs-without-same n (s.item x).queue, seen-facts (s.session n).stage x)
      | no p ↦ p (one-queue (links-of R L s k.core) n x g.item lo hi g.low g.high m (omega (arith, g.stands, ap (λ (i : Item). occurs n i.queue) (item-off o g.item p))))
    ]

    release-hands-over : take_first true t x s.mailbox ≡ taken (up release) l → (q : List ℕ) → (s.item x).queue ≡ q → Done (hand_over R q)
    unfolding item_event hand_over
    release-hands-over e [] empty kr =
        let o = hand_over R [] in
        omega (
          arith,
          standing-turned R L s (after o) k kr x (item-off o) (release-leads-nowhere e)
              (λ a b c d p g. let h = holder-now o d.item b d.held p in let z : ◌≡◌ {A = ℕ} 0 1 = cc in omega arith),
          leaving-same R s (after o) (stage-kept o) (λ a y _. queue-kept o a y (λ _. ap (occurs a) (sym empty))),
        )
    release-hands-over e (j ∷ js) queue kr =
        let o = hand_over R (j ∷ js) in
        let n = R.next j js in
        let member-next : 1 ≤ occurs n (s.item x).queue = rw queue (member-occurs n (j ∷ js) (L.next-member j js)) in
        let place : (a y : ℕ) → (s.session a).stage ≡ victim withdrawing y → x ≡ y → occurs a (without n (j ∷ js)) ≡ occurs a (s.item x).queue =
        λ a y w _. elim (same? n a) [
          | yes z ↦ absurd (release-no-victim e n member-next (omega (arith, ap (λ (u : ℕ). is_victim (s.session u).stage) z, ap is_victim w)))
          | no z ↦ occurs-without-other a n (j ∷ js) z ∙ ap (occurs a) (sym queue)
        ] in
        omega (
          arith,
          standing-turned R L s (after o) k kr x (item-off o) (release-leads-nowhere e)
              (λ a b c d p g.
              let h = holder-now o d.item b d.held p in
              let z : b ≡ n = cc in
              next-leads-nowhere o n member-next (ap (without n) (sym queue)) c (rw z at g)),
          leaving-same R s (after o) (stage-kept o) (λ a y w. queue-kept o a y (place a y w)),
        )

    -- ---- withdraw
    abbrev withdrawStep : ItemStep
    withdrawStep = item_receives R t (s.item x) (up withdraw)

    withdraw-absent : occurs t (s.item x).queue ≡ 0 → Quiet withdrawStep
    unfolding item_receives
    withdraw-absent z = unchanged withdrawStep (ap (λ (q : List ℕ). record { holder = (s.item x).holder; queue = q }) (without-absent t (s.item x).queue z))

    module _ (e : take_first true t x s.mailbox ≡ taken (up withdraw) l) (m : 1 ≤ occurs t (s.item x).queue) where
      withdraw-takes : ItemTakes (world_of s) t x (up withdraw) ((t, down withdrawn) ∷ []) (mail_of (after withdrawStep))
      unfolding item_receives
      withdraw-takes = item-takes R L s k.core t x (up withdraw) l e withdrawStep

      -- t waits for the holder, and so lies on a cycle
      withdraw-on-cycle : on_cycle R s t ≡ true
      unfolding FreeIsEmpty occurs
      withdraw-on-cycle = cases (s.item x).holder refl
        where
          cases : (h : Option ℕ) → (s.item x).holder ≡ h → on_cycle R s t ≡ true
          cases none q = absurd (omega (arith, m, ap (occurs t) (k.core.idle x q)))
          cases (some h) q = cycle-on_cycle R s (links-of R L s k.core) k.is_in_range t
              (k.core.victims.victim-on-cycle t h (withdraws-victim L known_now lo hi withdraw-takes) (record { item = x; low = lo; high = hi; stands = m; held = q })).cycle

      withdraw-stage : (s.session t).stage ≡ victim withdrawing x
      unfolding count_kind
      withdraw-stage = let f = k.core.links.linked t x lo hi in withdrawing-is (s.session t).stage x (omega (arith, ap (count_kind Kind.withdraw) withdraw-takes.head))

      withdraw-balanced : Quiet withdrawStep
      unfolding item_receives after_item
      withdraw-balanced kr =
          let r = after withdrawStep in
          omega (
            arith,
            bit-cond (on_cycle R s t),
            ap bit withdraw-on-cycle,
            standing-more R L r s kr k t low (λ b d. withdraw-leaves L known_now lo hi withdraw-takes d.item d.low d.high d.stands)
                (λ a b _. withdraw-edge-back L known_now lo hi withdraw-takes a b)
                (λ a b ne d. record {
                  item = d.item;
                  low = d.low;
                  high = d.high;
                  stands = omega (arith, d.stands, queue-keep known_now lo hi withdraw-takes a d.item (λ q. ne (sym q)) (same? x d.item));
                  held = holder-same known_now lo hi withdraw-takes d.item (same? x d.item) ∙ d.held;
                }),
            leaving-more R s r (stage-kept withdrawStep) t low high x withdraw-stage (occurs-member t (s.item x).queue m)
                (fails (member t (r.item x).queue) (λ p. withdraw-leaves L known_now lo hi withdraw-takes x lo hi (member-occurs t (r.item x).queue p)))
                (λ a y ne _. queue-keep known_now lo hi withdraw-takes a y ne (same? x y)),
          )

    -- ---- every message
    declares-closes-none : (i j : ℕ) (h : Option ℕ) (c : Bool) → (item_event (declares R i j h) c).closed ≡ false
    unfolding declares item_event
    declares-closes-none i j none c = refl
    declares-closes-none i j (some h) c =
        by-test (λ (e : ItemEvent). (item_event e c).closed ≡ false) (R.senior h i) (λ _. refl)
        (λ _. by-test (λ (e : ItemEvent). (item_event e c).closed ≡ false) (eqb h i) (λ _. refl) (λ _. refl))

    probe-closes-none : (i j : ℕ) (c : Bool) → (item_event (item_receives R t (s.item x) (probe i j)).event c).closed ≡ false
    unfolding item_receives item_event
    probe-closes-none i j c = by-test (λ (e : ItemEvent). (item_event e c).closed ≡ false) (in_queue R t (s.item x)) (λ _. declares-closes-none i j (s.item x).holder c) (λ _. refl)

    pub item-balanced : (m : Message) → take_first true t x s.mailbox ≡ taken m l → Done (item_receives R t (s.item x) m)
    unfolding item_receives item_event on_request on_release
    item-balanced (up request) e = by-test Done (held_by (s.item x).holder t || member t (s.item x).queue) (λ _. unchanged (item_drops (s.item x)) refl) (λ _. request-granted-or-queued e (s.item x).holder refl)
    item-balanced (up release) e = by-test Done (held_by (s.item x).holder t) (λ _. release-hands-over e (s.item x).queue refl) (λ _. unchanged (item_drops (s.item x)) refl)
    item-balanced (up rebroadcast) e = unchanged (item_receives R t (s.item x) (up rebroadcast)) refl
    item-balanced (up withdraw) e = elim (zero-or-more (occurs t (s.item x).queue)) [ inl z ↦ withdraw-absent z | inr m ↦ withdraw-balanced e m ]
    item-balanced (down m) e = unchanged (item_drops (s.item x)) refl
    item-balanced (probe i j) e = λ kr. let o = item_receives R t (s.item x) (probe i j) in omega (arith, unchanged o refl kr, ap bit (probe-closes-none i j (on_cycle R (after o) t)))
    item-balanced (clean v i) e = unchanged (item_receives R t (s.item x) (clean v i)) refl
    item-balanced (abort v i) e = unchanged (item_drops (s.item x)) refl

-- an item rolls no session back
pub item-rolls-none : (e : ItemEvent) (c : Bool) → (item_event e c).rolled_back ≡ false
unfolding item_event
item-rolls-none Nothing c = refl
item-rolls-none Joined c = refl
item-rolls-none (Declared v i) c = refl
