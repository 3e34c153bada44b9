-- While a cycle is dissolved or an item handed over, a message at an item keeps the clauses, and the mailbox gets no heavier.
use mathlib.Core.Path.{◌∙◌, ◌≡◌, ap, refl, sym}
use mathlib.Core.Bool.{cond, false, true}
use mathlib.Core.List.{[], ◌∷◌, List}
use mathlib.Core.Option.{none, Option, some}
use mathlib.Core.Logic.{◌≢◌, ◌⊎◌, inl, inr}
use Prim.Native.Nat.{◌≤◌, ℕ}
use native.Mathlib.Omega.{arith}
use lib.Dec.{eqb}
use borrow.Author.Tests.{eq-eqb}
use Rattle.lists.proofs.Tests.{by-test, eqb_self, same?}
use Rattle.deadlock.specs.Lists.{bit, occurs, without}
use Rattle.deadlock.specs.Machine.{abort, after_item, clean, down, Entry, hand_over, held_by, in_queue, Item, item_drops, item_receives, ItemStep, Laws, Message, on_rebroadcast, on_release, pass_clean, pass_probe, probe, probes_anew, rebroadcast, release, request, Rules, Sends, State, take_first, taken, up, withdraw}
use Rattle.message.specs.Kind
use Rattle.deadlock.specs.Counts.{cleans_of, count_kind, every-cons, every-nil}
use Rattle.deadlock.specs.Links.{may_release}
use Rattle.deadlock.specs.World.{is_victim}
use Rattle.deadlock.specs.Invariant.{Invariant, up_route}
use Rattle.deadlock.proofs.Laws.Entries.{every-fromItem, every_take}
use Rattle.deadlock.proofs.Laws.Lists.{member-occurs, occurs-without-le, updated-other, updated-same}
use Rattle.deadlock.proofs.Laws.Counts.{every_append, every_map, is_held_by}
use Rattle.deadlock.proofs.Laws.Routes.{take_same}
use Rattle.deadlock.proofs.Laws.Stages.{stage-facts}
use Rattle.deadlock.proofs.Laws.Walks.{walk-map}
use Rattle.deadlock.proofs.Victims.OneOnCycle.{victim-of-up}
use Rattle.deadlock.proofs.Core.Kept.{known_of}
use Rattle.bound.proofs.Mail.{sum-item}
use Rattle.bound.proofs.Sent.{sent_weight}
use Rattle.room.specs.Snapshot.{of_victim, Snapshot, Sound}
use Rattle.room.specs.Weights.{entry_weight, mail_weight, release_weight, resend_weight, weight}
use Rattle.room.specs.Phases.{AllowedMessage, AllowedUp, Clearing, HandedOver}
use Rattle.room.proofs.Members.{member-next, is_of_member}
use Rattle.room.proofs.Sending.{every-anew, Sent}
use Rattle.room.proofs.Holders.{edge_then, holder_then, the_victim}
use Rattle.room.proofs.AtItemWeights.{ahead-less, anew-all, anew-others}

module _ (R : Rules) (L : Laws R) (p : Snapshot) (k : Sound R p) (s : State) (i : Invariant R s) (c : Clearing p R s) (t x : ℕ) (lo : 1 ≤ x) (hi : x ≤ R.M) (l : List Entry) where
  -- what is sent is allowed, and what it weighs
  abbrev AllAllowed : Sends → Type 0
  AllAllowed = Sent (λ u a. AllowedMessage p u x a)

  abbrev sent : Sends → ℕ
  sent = sent_weight (λ u a. weight R p false u x a)

  -- what an item does on message m keeps the clauses
  record Kept (m : Message) (o : ItemStep) : Type 0 where
    pub queue : (a : ℕ) → occurs a o.after.queue ≤ occurs a (s.item x).queue
    pub holder : (o.after.holder ≡ (s.item x).holder) ⊎ HandedOver p (after_item s x l o) x
    pub allowed : AllAllowed o.sends
    pub light : sent o.sends ≤ weight R p true t x m

  module _ (o : ItemStep) where
    abbrev after : State
    after = after_item s x l o

    item-here : after.item x ≡ o.after
    unfolding after_item
    item-here = updated-same s.item x o.after

    item-there : (y : ℕ) → x ≢ y → after.item y ≡ s.item y
    unfolding after_item
    item-there y ne = updated-other s.item x o.after y ne

    -- an item that was handed over, if its holder is still one of its queue
    handed : (y : ℕ) → 1 ≤ may_release (s.session p.victim).stage → (r : Item) → after.item y ≡ r
        → ((h : ℕ) → r.holder ≡ some h → 1 ≤ occurs h (p.state.item y).queue) → HandedOver p after y
    unfolding after_item
    handed y over r e now = record { over = over; now = λ h q. now h (sym (ap (λ (a : Item). a.holder) e) ∙ q) }

    -- an item whose holder stays
    held_on : (y : ℕ) → (after.item y).holder ≡ (s.item y).holder → ((after.item y).holder ≡ (p.state.item y).holder) ⊎ HandedOver p after y
    held_on y e = cases (c.holders y)
      where
        cases : ((s.item y).holder ≡ (p.state.item y).holder) ⊎ HandedOver p s y → ((after.item y).holder ≡ (p.state.item y).holder) ⊎ HandedOver p after y
        cases (inl q) = inl (e ∙ q)
        cases (inr q) = inr (handed y q.over (after.item y) refl (λ h z. q.now h (sym e ∙ z)))

    kept_clears : (m : Message) → take_first true t x s.mailbox ≡ taken m l → Kept m o → Clearing p R after
    unfolding after_item mail_weight
    kept_clears m e d = record {
      victim-stage = c.victim-stage;
      only-victim = c.only-victim;
      waited = c.waited;
      queues = λ a y. elim (same? x y) [
        | yes q ↦ rw (← q, item-here) (omega (arith, d.queue a, c.queues a x))
        | no q ↦ rw (item-there y q) (c.queues a y)
      ];
      holders = λ y. cases y (same? x y) d.holder;
      stores = c.stores;
      mail = let w = every_take true t x m l c.mail e in every_append w.1 (every-fromItem x (every_map (λ a q. (w.0.0, q)) d.allowed));
      light = omega (arith, sum-item (entry_weight R p) t x s.mailbox m l o.sends e, d.light, c.light);
    }
      where
        cases : (y : ℕ) → Dec (x ≡ y) → (o.after.holder ≡ (s.item x).holder) ⊎ HandedOver p after x → ((after.item y).holder ≡ (p.state.item y).holder) ⊎ HandedOver p after y
        cases y (yes q) (inl z) = held_on y (rw (← q) (ap (λ (a : Item). a.holder) item-here ∙ z))
        cases y (yes q) (inr z) = inr (rw (← q) z)
        cases y (no q) z = held_on y (ap (λ (a : Item). a.holder) (item-there y q))

  -- ---- message by message
  anew-allowed : (h : ℕ) (q r : List ℕ) → AllAllowed (probes_anew R h q r)
  anew-allowed h q r = every-anew (λ u a. AllowedMessage p u x a) R h q r (λ _ _. tt) (λ _. tt)

  -- allowed, and within a weight
  abbrev Within : ℕ → Sends → Type 0
  Within n q = AllAllowed q × (sent q ≤ n)

  -- the item stays
  stays : (m : Message) (o : ItemStep) → o.after ≡ s.item x → Within (weight R p true t x m) o.sends → Kept m o
  stays m o e w = record { queue = λ b. rw e (omega arith); holder = inl (ap (λ (r : Item). r.holder) e); allowed = w.0; light = w.1 }

  dropped : (m : Message) → Kept m (item_drops (s.item x))
  unfolding sent_weight
  dropped m = stays m (item_drops (s.item x)) refl (every-nil, omega arith)

  -- a probe goes on, or tells of a victim
  probe-sends : (a b : ℕ) (o : Option ℕ) → Within 1 (pass_probe R a b o)
  unfolding pass_probe sent_weight weight
  probe-sends a b none = (every-nil, omega arith)
  probe-sends a b (some h) =
      by-test (Within 1) (R.senior h a) (λ _. (every-nil, omega arith))
      (λ _. by-test (Within 1) (eqb h a) (λ _. (every-cons tt every-nil, omega arith)) (λ _. (every-cons tt every-nil, omega arith)))

  probed : (a b : ℕ) → Kept (probe a b) (item_receives R t (s.item x) (probe a b))
  unfolding item_receives weight sent_weight
  probed a b =
      stays (probe a b) (item_receives R t (s.item x) (probe a b)) refl
      (by-test (Within 1) (in_queue R t (s.item x)) (λ _. probe-sends a b (s.item x).holder) (λ _. (every-nil, omega arith)))

  withdrew : Kept (up withdraw) (item_receives R t (s.item x) (up withdraw))
  unfolding item_receives weight sent_weight
  withdrew = record { queue = λ a. occurs-without-le a t (s.item x).queue; holder = inl refl; allowed = every-cons tt every-nil; light = omega arith }

  -- probes and resends for a queue with no member
  rebroadcast-sends : AllowedUp p t x rebroadcast → (o : Option ℕ) → Within (weight R p true t x (up rebroadcast)) (on_rebroadcast R (s.item x).queue o)
  unfolding on_rebroadcast sent_weight weight
  rebroadcast-sends f none = (every-nil, omega arith)
  rebroadcast-sends f (some h) = (
    anew-allowed h (s.item x).queue (s.item x).queue,
    omega (arith, anew-all R L p k x lo hi (s.item x).queue (λ a. c.queues a x) h 0 (λ a o m. absurd (omega (arith, o, f a m)))),
  )

  rebroadcasted : AllowedUp p t x rebroadcast → Kept (up rebroadcast) (item_receives R t (s.item x) (up rebroadcast))
  unfolding item_receives
  rebroadcasted f = stays (up rebroadcast) (item_receives R t (s.item x) (up rebroadcast)) refl (rebroadcast-sends f (s.item x).holder)

  -- ---- a release
  module _ (of : of_victim p x ≡ true) (over : 1 ≤ may_release (s.session p.victim).stage) where
    was : (p.state.item x).holder ≡ some p.victim
    unfolding of_victim
    was = is_held_by (p.state.item x).holder p.victim of

    member-resend : (b : ℕ) → p.member b ≡ true → resend_weight R p b ≤ R.S
    unfolding resend_weight
    member-resend b m = rw m (omega (arith, k.sessions))

    handed-over : (q : List ℕ) → (s.item x).queue ≡ q → Kept (up release) (hand_over R q)
    unfolding hand_over weight release_weight sent_weight
    handed-over [] e = record {
      queue = λ a. rw e (omega arith);
      holder = inr (handed (hand_over R []) x over (hand_over R []).after (item-here (hand_over R [])) (λ h z. let y : ◌≡◌ {A = ℕ} 0 1 = cc in absurd (omega arith)));
      allowed = every-nil;
      light = omega arith;
    }
    handed-over (j ∷ js) e =
        let a = R.next j js in
        let rest = without a (j ∷ js) in
        let less : (b : ℕ) → occurs b rest ≤ occurs b (s.item x).queue = λ b. rw e (occurs-without-le b a (j ∷ js)) in
        record {
          queue = less;
          holder = inr (handed (hand_over R (j ∷ js)) x over (hand_over R (j ∷ js)).after (item-here (hand_over R (j ∷ js))) (λ h z.
              let y : a ≡ h = cc in
              let o : 1 ≤ occurs a (s.item x).queue = rw e (member-occurs a (j ∷ js) (L.next-member j js)) in
              rw (← y) (omega (arith, o, c.queues a x))));
          allowed = every-cons tt (anew-allowed a rest rest);
          light = omega (
            arith,
            anew-all R L p k x lo hi rest (λ b. omega (arith, less b, c.queues b x)) a (cond (eqb x p.closing) R.S 0)
                (λ b o m. rw (eq-eqb x p.closing (k.closes b x lo hi m o was)) (member-resend b m)),
          );
        }

    released : Kept (up release) (item_receives R t (s.item x) (up release))
    unfolding item_receives on_release
    released = by-test (Kept (up release)) (held_by (s.item x).holder t) (λ _. handed-over (s.item x).queue refl) (λ _. dropped (up release))

  -- ---- a clean
  module _ (v j : ℕ) (under : 1 ≤ cleans_of v (up_route s t x)) where
    is-victim : 1 ≤ is_victim (s.session v).stage
    is-victim = omega (arith, victim-of-up (known_of R L s i.core) v t x under, stage-facts (s.session v).stage)

    is_the_victim : v ≡ p.victim
    is_the_victim = the_victim R p s c v is-victim

    now-victim : 1 ≤ is_victim (s.session p.victim).stage
    now-victim = rw (← is_the_victim) is-victim

    of_cycle : p.member t ≡ true
    of_cycle =
        let w = walk-map (edge_then R p s c now-victim) (i.core.victims.clean-up-on-cycle v t x under).walk in
        k.reached-member t (rw is_the_victim at w)

    clean-sends : (o : Option ℕ) → (s.item x).holder ≡ o → Within (weight R p true t x (clean v j)) (pass_clean R t v j (s.item x).queue o)
    unfolding pass_clean sent_weight weight
    clean-sends none e = (every-nil, omega arith)
    clean-sends (some h) e =
        let stands = (i.core.victims.clean-up-on-cycle v t x under).stands in
        let d = edge_then R p s c now-victim t h (record { item = x; low = lo; high = hi; stands = stands; held = e }) in
        let held = sym (holder_then R p s c now-victim x) ∙ e in (
          every-cons tt (anew-allowed h (s.item x).queue (without t (s.item x).queue)),
          omega (
            arith,
            ahead-less R L p k x lo hi t h held (k.far-falls t h of_cycle d) (is_of_member R L p k x h held (member-next R L p k t h of_cycle d)),
            anew-others R L p k x lo hi (s.item x).queue (λ a. c.queues a x) h t of_cycle stands,
          ),
        )

    cleaned : Kept (clean v j) (item_receives R t (s.item x) (clean v j))
    unfolding item_receives
    cleaned = stays (clean v j) (item_receives R t (s.item x) (clean v j)) refl (clean-sends (s.item x).holder refl)

  -- ---- all of them
  kept : (m : Message) → take_first true t x s.mailbox ≡ taken m l → AllowedMessage p t x m → Kept m (item_receives R t (s.item x) m)
  unfolding item_receives up_route count_kind cleans_of
  kept (up request) e a = absurd a
  kept (up release) e a =
      let f = i.core.links.linked t x lo hi in
      released a.1 (rw (← a.0) (omega (arith, ap (count_kind Kind.release) (take_same true t x s.mailbox (up release) l e))))
  kept (up rebroadcast) e a = rebroadcasted a
  kept (up withdraw) e a = withdrew
  kept (down m) e a = dropped (down m)
  kept (probe a b) e _ = probed a b
  kept (clean v j) e a = cleaned v j (omega (arith, ap (cleans_of v) (take_same true t x s.mailbox (clean v j) l e), ap bit (eqb_self v)))
  kept (abort v j) e a = dropped (abort v j)

pub item_clears : (R : Rules) (L : Laws R) (p : Snapshot) → Sound R p → (s : State) → Invariant R s → Clearing p R s → (t x : ℕ) → 1 ≤ x → x ≤ R.M
    → (m : Message) (l : List Entry) → take_first true t x s.mailbox ≡ taken m l → Clearing p R (after_item s x l (item_receives R t (s.item x) m))
item_clears R L p k s i c t x lo hi m l e =
    kept_clears R L p k s i c t x lo hi l (item_receives R t (s.item x) m) m e (kept R L p k s i c t x lo hi l m e (every_take true t x m l c.mail e).0.1)
