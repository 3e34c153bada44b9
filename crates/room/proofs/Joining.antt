-- A request at its item: it joins the queue or is granted, and the probes behind it are at an item that its session leads to.
use mathlib.Core.Path.{◌∙◌, ◌≡◌, ap, refl, subst, sym}
use mathlib.Core.Bool.{◌||◌, Bool, false≢true, true}
use mathlib.Core.List.{[], ◌++◌, ◌∷◌, List}
use mathlib.Core.Logic.{◌⊎◌, inl, inr}
use mathlib.Core.Option.{none, Option, some}
use Prim.Native.Nat.{◌≤◌, ℕ}
use native.Mathlib.Omega.{arith}
use lib.ListN.{length, length-append}
use Rattle.lists.specs.Lists.{member}
use Rattle.lists.proofs.Tests.{by-test, eqb_self, same?}
use Rattle.deadlock.specs.Lists.{bit, occurs, updated}
use Rattle.deadlock.specs.Machine.{after_item, down, Entry, from_item, grant, grant_or_queue, held_by, is_on_route, Item, item_receives, ItemStep, Message, no_entry, on_request, probe, request, Rules, Sends, Stage, State, take_first, Taken, taken, up}
use Rattle.message.specs.Kind
use Rattle.deadlock.specs.Counts.{count_kind, Every, every-cons, every-nil}
use Rattle.deadlock.specs.Links.{awaits, doomed, may_release}
use Rattle.deadlock.specs.Walks.{FirstApart, onward, rest, Walk}
use Rattle.deadlock.specs.World.{FreeIsEmpty, WaitEdge}
use Rattle.deadlock.specs.Invariant.{Invariant, up_route}
use Rattle.deadlock.proofs.Laws.Entries.{every-fromItem, every_take}
use Rattle.deadlock.proofs.Laws.Counts.{every_append, every_map}
use Rattle.deadlock.proofs.Laws.Lists.{bit-member, bit_or, occurs-last-other, occurs-last-same, updated-other, updated-same}
use Rattle.deadlock.proofs.Laws.Routes.{take_same}
use Rattle.deadlock.proofs.Laws.Walks.{walk-append}
use Rattle.bound.specs.Potential.{mail_sum}
use Rattle.bound.specs.Statement.{is_taken}
use Rattle.bound.proofs.Mail.{sum-from_item}
use Rattle.bound.proofs.Sent.{sent_weight}
use Rattle.room.specs.Phases.{Asked, HeldFrom, Phase, probe_from, ProbeFrom, probing, Probing, Single, single_grant, single_probe, Tidy}

-- ---- walks with edges of one place added
module _ {E F : ℕ → ℕ → Type 0} (t : ℕ) (split : (a b : ℕ) → F a b → E a b ⊎ (a ≡ t)) where
  walk_or_through : {a b : ℕ} → Walk F a b → Walk E a b ⊎ Walk F a t
  walk_or_through rest = inl rest
  walk_or_through {a} (onward {u} {t = b} w e) = cases (walk_or_through w) (split u b e)
    where
      cases : Walk E a u ⊎ Walk F a t → E u b ⊎ (u ≡ t) → Walk E a b ⊎ Walk F a t
      cases (inr y) q = inr y
      cases (inl y) (inl q) = inl (onward y q)
      cases (inl y) (inr q) = inr (subst (Walk F a) q w)

  -- a new cycle leads to that place
  cycle_through : ((v : ℕ) → FirstApart E v v → ⊥) → (v : ℕ) → FirstApart F v v → Walk F v t
  cycle_through has_no_cycle v c = cases (split v c.next c.out) (walk_or_through c.walk)
    where
      cases : E v c.next ⊎ (v ≡ t) → Walk E c.next v ⊎ Walk F c.next t → Walk F v t
      cases (inr q) y = subst (Walk F v) q rest
      cases (inl q) (inl y) = absurd (has_no_cycle v (record { next = c.next; out = q; walk = y }))
      cases (inl q) (inr y) = walk-append (onward rest c.out) y

-- ---- how many messages
pub length-sum : (l : List Entry) → mail_sum (λ _. 1) l ≡ length l
unfolding mail_sum
length-sum [] = refl
length-sum (e ∷ l) = omega (arith, length-sum l)

-- one message at the most, of those that send one at the most
abbrev pub OneSingle : Sends → Type 0
OneSingle l = (sent_weight (λ _ _. 1) l ≤ 1) × Every (λ (p : ℕ × Message). Single p.1) l

pub no_single : OneSingle []
unfolding sent_weight
no_single = (omega arith, every-nil)

pub one_single : (x : ℕ) (m : Message) → Single m → OneSingle ((x, m) ∷ [])
unfolding sent_weight
one_single x m q = (omega arith, every-cons q every-nil)

-- ---- the request
module _ (R : Rules) (s : State) (k : Invariant R s) (d : Tidy R s) (a : Asked R s) where
  abbrev T : ℕ
  T = a.session

  abbrev X : ℕ
  X = a.item

  -- the item is one of the machine
  range : (1 ≤ X) × (X ≤ R.M)
  range = d.awaited T X (omega (arith, ap (λ (b : Stage). awaits b X) a.stage, ap bit (eqb_self X)))

  abbrev OfRoute : Entry → Type 0
  OfRoute e = (e.to_item ≡ true) × (e.session ≡ T) × (e.item ≡ X)

  probe-route : (e : Entry) → ProbeFrom T X e → OfRoute e
  probe-route _ probe_from = (refl, refl, refl)

  -- all messages are on one route
  all-route : Every OfRoute s.mailbox
  all-route = subst (Every OfRoute) (sym a.mail) (every-cons (refl, refl, refl) (every_map probe-route a.all-probes))

  pub only-route : (d : Bool) (t x : ℕ) (o : Taken) → take_first d t x s.mailbox ≡ o → is_taken o ≡ true → (d ≡ true) × (t ≡ T) × (x ≡ X)
  only-route d t x no_entry e h = absurd (false≢true h)
  only-route d t x (taken m l) e h = (every_take d t x m l all-route e).0

  pub first_taken : take_first true T X s.mailbox ≡ taken (up request) a.probes
  unfolding take_first is_on_route
  first_taken = ap (take_first true T X) a.mail ∙ rw (eqb_self T, eqb_self X) refl

  record NotThere : Type 0 where
    pub queued : occurs T (s.item X).queue ≡ 0
    pub holder : bit (held_by (s.item X).holder T) ≡ 0

  not_there : NotThere
  unfolding up_route count_kind
  not_there =
      let f = k.core.links.linked T X range.0 range.1 in
      let q = a.stage in
      omega (
        arith,
        ap (λ (b : Stage). awaits b X) q,
        ap may_release q,
        ap doomed q,
        ap bit (eqb_self X),
        ap (count_kind Kind.request) (take_same true T X s.mailbox (up request) a.probes first_taken),
      )

  -- the item has the holder h then, and T leads to it; who stands in its queue stood there, at the same holder, or is T
  module _ (o : ItemStep) (h : ℕ) (held : o.after.holder ≡ some h) (single : OneSingle o.sends)
      (stood : (b : ℕ) → 1 ≤ occurs b o.after.queue → ((1 ≤ occurs b (s.item X).queue) × ((s.item X).holder ≡ some h)) ⊎ (b ≡ T))
      (leads : (h ≡ T) ⊎ (1 ≤ occurs T o.after.queue)) where
    abbrev i : Item
    i = o.after

    abbrev items : ℕ → Item
    items = updated s.item X i

    at_item : items X ≡ i
    at_item = updated-same s.item X i

    leads-on : (h ≡ T) ⊎ (1 ≤ occurs T i.queue) → Walk (WaitEdge R items) T h
    leads-on (inl q) = subst (Walk (WaitEdge R items) T) (sym q) rest
    leads-on (inr q) = onward rest (record {
      item = X;
      low = range.0;
      high = range.1;
      stands = subst (λ (y : Item). 1 ≤ occurs T y.queue) (sym at_item) q;
      held = ap (λ (y : Item). y.holder) at_item ∙ held;
    })

    edge-split : (u b : ℕ) → WaitEdge R items u b → WaitEdge R s.item u b ⊎ (u ≡ T)
    edge-split u b e = cases (same? X e.item)
      where
        at-queue : (i.holder ≡ some b) → ((1 ≤ occurs u (s.item X).queue) × ((s.item X).holder ≡ some h)) ⊎ (u ≡ T) → WaitEdge R s.item u b ⊎ (u ≡ T)
        at-queue q (inr z) = inr z
        at-queue q (inl z) = inl (record { item = X; low = range.0; high = range.1; stands = z.0; held = z.1 ∙ (sym held ∙ q) })

        cases : Dec (X ≡ e.item) → WaitEdge R s.item u b ⊎ (u ≡ T)
        cases (yes q) =
            let z : items e.item ≡ i = ap items (sym q) ∙ at_item in
            at-queue (sym (ap (λ (y : Item). y.holder) z) ∙ e.held) (stood u (subst (λ (y : Item). 1 ≤ occurs u y.queue) z e.stands))
        cases (no q) =
            let z : items e.item ≡ s.item e.item = updated-other s.item X i e.item q in
            inl (record {
              item = e.item;
              low = e.low;
              high = e.high;
              stands = subst (λ (y : Item). 1 ≤ occurs u y.queue) z e.stands;
              held = sym (ap (λ (y : Item). y.holder) z) ∙ e.held;
            })

    abbrev after : State
    after = after_item s X a.probes o

    joined : Probing R after
    unfolding after_item
    joined = record {
      from = T;
      mail = every_append (every_map at-probe a.all-probes) (every-fromItem X (every_map (λ p z. (z, there)) single.1));
      few = omega (
        arith,
        length-append a.probes (from_item X o.sends),
        length-sum (from_item X o.sends),
        sum-from_item (λ _. 1) X o.sends,
        single.0,
        a.few,
      );
      no_victim = a.no_victim;
      one-cycle = cycle_through T edge-split a.has_no_cycle;
    }
      where
        there : HeldFrom R after T X
        there = record { holder = h; held = ap (λ (y : Item). y.holder) at_item ∙ held; walk = leads-on leads }

        at-probe : (e : Entry) → ProbeFrom T X e → Single e.message × HeldFrom R after T e.item
        at-probe _ probe_from = (single_probe, there)

  granted_or_queued : (o : Option ℕ) → (s.item X).holder ≡ o → Probing R (after_item s X a.probes (grant_or_queue R T (s.item X).queue o))
  unfolding grant_or_queue FreeIsEmpty occurs
  granted_or_queued none e =
      joined (grant_or_queue R T (s.item X).queue none) T refl (one_single T (down grant) single_grant)
      (λ b w. absurd (omega (arith, w, ap (occurs b) (k.core.idle X e)))) (inl refl)
  granted_or_queued (some h) e =
      joined (grant_or_queue R T (s.item X).queue (some h)) h refl
      (by-test OneSingle (R.senior T h) (λ _. one_single h (probe T h) single_probe) (λ _. no_single))
      (λ b w. cases b w (same? T b)) (inr (omega (arith, occurs-last-same T (s.item X).queue)))
    where
      cases : (b : ℕ) → 1 ≤ occurs b ((s.item X).queue ++ T ∷ []) → Dec (T ≡ b) → ((1 ≤ occurs b (s.item X).queue) × ((s.item X).holder ≡ some h)) ⊎ (b ≡ T)
      cases b w (yes q) = inr (sym q)
      cases b w (no q) = inl (omega (arith, w, occurs-last-other b T (s.item X).queue q), e)

  pub request-done : Phase R (after_item s X a.probes (item_receives R T (s.item X) (up request)))
  unfolding item_receives on_request
  request-done =
      by-test (λ (o : ItemStep). Phase R (after_item s X a.probes o)) (held_by (s.item X).holder T || member T (s.item X).queue)
      (λ q. absurd (omega (arith, not_there.queued, not_there.holder, bit_or (held_by (s.item X).holder T) (member T (s.item X).queue) q, bit-member T (s.item X).queue)))
      (λ _. probing (granted_or_queued (s.item X).holder refl))
