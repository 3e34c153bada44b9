-- The link invariant through one message at an item: for the pair of the sender, and for the pair of any other session.
use mathlib.Core.Path.{◌∙◌, ◌≡◌, ap, refl, sym}
use mathlib.Core.Bool.{◌||◌, Bool, cond, false, true}
use mathlib.Core.List.{[], ◌++◌, ◌∷◌, List}
use mathlib.Core.Option.{none, Option, some}
use mathlib.Core.Logic.{◌≢◌}
use Prim.Native.Nat.{◌≤◌, ℕ}
use native.Mathlib.Omega.{arith}
use borrow.Author.Tests.{eqb-true, ne_eqb}
use Rattle.lists.specs.Lists.{member}
use Rattle.lists.proofs.Tests.{by-test, eqb_self, same?}
use Rattle.deadlock.specs.Lists.{bit, occurs, without}
use Rattle.item.specs.declared.Event.TheVariants.{Nothing}
use Rattle.deadlock.specs.Machine.{abort, clean, down, Downward, grant, grant_or_queue, hand_over, held_by, Item, item_drops, item_receives, ItemStep, Laws, Message, on_release, on_request, probe, rebroadcast, release, request, Rules, Sends, Session, up, withdraw, withdrawn}
use Rattle.message.specs.Kind
use Rattle.deadlock.specs.Counts.{count_behind, count_kind, sent_to}
use Rattle.deadlock.specs.Links.{Linked, view_of}
use Rattle.deadlock.proofs.Laws.Lists.{bit-member, bit_or, member-occurs, occurs-last-other, occurs-last-same, occurs-without-other, occurs-without-same}
use Rattle.deadlock.proofs.Laws.Routes.{countBehind-first, countBehind-le, countBehind-none, countKind-append}
use Rattle.deadlock.proofs.Links.NeutralMessages.{all-neutral-nil, AllNeutral, linked-down, Neutral, neutral-abort, neutral-clean, neutral-nil, neutral-probe, neutral-probesAnew, neutral-rebroadcast, neutral-sends}
use Rattle.deadlock.proofs.Laws.Counts.{down-kinds}
use Rattle.deadlock.proofs.Laws.Stages.{seen-facts}

abbrev item_of : Option ℕ → List ℕ → Item
item_of o l = record { holder = o; queue = l }

module _ (R : Rules) (L : Laws R) (t x : ℕ) (r : Session) (u d : List Message) where
  abbrev pub Before : Message → Item → Type 0
  Before m i = Linked (view_of t x r i (m ∷ u) d)

  abbrev pub After : ItemStep → Type 0
  After o = Linked (view_of t x r o.after u (d ++ sent_to t o.sends))

  -- a neutral message on which the item sends neutral messages
  sender-neutral : (m : Message) → Neutral (m ∷ []) → (i : Item) (out : Sends) → AllNeutral out → Before m i → After (record { after = i; sends = out; event = Nothing })
  sender-neutral m q i out k h =
      linked-down t x r i u d (sent_to t out) (k.neutral-at t)
      (omega (
        arith,
        countKind-append Kind.request (m ∷ []) u,
        countKind-append Kind.release (m ∷ []) u,
        countKind-append Kind.withdraw (m ∷ []) u,
        countBehind-first
            Kind.withdraw Kind.request (m ∷ []) u q.no-withdraw,
      ))

  sender-granted-or-queued : (o : Option ℕ) (l : List ℕ) → Before (up request) (item_of o l) → After (grant_or_queue R t l o)
  unfolding grant_or_queue held_by sent_to count_kind count_behind
  sender-granted-or-queued none l h =
      let s = seen-facts r.stage x in
      let z : count_kind Kind.withdrawn d ≡ 0 = omega arith in
      rw eqb_self (omega (arith, countKind-append Kind.grant d (down grant ∷ []), countKind-append Kind.withdrawn d (down grant ∷ []), countBehind-first Kind.withdrawn Kind.grant d (down grant ∷ []) z))
  sender-granted-or-queued (some k) l h =
      linked-down t x r (item_of (some k) (l ++ t ∷ [])) u d _ (let q : AllNeutral (cond (R.senior t k) ((k, probe t k) ∷ []) []) = search neutral-sends in q.neutral-at t)
      (let s = seen-facts r.stage x in omega (arith, occurs-last-same t l))

  sender-request : (o : Option ℕ) (l : List ℕ) → Before (up request) (item_of o l) → After (on_request R t (item_of o l))
  unfolding on_request sent_to count_kind count_behind
  sender-request o l h =
      by-test After (held_by o t || member t l)
      (λ e. linked-down t x r (item_of o l) u d [] neutral-nil (let s = seen-facts r.stage x in omega (arith, bit_or (held_by o t) (member t l) e, bit-member t l)))
      (λ e. sender-granted-or-queued o l h)

  sender-hands-over : (l : List ℕ) (o : Option ℕ) → held_by o t ≡ true → Before (up release) (item_of o l) → After (hand_over R l)
  unfolding hand_over held_by sent_to count_kind count_behind occurs
  sender-hands-over [] o e h = linked-down t x r (item_of none []) u d [] neutral-nil (let s = seen-facts r.stage x in omega (arith, ap bit e))
  sender-hands-over (a ∷ l) o e h =
      let k = R.next a l in
      let s = seen-facts r.stage x in
      let z : 1 ≤ occurs k (a ∷ l) = member-occurs k (a ∷ l) (L.next-member a l) in
      let ne : k ≢ t = λ q. absurd (omega (arith, ap (λ (y : ℕ). occurs y (a ∷ l)) q)) in
      rw (ne_eqb t k (λ q. ne (sym q))) (linked-down t x r (item_of (some k) (without k (a ∷ l))) u d _ ((neutral-probesAnew R _ _ _).neutral-at t) (rw (ne_eqb k t ne) (omega (arith, occurs-without-other t k (a ∷ l) ne, ap bit e))))

  sender-release : (o : Option ℕ) (l : List ℕ) → Before (up release) (item_of o l) → After (on_release R t (item_of o l))
  unfolding on_release sent_to count_kind count_behind
  sender-release o l h =
      by-test After (held_by o t)
      (λ e. sender-hands-over l o e h)
      (λ e. absurd (omega (arith, ap bit e)))

  sender-withdraw : (o : Option ℕ) (l : List ℕ) → Before (up withdraw) (item_of o l) → After (item_receives R t (item_of o l) (up withdraw))
  unfolding item_receives sent_to count_kind count_behind
  sender-withdraw o l h =
      let s = seen-facts r.stage x in
      rw eqb_self (omega (
        arith,
        occurs-without-same t l,
        countKind-append Kind.grant d (down withdrawn ∷ []),
        countKind-append Kind.withdrawn d (down withdrawn ∷ []),
        countBehind-none Kind.withdrawn Kind.grant d (down withdrawn ∷ []) refl,
        countBehind-le Kind.withdraw Kind.request u,
      ))

  -- a message that is not for an item
  sender-downward : (m : Downward) (i : Item) → Before (down m) i → After (item_drops i)
  unfolding count_kind count_behind
  sender-downward m i h =
      let k = down-kinds m in
      linked-down t x r i u d _ (all-neutral-nil.neutral-at t)
      (omega (
        arith,
        ap bit k.no_request,
        ap bit k.no-release,
        ap bit k.no-withdraw,
        ap (λ (b : Bool). cond b (count_kind Kind.request u) (count_behind Kind.withdraw Kind.request u)) k.no-withdraw,
      ))

  -- all kinds
  pub sender-linked : (m : Message) (i : Item) → Before m i → After (item_receives R t i m)
  unfolding item_receives count_kind
  sender-linked (up request) i h = sender-request i.holder i.queue h
  sender-linked (up release) i h = sender-release i.holder i.queue h
  sender-linked (up rebroadcast) i h = sender-neutral (up rebroadcast) neutral-rebroadcast i _ (search neutral-sends) h
  sender-linked (up withdraw) i h = sender-withdraw i.holder i.queue h
  sender-linked (down m) i h = sender-downward m i h
  sender-linked (probe a b) i h = sender-neutral (probe a b) (neutral-probe a b) i _ (search neutral-sends) h
  sender-linked (clean a b) i h = sender-neutral (clean a b) (neutral-clean a b) i _ (search neutral-sends) h
  sender-linked (abort a b) i h = sender-neutral (abort a b) (neutral-abort a b) i _ (search neutral-sends) h

-- another session t' at the item that takes the message of t
module _ (R : Rules) (L : Laws R) (t x t' : ℕ) (r' : Session) (u' d' : List Message) (ne : t ≢ t') where
  abbrev pub OtherBefore : Item → Type 0
  OtherBefore i = Linked (view_of t' x r' i u' d')

  abbrev pub OtherAfter : ItemStep → Type 0
  OtherAfter o = Linked (view_of t' x r' o.after u' (d' ++ sent_to t' o.sends))

  other-neutral : (i : Item) (out : Sends) → AllNeutral out → OtherBefore i → OtherAfter (record { after = i; sends = out; event = Nothing })
  other-neutral i out k h = linked-down t' x r' i u' d' (sent_to t' out) (k.neutral-at t') h

  other-granted-or-queued : (o : Option ℕ) (l : List ℕ) → OtherBefore (item_of o l) → OtherAfter (grant_or_queue R t l o)
  unfolding grant_or_queue held_by sent_to
  other-granted-or-queued none l h =
      rw (ne_eqb t' t (λ q. ne (sym q))) (linked-down t' x r' (item_of (some t) l) u' d' [] neutral-nil (rw (ne_eqb t t' ne) h))
  other-granted-or-queued (some k) l h =
      let q : AllNeutral (cond (R.senior t k) ((k, probe t k) ∷ []) []) = search neutral-sends in
      linked-down t' x r' (item_of (some k) (l ++ t ∷ [])) u' d' _ (q.neutral-at t') (rw (occurs-last-other t' t l ne) h)

  other-request : (o : Option ℕ) (l : List ℕ) → OtherBefore (item_of o l) → OtherAfter (on_request R t (item_of o l))
  unfolding on_request
  other-request o l h = by-test OtherAfter (held_by o t || member t l) (λ e. other-neutral (item_of o l) [] all-neutral-nil h) (λ e. other-granted-or-queued o l h)

  not-heldBy : (o : Option ℕ) → held_by o t ≡ true → held_by o t' ≡ false
  unfolding held_by
  not-heldBy none e = refl
  not-heldBy (some k) e = ne_eqb k t' (λ q. ne (sym (eqb-true k t e) ∙ q))

  -- the next holder is t' itself, or some other
  other-next-holder : (k : ℕ) (l : List ℕ) (o : Option ℕ) (out : Sends) → AllNeutral out → 1 ≤ occurs k l → held_by o t ≡ true → Dec (k ≡ t') → OtherBefore (item_of o l)
      → OtherAfter (record { after = item_of (some k) (without k l); sends = (k, down grant) ∷ out; event = Nothing })
  unfolding held_by sent_to count_kind count_behind
  other-next-holder k l o out mu z e (yes q) h =
      let s = seen-facts r'.stage x in
      let f = not-heldBy o e in
      let m = mu.neutral-at t' in
      let w : occurs k l ≡ occurs t' l = ap (λ (y : ℕ). occurs y l) q in
      let z' : count_kind Kind.withdrawn d' ≡ 0 = omega arith in
      rw (q, eqb_self) (omega (
        arith,
        ap bit f,
        occurs-without-same t' l,
        countKind-append Kind.grant d' (down grant ∷ sent_to t' out),
        countKind-append Kind.withdrawn d' (down grant ∷ sent_to t' out),
        countBehind-first Kind.withdrawn Kind.grant d' (down grant ∷ sent_to t' out) z',
        countBehind-le Kind.withdrawn Kind.grant (sent_to t' out),
      ))
  other-next-holder k l o out mu z e (no q) h =
      rw (ne_eqb t' k (λ p. q (sym p))) (linked-down t' x r' (item_of (some k) (without k l)) u' d' _ (mu.neutral-at t') (rw (ne_eqb k t' q) (omega (arith, occurs-without-other t' k l q, ap bit (not-heldBy o e)))))

  other-hands-over : (l : List ℕ) (o : Option ℕ) → held_by o t ≡ true → OtherBefore (item_of o l) → OtherAfter (hand_over R l)
  unfolding hand_over sent_to held_by
  other-hands-over [] o e h = linked-down t' x r' (item_of none []) u' d' [] neutral-nil (omega (arith, ap bit (not-heldBy o e)))
  other-hands-over (a ∷ l) o e h =
      let k = R.next a l in
      other-next-holder k (a ∷ l) o _ (neutral-probesAnew R _ _ _) (member-occurs k (a ∷ l) (L.next-member a l)) e (same? k t') h

  other-release : (o : Option ℕ) (l : List ℕ) → OtherBefore (item_of o l) → OtherAfter (on_release R t (item_of o l))
  unfolding on_release
  other-release o l h = by-test OtherAfter (held_by o t) (λ e. other-hands-over l o e h) (λ e. other-neutral (item_of o l) [] all-neutral-nil h)

  other-withdraw : (o : Option ℕ) (l : List ℕ) → OtherBefore (item_of o l) → OtherAfter (item_receives R t (item_of o l) (up withdraw))
  unfolding item_receives sent_to
  other-withdraw o l h = rw (ne_eqb t' t (λ q. ne (sym q))) (linked-down t' x r' (item_of o (without t l)) u' d' [] neutral-nil (rw (occurs-without-other t' t l ne) h))

  pub other-linked : (m : Message) (i : Item) → OtherBefore i → OtherAfter (item_receives R t i m)
  unfolding item_receives
  other-linked (up request) i h = other-request i.holder i.queue h
  other-linked (up release) i h = other-release i.holder i.queue h
  other-linked (up rebroadcast) i h = other-neutral i _ (search neutral-sends) h
  other-linked (up withdraw) i h = other-withdraw i.holder i.queue h
  other-linked (down m) i h = other-neutral i _ (search neutral-sends) h
  other-linked (probe a b) i h = other-neutral i _ (search neutral-sends) h
  other-linked (clean a b) i h = other-neutral i _ (search neutral-sends) h
  other-linked (abort a b) i h = other-neutral i _ (search neutral-sends) h
