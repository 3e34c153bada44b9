-- Every admitted call keeps the link invariant.
use mathlib.Core.Path.{◌≡◌, refl, sym}
use mathlib.Core.Bool.{◌&&◌, false, true}
use mathlib.Core.List.{[], ◌++◌, ◌∷◌, append-nil, List}
use mathlib.Core.Logic.{◌≢◌}
use Prim.Native.Nat.{◌≤◌, ℕ}
use native.Mathlib.Omega.{arith}
use lib.Dec.{leb}
use borrow.Author.Tests.{leb-true}
use Rattle.lists.proofs.Tests.{and_both, same?, within}
use Rattle.deadlock.specs.Lists.{occurs}
use Rattle.deadlock.specs.Machine.{accepted, after_answer, after_item, after_session, Answer, Call, deliver_to_item, deliver_to_session, Entry, held_by, in_range, is_session, item_receives, ItemStep, item_takes, Laws, move, no_entry, of_machine, refused, release_call, reopen, request_call, route, Rules, session_receives, SessionStep, session_takes, start, State, take_first, Taken, taken}
use Rattle.message.specs.Kind
use Rattle.deadlock.specs.Counts.{count_behind, count_kind, sent_to}
use Rattle.deadlock.specs.Links.{Linked, view_of}
use Rattle.deadlock.specs.Invariant.{AllLinked, down_route, pair_view, up_route}
use Rattle.deadlock.proofs.Laws.Lists.{updated-other, updated-same}
use Rattle.deadlock.proofs.Laws.Routes.{apart-direction, apart-item, apart-session, countKind-append, fromItem-other, fromItem-own, fromItem-up, fromSession-down, fromSession-other, fromSession-own, route-append, take-other, take_same}
use Rattle.deadlock.proofs.Links.KeptAtItem.{other-linked, sender-linked}
use Rattle.deadlock.proofs.Links.KeptAtSession.{LinkedAnswer, receives-linked, receives-linked-elsewhere, release-call-linked, request-call-linked}
use Rattle.deadlock.proofs.Links.Unnamed.{reopen-linked}

-- ---- what each pair sees of a step of session t
module _ (s : State) (t : ℕ) (l : List Entry) (o : SessionStep) where
  session-own : (after_session s t l o).session t ≡ o.after
  unfolding after_session
  session-own = updated-same s.session t o.after

  session-other : (t' : ℕ) → t ≢ t' → (after_session s t l o).session t' ≡ s.session t'
  unfolding after_session
  session-other t' ne = updated-other s.session t o.after t' ne

  session-items : (after_session s t l o).item ≡ s.item
  unfolding after_session
  session-items = refl

  pub session-up : (z : ℕ) → up_route (after_session s t l o) t z ≡ route true t z l ++ sent_to z o.sends
  unfolding after_session up_route
  session-up z = rw (route-append, fromSession-own)

  pub session-up-other : (t' z : ℕ) → t' ≢ t → up_route (after_session s t l o) t' z ≡ route true t' z l
  unfolding after_session up_route
  session-up-other t' z ne = rw (route-append, fromSession-other t t' z o.sends ne, append-nil)

  pub session-down : (t' z : ℕ) → down_route (after_session s t l o) t' z ≡ route false t' z l
  unfolding after_session down_route
  session-down t' z = rw (route-append, fromSession-down, append-nil)

module _ (s : State) (x : ℕ) (l : List Entry) (o : ItemStep) where
  item-own : (after_item s x l o).item x ≡ o.after
  unfolding after_item
  item-own = updated-same s.item x o.after

  item-other : (z : ℕ) → x ≢ z → (after_item s x l o).item z ≡ s.item z
  unfolding after_item
  item-other z ne = updated-other s.item x o.after z ne

  item-sessions : (after_item s x l o).session ≡ s.session
  unfolding after_item
  item-sessions = refl

  pub item-down : (t : ℕ) → down_route (after_item s x l o) t x ≡ route false t x l ++ sent_to t o.sends
  unfolding after_item down_route
  item-down t = rw (route-append, fromItem-own)

  pub item-down-other : (t z : ℕ) → z ≢ x → down_route (after_item s x l o) t z ≡ route false t z l
  unfolding after_item down_route
  item-down-other t z ne = rw (route-append, fromItem-other t x z o.sends ne, append-nil)

  pub item-up : (t z : ℕ) → up_route (after_item s x l o) t z ≡ route true t z l
  unfolding after_item up_route
  item-up t z = rw (route-append, fromItem-up, append-nil)

-- ---- the views after a step
module _ (s : State) (t : ℕ) (l : List Entry) (o : SessionStep) where
  view-own-session : (z : ℕ) → pair_view (after_session s t l o) t z ≡ view_of t z o.after (s.item z) (route true t z l ++ sent_to z o.sends) (route false t z l)
  view-own-session z = rw (session-up, session-down, session-own, session-items)

  view-other-session : (t' z : ℕ) → t ≢ t' → pair_view (after_session s t l o) t' z ≡ view_of t' z (s.session t') (s.item z) (route true t' z l) (route false t' z l)
  view-other-session t' z ne = rw (session-up-other s t l o t' z (λ q. ne (sym q)), session-down, session-other s t l o t' ne, session-items)

module _ (s : State) (x : ℕ) (l : List Entry) (o : ItemStep) where
  view-own-item : (t : ℕ) → pair_view (after_item s x l o) t x ≡ view_of t x (s.session t) o.after (route true t x l) (route false t x l ++ sent_to t o.sends)
  view-own-item t = rw (item-up, item-down, item-own, item-sessions)

  view-other-item : (t z : ℕ) → x ≢ z → pair_view (after_item s x l o) t z ≡ view_of t z (s.session t) (s.item z) (route true t z l) (route false t z l)
  view-other-item t z ne = rw (item-up, item-down-other s x l o t z (λ q. ne (sym q)), item-other s x l o z ne, item-sessions)

module _ (R : Rules) (t : ℕ) where
  pub isSession-low : is_session R t ≡ true → 1 ≤ t
  isSession-low e = (within 1 R.S t e).0

  pub isSession-high : is_session R t ≡ true → t ≤ R.S
  isSession-high e = (within 1 R.S t e).1

module _ (R : Rules) (t x : ℕ) where
  pub item-low : in_range R t x ≡ true → 1 ≤ x
  unfolding in_range
  item-low e = leb-true 1 x (and_both (leb 1 x) (leb x R.M) (and_both (leb 1 t && leb t R.S) _ e).1).0

  pub session-low : in_range R t x ≡ true → 1 ≤ t
  unfolding in_range
  session-low e = isSession-low R t (and_both (is_session R t) _ e).0

  pub session-high : in_range R t x ≡ true → t ≤ R.S
  unfolding in_range
  session-high e = isSession-high R t (and_both (is_session R t) _ e).0

  pub item-high : in_range R t x ≡ true → x ≤ R.M
  unfolding in_range
  item-high e = leb-true x R.M (and_both (leb 1 x) (leb x R.M) (and_both (leb 1 t && leb t R.S) _ e).1).1

module _ (R : Rules) (L : Laws R) (s : State) (g : AllLinked R s) where
  -- a call
  linked-answer : (t : ℕ) (a : Answer) → ((z : ℕ) → 1 ≤ z → z ≤ R.M → LinkedAnswer R t z (s.item z) (up_route s t z) (down_route s t z) (s.session t) a)
      → AllLinked R (after_answer R s t a)
  unfolding after_answer up_route down_route
  linked-answer t refused h = g
  linked-answer t (accepted o) h = record { linked = λ t' z lo hi. cases t' z lo hi (same? t t') }
    where
      cases : (t' z : ℕ) → 1 ≤ z → z ≤ R.M → Dec (t ≡ t') → Linked (pair_view (after_session s t s.mailbox o) t' z)
      cases t' z lo hi (yes q) = rw (← q, view-own-session s t s.mailbox o z) (h z lo hi)
      cases t' z lo hi (no q) = rw (view-other-session s t s.mailbox o t' z q) (g.linked t' z lo hi)

  -- a message at an item
  linked-item : (t x : ℕ) → 1 ≤ x → x ≤ R.M → (p : Taken) → take_first true t x s.mailbox ≡ p → AllLinked R (item_takes R s t x p)
  unfolding item_takes up_route down_route
  linked-item t x lo hi no_entry e = g
  linked-item t x lo hi (taken m l) e = record { linked = λ t' z lo' hi'. cases t' z lo' hi' (same? x z) (same? t t') }
    where
      o : ItemStep
      o = item_receives R t (s.item x) m

      same-down : (t' z : ℕ) → route false t' z s.mailbox ≡ route false t' z l
      same-down t' z = take-other true t x false t' z (apart-direction t x t' z true) s.mailbox m l e

      cases : (t' z : ℕ) → 1 ≤ z → z ≤ R.M → Dec (x ≡ z) → Dec (t ≡ t') → Linked (pair_view (after_item s x l o) t' z)
      cases t' z lo' hi' (no q) w =
          rw (view-other-item s x l o t' z q, ← same-down t' z, ← take-other true t x true t' z (apart-item t x t' z true true q) s.mailbox m l e) (g.linked t' z lo' hi')
      cases t' z lo' hi' (yes q) (yes w) =
          rw (← q, ← w, view-own-item s x l o t)
          (sender-linked R L t x (s.session t) (route true t x l) (route false t x l) m (s.item x) (rw (← take_same true t x s.mailbox m l e, ← same-down t x) (g.linked t x lo hi)))
      cases t' z lo' hi' (yes q) (no w) =
          rw (← q, view-own-item s x l o t')
          (other-linked R L t x t' (s.session t') (route true t' x l) (route false t' x l) w m (s.item x)
          (rw (← take-other true t x true t' x (apart-session t x t' x true true w) s.mailbox m l e, ← same-down t' x) (g.linked t' x lo hi)))

  -- a message at a session
  linked-session : (t x : ℕ) → 1 ≤ x → x ≤ R.M → (p : Taken) → take_first false t x s.mailbox ≡ p → AllLinked R (session_takes R s t x p)
  unfolding session_takes up_route down_route
  linked-session t x lo hi no_entry e = g
  linked-session t x lo hi (taken m l) e = record { linked = λ t' z lo' hi'. cases t' z lo' hi' (same? t t') (same? x z) }
    where
      o : SessionStep
      o = session_receives R t x (s.session t) m

      same_up : (t' z : ℕ) → route true t' z s.mailbox ≡ route true t' z l
      same_up t' z = take-other false t x true t' z (apart-direction t x t' z false) s.mailbox m l e

      mine : Linked (view_of t x (s.session t) (s.item x) (route true t x l) (m ∷ route false t x l))
      mine = rw (← take_same false t x s.mailbox m l e, ← same_up t x) (g.linked t x lo hi)

      cases : (t' z : ℕ) → 1 ≤ z → z ≤ R.M → Dec (t ≡ t') → Dec (x ≡ z) → Linked (pair_view (after_session s t l o) t' z)
      cases t' z lo' hi' (no q) w =
          rw (view-other-session s t l o t' z q, ← same_up t' z, ← take-other false t x false t' z (apart-session t x t' z false false q) s.mailbox m l e) (g.linked t' z lo' hi')
      cases t' z lo' hi' (yes q) (yes w) =
          rw (← q, ← w, view-own-session s t l o x) (receives-linked R t x (s.item x) (route true t x l) (route false t x l) m (s.session t) lo hi mine)
      cases t' z lo' hi' (yes q) (no w) =
          rw (← q, view-own-session s t l o z)
          (receives-linked-elsewhere R t z (s.item z) (route true t z l) (route false t z l) x w m (s.session t) lo' hi' (omega (arith, mine.withdrawal, countKind-append Kind.withdrawn (m ∷ []) (route false t x l)))
          (rw (← same_up t z, ← take-other false t x false t z (apart-item t x t z false false w) s.mailbox m l e) (g.linked t z lo' hi')))

  pub linked-move : (c : Call) → of_machine R c ≡ true → AllLinked R (move R s c)
  unfolding move of_machine up_route down_route
  linked-move (request_call t x) e = linked-answer t _ (λ z lo hi. request-call-linked R t z (s.item z) (up_route s t z) (down_route s t z) x (s.session t) (g.linked t z lo hi))
  linked-move (release_call t x) e = linked-answer t _ (λ z lo hi. release-call-linked R t z (s.item z) (up_route s t z) (down_route s t z) x (s.session t) (g.linked t z lo hi))
  linked-move (deliver_to_item t x) e = linked-item t x (item-low R t x e) (item-high R t x e) (take_first true t x s.mailbox) refl
  linked-move (deliver_to_session t x) e = linked-session t x (item-low R t x e) (item-high R t x e) (take_first false t x s.mailbox) refl
  linked-move (reopen t) e = linked-answer t _ (λ z lo hi. reopen-linked R s t z lo hi (g.linked t z lo hi))

module _ (R : Rules) (L : Laws R) where
  pub linked-start : AllLinked R (start R)
  unfolding start up_route down_route route count_kind count_behind held_by occurs
  linked-start = record { linked = λ t x lo hi. omega arith }
