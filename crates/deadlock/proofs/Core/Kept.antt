-- Every admitted call keeps the clauses on links, victims and probes; and a declaration names a standing cycle.
use mathlib.Core.Path.{◌∙◌, ◌≡◌, ap, refl, sym}
use mathlib.Core.Bool.{Bool, cond, false, true, true≢false}
use mathlib.Core.List.{[], ◌++◌, ◌∷◌, List}
use mathlib.Core.Option.{some}
use mathlib.Core.Logic.{◌≢◌, ◌⊎◌, inl, inr}
use Prim.Native.Nat.{◌+◌, ◌≤◌, ℕ}
use native.Mathlib.Omega.{arith}
use lib.Dec.{eqb}
use Rattle.lists.proofs.Tests.{by-test}
use Rattle.deadlock.specs.Lists.{occurs}
use Rattle.deadlock.specs.Machine.{abort, accepted, after_answer, after_item, after_session, Answer, Call, clean, deliver_to_item, deliver_to_session, down, Entry, from_item, from_session, is_on_route, item_drops, item_receives, ItemStep, item_takes, Laws, Message, move, no_entry, of_machine, probe, put_back, rebroadcast, refused, release, release_call, reopen, request, request_call, route, Rules, Sends, session_receives, SessionStep, session_takes, start, State, take_first, Taken, taken, up, withdraw}
use Rattle.message.specs.Kind
use Rattle.deadlock.specs.Counts.{behind-nil, behind_request, clean_of, cleans_of, cleans_sent, EachBehind, every-nil, kind_of, sent_to}
use Rattle.deadlock.specs.World.{FreeIsEmpty, is_victim, is_waiting, Known, Links, Mail, MailCounts, Probes, Queued, TellsUp, Victims, World}
use Rattle.deadlock.specs.Invariant.{cleans_in, Core, down_route, mail_of, up_route, world_of}
use Rattle.deadlock.proofs.Laws.Lists.{zero-or-more}
use Rattle.deadlock.proofs.Laws.Stages.{seen-facts}
use Rattle.deadlock.proofs.Laws.Routes.{Apart, apart-direction, apart-item, apart-session, take-other, take_same}
use Rattle.deadlock.proofs.Links.Kept.{item-down, item-down-other, item-high, item-low, item-up, linked-move, linked-start, session-down, session-up, session-up-other}
use Rattle.deadlock.proofs.Links.EachItemKept.{each-item-move, free-kept}
use Rattle.deadlock.proofs.Laws.Counts.{behind-head, down-kinds}
use Rattle.deadlock.proofs.Probes.PathsStay.{ItemTakes, worldAfterItem}
use Rattle.deadlock.proofs.Probes.KeptByWithdraw.{withdraw-probes}
use Rattle.deadlock.proofs.Probes.KeptAtItem.{clean-probes, drop-probes, probe-probes, rebroadcast-probes}
use Rattle.deadlock.proofs.Probes.ClosedPath.{declare-cycle, DeclaredCycle}
use Rattle.deadlock.proofs.Victims.KeptAtItem.{clean-victims, drop-victims, probe-victims, rebroadcast-victims}
use Rattle.deadlock.proofs.Victims.KeptByWithdraw.{withdraw-victims}
use Rattle.deadlock.proofs.Core.KeptByRequestAndRelease.{release-item, released-no-victim, request-item}
use Rattle.deadlock.proofs.Probes.OthersStay.{SessionSends, SessionTakes}
use Rattle.deadlock.proofs.Core.KeptAtSession.{CallDone, release-call, request-call, session-heard}
use Rattle.deadlock.proofs.Reopening.{reopen-call}

cleansIn-append : (v : ℕ) (l k : List Entry) → cleans_in v (l ++ k) ≡ cleans_in v l + cleans_in v k
unfolding cleans_in
cleansIn-append v [] k = omega arith
cleansIn-append v (e ∷ l) k = omega (arith, cleansIn-append v l k)

cleansIn-fromSession : (v t : ℕ) (l : Sends) → cleans_in v (from_session t l) ≡ cleans_sent v l
unfolding cleans_in from_session cleans_sent
cleansIn-fromSession v t [] = refl
cleansIn-fromSession v t (p ∷ l) = omega (arith, cleansIn-fromSession v t l)

cleansIn-fromItem : (v x : ℕ) (l : Sends) → cleans_in v (from_item x l) ≡ cleans_sent v l
unfolding cleans_in from_item cleans_sent
cleansIn-fromItem v x [] = refl
cleansIn-fromItem v x (p ∷ l) = omega (arith, cleansIn-fromItem v x l)

cleansIn-take : (v : ℕ) (d : Bool) (t x : ℕ) (l : List Entry) (m : Message) (r : List Entry) → take_first d t x l ≡ taken m r → cleans_in v l ≡ clean_of v m + cleans_in v r
unfolding cleans_in take_first put_back
cleansIn-take v d t x [] m r e = cc
cleansIn-take v d t x (a ∷ l) m r e = cases (is_on_route d t x a) (take_first d t x l) refl (cleansIn-take v d t x l) e
  where
    cases : (b : Bool) (o : Taken) → take_first d t x l ≡ o → ((m : Message) (r : List Entry) → take_first d t x l ≡ taken m r → cleans_in v l ≡ clean_of v m + cleans_in v r)
        → cond b (taken a.message l) (put_back a o) ≡ taken m r → clean_of v a.message + cleans_in v l ≡ clean_of v m + cleans_in v r
    cases true o q ih e = let z : a.message ≡ m = cc in let y : l ≡ r = cc in omega (arith, ap (clean_of v) z, ap (cleans_in v) y)
    cases false no_entry q ih e = let z : ◌≡◌ {A = ℕ} 0 1 = cc in absurd (omega arith)
    cases false (taken m' r') q ih e =
        let z : m' ≡ m = cc in
        let y : a ∷ r' ≡ r = cc in
        omega (arith, ih m' r' q, ap (clean_of v) z, ap (cleans_in v) y)

cleansIn-route : (v : ℕ) (d : Bool) (t x : ℕ) (l : List Entry) → cleans_of v (route d t x l) ≤ cleans_in v l
unfolding cleans_in route cleans_of
cleansIn-route v d t x [] = omega arith
cleansIn-route v d t x (e ∷ l) = by-test (λ (q : List Message). cleans_of v q ≤ clean_of v e.message + cleans_in v l) (is_on_route d t x e) {x = e.message ∷ route d t x l} {y = route d t x l} (λ _. omega (arith, cleansIn-route v d t x l)) (λ _. omega (arith, cleansIn-route v d t x l))

cleansIn-two-routes : (v : ℕ) (d : Bool) (t x : ℕ) (d' : Bool) (t' x' : ℕ) → Apart d t x d' t' x' → (l : List Entry)
    → cleans_of v (route d t x l) + cleans_of v (route d' t' x' l) ≤ cleans_in v l
unfolding cleans_in route cleans_of Apart
cleansIn-two-routes v d t x d' t' x' ap [] = omega arith
cleansIn-two-routes v d t x d' t' x' ap (e ∷ l) = cases (is_on_route d t x e) refl (is_on_route d' t' x' e) refl (cleansIn-two-routes v d t x d' t' x' ap l)
  where
    cases : (b : Bool) → is_on_route d t x e ≡ b → (b' : Bool) → is_on_route d' t' x' e ≡ b' → cleans_of v (route d t x l) + cleans_of v (route d' t' x' l) ≤ cleans_in v l
        → cleans_of v (cond b (e.message ∷ route d t x l) (route d t x l)) + cleans_of v (cond b' (e.message ∷ route d' t' x' l) (route d' t' x' l)) ≤ clean_of v e.message + cleans_in v l
    cases true p true q ih = absurd (true≢false (sym q ∙ ap e p))
    cases true p false q ih = omega arith
    cases false p true q ih = omega arith
    cases false p false q ih = omega arith

module _ (R : Rules) (L : Laws R) (s : State) (k : Core R s) where
  pub mail-counts : MailCounts R (world_of s)
  unfolding up_route down_route
  mail-counts = record {
    up_le = λ v t x. cleansIn-route v true t x s.mailbox;
    down_le = λ v t x. cleansIn-route v false t x s.mailbox;
    up-and-down = λ v t x t' x'. cleansIn-two-routes v true t x false t' x' (apart-direction t x t' x' true) s.mailbox;
    two_downs = λ v t x t' x' ne. cleansIn-two-routes v false t x false t' x' (apart-item t x t' x' false false ne) s.mailbox;
  }

  pub links-of : Links R (world_of s)
  links-of = record { linked = k.links.linked; idle = k.idle }

  pub known_of : Known R (world_of s)
  known_of = record { links = links-of; victims = k.victims; mail = mail-counts }

  -- ---- a message at an item
  module _ (t x : ℕ) (lo : 1 ≤ x) (hi : x ≤ R.M) (mail : Mail) where
    abbrev world_now : World
    world_now = world_of s

    abbrev ItemBoth : Message → ItemStep → Type 0
    ItemBoth m o = ItemTakes world_now t x m o.sends mail → ((v : ℕ) → mail.total v + clean_of v m ≡ world_now.total v + cleans_sent v o.sends) → Probes R (worldAfterItem world_now x o.after mail) × Victims R (worldAfterItem world_now x o.after mail)

    both-dropped : (m : Message) → eqb (kind_of m) Kind.request ≡ false → ((v : ℕ) → clean_of v m ≡ 0) → ItemBoth m (item_drops (s.item x))
    both-dropped m nr z ar ts = (drop-probes L known_of t x lo hi mail m ar nr z k.probes, drop-victims L known_of t x lo hi mail m ar z ts)

    both-item : (m : Message) → ItemBoth m (item_receives R t (s.item x) m)
    unfolding item_receives
    both-item (up request) ar ts = request-item L known_of t x lo hi mail ar ts k.probes
    both-item (up release) ar ts = release-item L known_of t x lo hi mail ar ts k.probes
    both-item (up rebroadcast) ar ts = (rebroadcast-probes L known_of t x lo hi mail ar k.probes, rebroadcast-victims L known_of t x lo hi mail ar ts)
    both-item (up withdraw) ar ts = (withdraw-probes known_of lo hi ar k.probes, withdraw-victims L known_of lo hi ar ts)
    both-item (down m) ar ts = both-dropped (down m) (down-kinds m).no_request (λ _. refl) ar ts
    both-item (probe i j) ar ts = (probe-probes L known_of t x lo hi mail i j ar k.probes, probe-victims L known_of t x lo hi mail i j ar k.probes ts)
    both-item (clean v i) ar ts = (clean-probes L known_of t x lo hi mail v i ar k.probes, clean-victims L known_of t x lo hi mail v i ar ts)
    both-item (abort v i) ar ts = both-dropped (abort v i) refl (λ _. refl) ar ts

  abbrev ProbesAndVictims : State → Type 0
  ProbesAndVictims r = Probes R (world_of r) × Victims R (world_of r)

  pub item-takes : (t x : ℕ) (m : Message) (l : List Entry) → take_first true t x s.mailbox ≡ taken m l → (o : ItemStep)
      → ItemTakes (world_of s) t x m o.sends (mail_of (after_item s x l o))
  unfolding up_route down_route
  item-takes t x m l e o = record {
    head = take_same true t x s.mailbox m l e ∙ ap (λ (q : List Message). m ∷ q) (sym (item-up s x l o t x));
    up-off = λ a z ne. item-up s x l o a z ∙ sym (take-other true t x true a z (off a z ne) s.mailbox m l e);
    down-at = λ a. item-down s x l o a ∙ ap (λ (q : List Message). q ++ sent_to a o.sends) (sym (take-other true t x false a x (apart-direction t x a x true) s.mailbox m l e));
    down-off = λ a z ne. item-down-other s x l o a z (λ q. ne (sym q)) ∙ sym (take-other true t x false a z (apart-direction t x a z true) s.mailbox m l e);
  }
    where
      off : (a z : ℕ) → (t ≢ a) ⊎ (x ≢ z) → Apart true t x true a z
      off a z (inl q) = apart-session t x a z true true q
      off a z (inr q) = apart-item t x a z true true q

  -- whoever stands in the queue of an item that is released waits
  pub released-waits : (t x : ℕ) → 1 ≤ x → x ≤ R.M → (l : List Entry) → take_first true t x s.mailbox ≡ taken (up release) l
      → (a : ℕ) → Queued (world_of s) a x → 1 ≤ is_waiting (s.session a).stage
  released-waits t x lo hi l e a stands =
      let o = item_receives R t (s.item x) (up release) in
      let takes = item-takes t x (up release) l e o in
      elim (zero-or-more (is_victim (s.session a).stage)) [
        | inl z ↦ omega (arith, z, stands, (k.links.linked a x lo hi).one_place, seen-facts (s.session a).stage x)
        | inr z ↦ absurd (released-no-victim L known_of t x lo hi (mail_of (after_item s x l o)) _ takes.head (s.item x) (λ b. omega arith) takes a stands z)
      ]

  both-after-item : (t x : ℕ) → 1 ≤ x → x ≤ R.M → (p : Taken) → take_first true t x s.mailbox ≡ p → ProbesAndVictims (item_takes R s t x p)
  unfolding item_takes after_item
  both-after-item t x lo hi no_entry e = (k.probes, k.victims)
  both-after-item t x lo hi (taken m l) e =
      let o = item_receives R t (s.item x) m in
      both-item t x lo hi (mail_of (after_item s x l o)) m (item-takes t x m l e o)
      (λ v. omega (arith, cleansIn-append v l (from_item x o.sends), cleansIn-fromItem v x o.sends, cleansIn-take v true t x s.mailbox m l e))

  -- ---- a message at a session, and its calls
  pub session-sends : (t : ℕ) (l : List Entry) (o : SessionStep) → ((z : ℕ) → route true t z l ≡ up_route s t z)
      → ((a z : ℕ) → t ≢ a → (route true a z l ≡ up_route s a z) × (route false a z l ≡ down_route s a z))
      → SessionSends (world_of s) t o.sends (mail_of (after_session s t l o))
  session-sends t l o f g = record {
    up_at = λ z. session-up s t l o z ∙ ap (λ (q : List Message). q ++ sent_to z o.sends) (f z);
    up-off = λ a z ne. session-up-other s t l o a z (λ q. ne (sym q)) ∙ (g a z ne).0;
    down-off = λ a z ne. session-down s t l o a z ∙ (g a z ne).1;
  }

  -- what a delivery to a session does to the messages on their way
  pub delivered : (t x : ℕ) (m : Message) (l : List Entry) → take_first false t x s.mailbox ≡ taken m l → (o : SessionStep)
      → SessionSends (world_of s) t o.sends (mail_of (after_session s t l o)) × SessionTakes (world_of s) t x m (mail_of (after_session s t l o))
  unfolding up_route down_route
  delivered t x m l e o = (
    session-sends t l o (λ z. sym (take-other false t x true t z (apart-direction t x t z false) s.mailbox m l e))
        (λ a z ne. (
          sym (take-other false t x true a z (apart-direction t x a z false) s.mailbox m l e),
          sym (take-other false t x false a z (apart-session t x a z false false ne) s.mailbox m l e),
        )),
    record {
      head = take_same false t x s.mailbox m l e ∙ ap (λ (q : List Message). m ∷ q) (sym (session-down s t l o t x));
      down-else = λ z ne. session-down s t l o t z ∙ sym (take-other false t x false t z (apart-item t x t z false false ne) s.mailbox m l e);
    },
  )

  both-after-session : (t x : ℕ) → 1 ≤ x → x ≤ R.M → (p : Taken) → take_first false t x s.mailbox ≡ p → ProbesAndVictims (session_takes R s t x p)
  unfolding session_takes after_session up_route down_route
  both-after-session t x lo hi no_entry e = (k.probes, k.victims)
  both-after-session t x lo hi (taken m l) e =
      let o = session_receives R t x (s.session t) m in
      session-heard L known_of t (mail_of (after_session s t l o)) x lo hi m
      (delivered t x m l e o).0 (delivered t x m l e o).1
      (λ v. omega (arith, cleansIn-append v l (from_session t o.sends), cleansIn-fromSession v t o.sends, cleansIn-take v false t x s.mailbox m l e))
      k.probes

  both-after-call : (t : ℕ) (a : Answer) → CallDone L known_of t (mail_of (after_answer R s t a)) a → ProbesAndVictims (after_answer R s t a)
  unfolding after_answer after_session up_route down_route
  both-after-call t refused h = (k.probes, k.victims)
  both-after-call t (accepted o) h = h (session-sends t s.mailbox o (λ z. refl) (λ a z ne. (refl, refl))) (λ z. session-down s t s.mailbox o t z)
      (λ v. omega (arith, cleansIn-append v s.mailbox (from_session t o.sends), cleansIn-fromSession v t o.sends)) k.probes

  both-after-move : (c : Call) → of_machine R c ≡ true → ProbesAndVictims (move R s c)
  unfolding move of_machine
  both-after-move (request_call t x) e = both-after-call t _ (request-call L known_of t _ x (s.session t).stage refl)
  both-after-move (release_call t x) e = both-after-call t _ (release-call L known_of t _ x (s.session t).stage refl)
  both-after-move (deliver_to_item t x) e = both-after-item t x (item-low R t x e) (item-high R t x e) (take_first true t x s.mailbox) refl
  both-after-move (deliver_to_session t x) e = both-after-session t x (item-low R t x e) (item-high R t x e) (take_first false t x s.mailbox) refl
  both-after-move (reopen t) e = both-after-call t _ (reopen-call L s known_of t _)

  pub core-move : (c : Call) → of_machine R c ≡ true → Core R (move R s c)
  core-move c e =
      let z = both-after-move c e in
      record { links = linked-move R L s k.links c e; idle = each-item-move R FreeIsEmpty (free-kept R) s c e k.idle; victims = z.1; probes = z.0 }

  -- ---- a declaration is true
  pub declaration-true : (t x i j : ℕ) (l : List Entry) → 1 ≤ x → x ≤ R.M → take_first true t x s.mailbox ≡ taken (probe i j) l
      → 1 ≤ occurs t (s.item x).queue → (s.item x).holder ≡ some i → DeclaredCycle L links-of i j
  unfolding up_route
  declaration-true t x i j l lo hi e m h =
      let c = m in
      let tl : EachBehind (TellsUp R (world_of s) t) (route true t x s.mailbox) = k.probes.up-true t x lo hi c in
      let hd : EachBehind (TellsUp R (world_of s) t) (probe i j ∷ route true t x l) = rw (take_same true t x s.mailbox (probe i j) l e) at tl in
      declare-cycle L links-of (behind-head hd) (record { item = x; low = lo; high = hi; stands = c; held = h })

module _ (R : Rules) (L : Laws R) where
  pub core-start : Core R (start R)
  unfolding start up_route down_route route FreeIsEmpty behind_request cleans_of occurs cleans_in
  core-start = record {
    links = linked-start R L;
    idle = λ x e. refl;
    victims = record {
      one-clean = λ v. refl;
      victim-on-cycle = λ v h s. absurd (omega arith);
      victim-waits = λ v s. absurd (omega arith);
      clean-up-on-cycle = λ v t x p. absurd (omega arith);
      clean-down-on-cycle = λ v t x p. absurd (omega arith);
      aborts = λ t x. every-nil;
      no_request = λ v x lo hi s. absurd (omega arith);
      clean-behind-probes = λ v x lo hi s. absurd (omega arith);
    };
    probes = record { stored-true = λ t l i ne. absurd (ne refl); up-true = λ t x lo hi p. absurd (omega arith); up-true-behind-request = λ t x lo hi. behind-nil; down-true = λ t x l. behind-nil };
  }
