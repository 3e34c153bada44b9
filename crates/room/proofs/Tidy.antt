-- No session is told of its own probe, no probe comes before the grant, and whatever is awaited is an item of the machine: so it begins, and every admitted call keeps it.
use mathlib.Core.Path.{◌∙◌, ◌≡◌, ap, refl, sym}
use mathlib.Core.Bool.{◌||◌, Bool, cond, false, true, true≢false}
use mathlib.Core.List.{[], ◌++◌, ◌∷◌, List}
use mathlib.Core.Option.{none, Option, some}
use mathlib.Core.Logic.{◌≢◌, ◌⊎◌, inl, inr}
use Prim.Native.Nat.{◌≤◌, ℕ}
use native.Mathlib.Omega.{arith}
use lib.Dec.{eqb}
use borrow.Author.Tests.{eq-eqb, eqb-false, eqb-true, ne_eqb}
use Rattle.lists.specs.Lists.{member}
use Rattle.lists.proofs.Tests.{by-test, same?}
use Rattle.deadlock.specs.Lists.{bit, updated, without}
use Rattle.deadlock.specs.Machine.{abort, accepted, after_answer, after_item, after_session, Answer, Call, clean, cleaning, cleared, deliver_to_item, deliver_to_session, down, Entry, grant, grant_or_queue, growing, hand_over, held_by, in_queue, is_live, is_news, item_receives, ItemStep, item_takes, junior, Laws, may_reopen, Message, move, no_entry, of_machine, on_abort, on_clean, on_grant, on_probe, on_rebroadcast, on_release, on_release_call, on_reopen_call, on_request, on_request_call, on_resend, on_withdrawn, pass_clean, pass_probe, probe, probes_anew, rebroadcast, refused, release, release_call, release_held, releasing, reopen, request, request_call, resend, route, Rules, Sends, Session, session_receives, SessionStep, session_takes, Stage, start, State, store_probe, take_first, taken, Taken, up, victim, waiting, withdraw, withdrawing, withdrawn}
use Rattle.message.specs.Kind
use Rattle.deadlock.specs.Counts.{behind-cons, behind-nil, count_behind, count_kind, EachBehind, every-cons, every-nil, kind_of, OfProbe, probe_of, probes_by, sent_to}
use Rattle.deadlock.specs.Links.{awaits}
use Rattle.deadlock.specs.World.{HolderIs, is_waiting, Queued, TellsDown, World}
use Rattle.deadlock.specs.Invariant.{down_route, Invariant, mail_of, up_route, world_of}
use Rattle.deadlock.proofs.Laws.Lists.{bit-eqb, bit-one, by-updated, member-occurs, updated-other}
use Rattle.deadlock.proofs.Laws.Counts.{every_append, ofProbe-map}
use Rattle.deadlock.proofs.Laws.Routes.{apart-item, apart-session, countBehind-first, countBehind-le, countBehind-none, take-other, take_same}
use Rattle.deadlock.proofs.Laws.Stages.{by-release, stage-facts}
use Rattle.deadlock.proofs.Coverage.Sums.{probesBy-append}
use Rattle.deadlock.proofs.Links.Kept.{item-high, item-low, session-down}
use Rattle.deadlock.proofs.Core.Kept.{item-takes, known_of, released-waits}
use Rattle.deadlock.proofs.Core.KeptByRequestAndRelease.{release-holder, release-no-edge, request-is-waiting}
use Rattle.room.specs.Phases.{Tidy}
use Rattle.room.proofs.Sending.{every-probes_to, every-resends, Sent}

pub tidy-start : (R : Rules) → Tidy R (start R)
unfolding start down_route route probes_by count_behind
tidy-start R = record { own-stored = λ t. refl; own-sent = λ t x. refl; grant-first = λ t x. refl; awaited = λ t x h. absurd (omega arith) }

-- ---- messages on their way to session a
-- no probe of its own, and no grant behind a probe
abbrev TidyRoute : ℕ → List Message → Type 0
TidyRoute a q = (probes_by a q ≡ 0) × (count_behind Kind.probe Kind.grant q ≡ 0)

-- the tail of a route
tail-tidy : (a : ℕ) (m : Message) (q : List Message) → TidyRoute a (m ∷ q) → TidyRoute a q
unfolding probes_by count_behind
tail-tidy a m q (z, y) = (omega arith, rest (eqb (kind_of m) Kind.probe) y)
  where
    rest : (b : Bool) → cond b (count_kind Kind.grant q) (count_behind Kind.probe Kind.grant q) ≡ 0 → count_behind Kind.probe Kind.grant q ≡ 0
    rest true e = omega (arith, countBehind-le Kind.probe Kind.grant q)
    rest false e = e

-- no grant, and no probe of the receiver's own
abbrev Plain : ℕ → Message → Type 0
Plain a m = (probe_of a m ≡ 0) × (eqb (kind_of m) Kind.grant ≡ false)

plain-probe : (a i j : ℕ) → i ≢ a → Plain a (probe i j)
plain-probe a i j ne = (ap bit (ne_eqb i a ne), refl)

plain-sent_to : (a : ℕ) {l : Sends} → Sent Plain l → (probes_by a (sent_to a l) ≡ 0) × (count_kind Kind.grant (sent_to a l) ≡ 0)
unfolding sent_to probes_by count_kind
plain-sent_to a every-nil = (refl, refl)
plain-sent_to a (every-cons {a = p} {l = l} h r) =
    let ih = plain-sent_to a r in
    by-test (λ (q : List Message). (probes_by a q ≡ 0) × (count_kind Kind.grant q ≡ 0)) (eqb a p.0) {x = p.1 ∷ sent_to a l} {y = sent_to a l}
    (λ e. let q = eqb-true a p.0 e in (omega (arith, ih.0, h.0, ap (λ (b : ℕ). probe_of b p.1) q), omega (arith, ih.1, ap bit h.1))) (λ _. ih)

-- p is sent behind q: no probe of a's own; and no grant, unless no probe is in q, nor before the grant
abbrev TidySent : List Message → ℕ → List Message → Type 0
TidySent q a p = (probes_by a p ≡ 0) × ((count_kind Kind.grant p ≡ 0) ⊎ ((count_kind Kind.probe q ≡ 0) × (count_behind Kind.probe Kind.grant p ≡ 0)))

-- behind what is on its way to a
appended : (q p : List Message) (a : ℕ) → TidyRoute a q → TidySent q a p → TidyRoute a (q ++ p)
appended q p a (z, y) (h, inl no_grant) = (omega (arith, probesBy-append a q p), omega (arith, countBehind-none Kind.probe Kind.grant q p no_grant))
appended q p a (z, y) (h, inr (free, first)) = (omega (arith, probesBy-append a q p), omega (arith, countBehind-first Kind.probe Kind.grant q p free))

-- ---- probes on their way to a session
not-probe : (m : Message) → OfProbe (λ _ _. ⊥) m → eqb (kind_of m) Kind.probe ≡ false
not-probe (up request) c = refl
not-probe (up release) c = refl
not-probe (up rebroadcast) c = refl
not-probe (up withdraw) c = refl
not-probe (down grant) c = refl
not-probe (down resend) c = refl
not-probe (down withdrawn) c = refl
not-probe (probe i j) c = absurd c
not-probe (clean v i) c = refl
not-probe (abort v i) c = refl

-- a session that does not hold the item is told of no probe there
no_probe : (R : Rules) (w : World) (t x : ℕ) {q : List Message} → EachBehind (TellsDown R w t x) q → (HolderIs w x t → ⊥) → count_kind Kind.probe q ≡ 0
unfolding count_kind
no_probe R w t x behind-nil h = refl
no_probe R w t x (behind-cons {m} c r) h = omega (arith, ap bit (not-probe m (ofProbe-map (λ i j came. h came.held) m c)), no_probe R w t x r h)

-- ---- an item
module _ (R : Rules) (L : Laws R) (s : State) (k : Invariant R s) where
  waiting_no_probe : (t x : ℕ) → 1 ≤ is_waiting (s.session t).stage → (HolderIs (world_of s) x t → ⊥) → count_kind Kind.probe (down_route s t x) ≡ 0
  waiting_no_probe t x wait h =
      no_probe R (world_of s) t x (k.core.probes.down-true t x (bit-one _ (omega (arith, wait, stage-facts (s.session t).stage)))) h

  module _ (t x : ℕ) (lo : 1 ≤ x) (hi : x ≤ R.M) where
    abbrev TidySends : Sends → Type 0
    TidySends out = (a : ℕ) → TidySent (down_route s a x) a (sent_to a out)

    plain : {out : Sends} → Sent Plain out → TidySends out
    plain h a = let p = plain-sent_to a h in (p.0, inl p.1)

    -- a grant to n, where no probe is on its way
    granted : (n : ℕ) {out : Sends} → count_kind Kind.probe (down_route s n x) ≡ 0 → Sent Plain out → TidySends ((n, down grant) ∷ out)
    unfolding sent_to probes_by count_behind
    granted n {out} z h a =
        let p = plain-sent_to a h in
        by-test (TidySent (down_route s a x) a) (eqb a n)
        (λ e. (omega (arith, p.0), inr (rw (eqb-true a n e) z, omega (arith, p.1, countBehind-le Kind.probe Kind.grant (sent_to a out)))))
        (λ _. (p.0, inl p.1))

    senior-plain : (a h : ℕ) → R.senior a h ≡ true → Plain h (probe a h)
    senior-plain a h e = plain-probe h a h (λ q. true≢false (sym e ∙ ap (λ (b : ℕ). R.senior b h) q ∙ L.irreflexive h))

    anew : (h : ℕ) (l m : List ℕ) → Sent Plain (probes_anew R h l m)
    unfolding probes_anew
    anew h l m = every_append (every-probes_to Plain R h l (λ a e. senior-plain a h e)) (every-resends Plain m (λ a. (refl, refl)))

    head : (m : Message) (l : List Entry) → take_first true t x s.mailbox ≡ taken m l → up_route s t x ≡ m ∷ route true t x l
    unfolding up_route
    head m l e = take_same true t x s.mailbox m l e

    requested : (l : List Entry) → take_first true t x s.mailbox ≡ taken (up request) l → (o : Option ℕ) → (s.item x).holder ≡ o
        → TidySends (grant_or_queue R t (s.item x).queue o).sends
    unfolding grant_or_queue
    requested l e none q =
        granted t (waiting_no_probe t x (request-is-waiting L (known_of R L s k.core) t x lo hi (mail_of s) (route true t x l) (head (up request) l e))
        (λ h. let z : ◌≡◌ {A = ℕ} 0 1 = cc in absurd (omega arith))) every-nil
    requested l e (some h) q = by-test TidySends (R.senior t h) (λ z. plain (every-cons (senior-plain t h z) every-nil)) (λ _. plain every-nil)

    -- whoever stands in the queue of an item that is released waits, and is told of no probe there
    next_no_probe : (l : List Entry) → take_first true t x s.mailbox ≡ taken (up release) l → (n : ℕ) → Queued (world_of s) n x → count_kind Kind.probe (down_route s n x) ≡ 0
    next_no_probe l e n stands =
        let known = known_of R L s k.core in
        let hd = head (up release) l e in
        let holds : HolderIs (world_of s) x t = release-holder L known t x lo hi (mail_of s) (route true t x l) hd in
        waiting_no_probe n x (released-waits R L s k.core t x lo hi l e n stands)
        (λ h. release-no-edge L known t x lo hi (mail_of s) (route true t x l) hd t
        (record { item = x; low = lo; high = hi; stands = (let q : t ≡ n = cc in rw q stands); held = holds }))

    released : (l : List Entry) → take_first true t x s.mailbox ≡ taken (up release) l → (q : List ℕ) → (s.item x).queue ≡ q → TidySends (hand_over R q).sends
    unfolding hand_over
    released l e [] q = plain every-nil
    released l e (b ∷ bs) q =
        let n = R.next b bs in
        granted n (next_no_probe l e n (rw q (member-occurs n (b ∷ bs) (L.next-member b bs)))) (anew n (without n (b ∷ bs)) (without n (b ∷ bs)))

    rebroadcasted : (l : List ℕ) (o : Option ℕ) → TidySends (on_rebroadcast R l o)
    unfolding on_rebroadcast
    rebroadcasted l none = plain every-nil
    rebroadcasted l (some h) = plain (anew h l l)

    probed : (i j : ℕ) (o : Option ℕ) → TidySends (pass_probe R i j o)
    unfolding pass_probe
    probed i j none = plain every-nil
    probed i j (some h) =
        by-test TidySends (R.senior h i) (λ _. plain every-nil) (λ _. by-test TidySends (eqb h i)
        (λ _. plain (every-cons (refl, refl) every-nil)) (λ e. plain (every-cons (plain-probe h i j (λ q. eqb-false h i e (sym q))) every-nil)))

    cleaned : (v i : ℕ) (l : List ℕ) (o : Option ℕ) → TidySends (pass_clean R t v i l o)
    unfolding pass_clean
    cleaned v i l none = plain every-nil
    cleaned v i l (some h) = plain (every-cons (refl, refl) (anew h l (without t l)))

    item-sends : (m : Message) (l : List Entry) → take_first true t x s.mailbox ≡ taken m l → TidySends (item_receives R t (s.item x) m).sends
    unfolding item_receives on_request on_release
    item-sends (up request) l e = by-test (λ (o : ItemStep). TidySends o.sends) (held_by (s.item x).holder t || member t (s.item x).queue) (λ _. plain every-nil) (λ _. requested l e (s.item x).holder refl)
    item-sends (up release) l e = by-test (λ (o : ItemStep). TidySends o.sends) (held_by (s.item x).holder t) (λ _. released l e (s.item x).queue refl) (λ _. plain every-nil)
    item-sends (up rebroadcast) l e = rebroadcasted (s.item x).queue (s.item x).holder
    item-sends (up withdraw) l e = plain (every-cons (refl, refl) every-nil)
    item-sends (down m) l e = plain every-nil
    item-sends (probe i j) l e = by-test TidySends (in_queue R t (s.item x)) (λ _. probed i j (s.item x).holder) (λ _. plain every-nil)
    item-sends (clean v i) l e = cleaned v i (s.item x).queue (s.item x).holder
    item-sends (abort v i) l e = plain every-nil

  item-tidy : Tidy R s → (t x : ℕ) → 1 ≤ x → x ≤ R.M → (o : Taken) → take_first true t x s.mailbox ≡ o → Tidy R (item_takes R s t x o)
  unfolding item_takes after_item
  item-tidy d t x lo hi no_entry e = d
  item-tidy d t x lo hi (taken m l) e = record {
    own-stored = d.own-stored;
    own-sent = λ a z. (routes a z).0;
    grant-first = λ a z. (routes a z).1;
    awaited = d.awaited;
  }
    where
      o : ItemStep
      o = item_receives R t (s.item x) m

      routes : (a z : ℕ) → TidyRoute a (down_route (after_item s x l o) a z)
      routes a z =
          let ar = item-takes R L s k.core t x m l e o in
          elim (same? x z) [
            | yes q ↦ rw (← q, ar.down-at a) (appended (down_route s a x) (sent_to a o.sends) a (d.own-sent a x, d.grant-first a x) (item-sends t x lo hi m l e a))
            | no q ↦ rw (ar.down-off a z q) (d.own-sent a z, d.grant-first a z)
          ]

-- ---- a session
module _ (R : Rules) (s : State) (d : Tidy R s) where
  -- it stores no probe of its own, and awaits an item of the machine
  abbrev TidySession : ℕ → Session → Type 0
  TidySession t r = (r.stored t ≡ 0) × ((z : ℕ) → 1 ≤ awaits r.stage z → (1 ≤ z) × (z ≤ R.M))

  session-tidy : (t : ℕ) (l : List Entry) (o : SessionStep) → TidySession t o.after → ((a z : ℕ) → TidyRoute a (route false a z l)) → Tidy R (after_session s t l o)
  unfolding after_session
  session-tidy t l o h routes = record {
    own-stored = λ u. (each u).0;
    own-sent = λ a z. rw (session-down s t l o a z) (routes a z).0;
    grant-first = λ a z. rw (session-down s t l o a z) (routes a z).1;
    awaited = λ u. (each u).1;
  }
    where
      each : (u : ℕ) → TidySession u (updated s.session t o.after u)
      each = by-updated TidySession s.session t o.after h (λ u _. (d.own-stored u, d.awaited u))

  module _ (t : ℕ) where
    abbrev own : Session
    own = s.session t

    unchanged : TidySession t own
    unchanged = (d.own-stored t, d.awaited t)

    -- whoever awaits no more than before
    awaits-still : (a : Stage) → ((z : ℕ) → awaits a z ≤ awaits own.stage z) → (z : ℕ) → 1 ≤ awaits a z → (1 ≤ z) × (z ≤ R.M)
    awaits-still a le z h = d.awaited t z (omega (arith, le z))

    takes-grant : (x : ℕ) (a : Stage) → TidySession t (on_grant R x own a).after
    unfolding on_grant
    takes-grant x growing = unchanged
    takes-grant x (waiting y) =
        by-test (λ (o : SessionStep). TidySession t o.after) (eqb y x) (λ _. (d.own-stored t, λ z h. absurd (omega arith))) (λ _. unchanged)
    takes-grant x (victim p y) = unchanged
    takes-grant x (releasing p) = unchanged

    takes-probe : (i j : ℕ) → i ≢ t → TidySession t (on_probe R t own i j own.stage).after
    unfolding on_probe store_probe
    takes-probe i j ne =
        by-test (λ (o : SessionStep). TidySession t o.after) (is_live own.stage)
        (λ _. by-test (λ (o : SessionStep). TidySession t o.after) (is_news R own.stored i (junior R j t))
        (λ _. (updated-other own.stored i (junior R j t) t ne ∙ d.own-stored t, d.awaited t)) (λ _. unchanged))
        (λ _. unchanged)

    takes-resend : (x : ℕ) (a : Stage) → TidySession t (on_resend R x own a).after
    unfolding on_resend
    takes-resend x growing = unchanged
    takes-resend x (waiting y) = unchanged
    takes-resend x (victim p y) = unchanged
    takes-resend x (releasing p) = unchanged

    takes-abort : (v i : ℕ) (a : Stage) → own.stage ≡ a → TidySession t (on_abort R own v i a).after
    unfolding on_abort
    takes-abort v i growing e = unchanged
    takes-abort v i (waiting y) e = (refl, awaits-still (victim cleaning y) (λ z. omega (arith, ap (λ (a : Stage). awaits a z) e)))
    takes-abort v i (victim p y) e = unchanged
    takes-abort v i (releasing p) e = unchanged

    takes-clean : (x v i : ℕ) (a : Stage) → own.stage ≡ a → TidySession t (on_clean R t x own v i a).after
    unfolding on_clean cleared
    takes-clean x v i growing e = (refl, d.awaited t)
    takes-clean x v i (waiting y) e = (refl, d.awaited t)
    takes-clean x v i (victim cleaning y) e =
        by-test (λ (o : SessionStep). TidySession t o.after) (eqb v t)
        (λ _. (d.own-stored t, awaits-still (victim withdrawing y) (λ z. omega (arith, ap (λ (a : Stage). awaits a z) e)))) (λ _. unchanged)
    takes-clean x v i (victim withdrawing y) e = unchanged
    takes-clean x v i (releasing p) e = unchanged

    takes-withdrawn : (a : Stage) → TidySession t (on_withdrawn R own a).after
    unfolding on_withdrawn
    takes-withdrawn growing = unchanged
    takes-withdrawn (waiting y) = unchanged
    takes-withdrawn (victim cleaning y) = unchanged
    takes-withdrawn (victim withdrawing y) = (d.own-stored t, λ z h. absurd (omega arith))
    takes-withdrawn (releasing p) = unchanged

    takes : (x : ℕ) (m : Message) → probe_of t m ≡ 0 → TidySession t (session_receives R t x own m).after
    unfolding session_receives
    takes x (up m) z = unchanged
    takes x (down grant) z = takes-grant x own.stage
    takes x (down resend) z = takes-resend x own.stage
    takes x (down withdrawn) z = takes-withdrawn own.stage
    takes x (probe i j) z = takes-probe i j (λ q. absurd (omega (arith, z, ap bit (eq-eqb i t q))))
    takes x (clean v i) z = takes-clean x v i own.stage refl
    takes x (abort v i) z = takes-abort v i own.stage refl

    -- ---- calls
    abbrev TidyAnswer : Answer → Type 0
    TidyAnswer refused = Unit {0}
    TidyAnswer (accepted o) = TidySession t o.after

    asks : (x : ℕ) → 1 ≤ x → x ≤ R.M → (a : Stage) → TidyAnswer (on_request_call R x own a)
    unfolding on_request_call
    asks x lo hi growing = by-test TidyAnswer (own.held x) (λ _. tt) (λ _. (d.own-stored t, λ z h. let q = bit-eqb x z h in (omega arith, omega arith)))
    asks x lo hi (waiting y) = tt
    asks x lo hi (victim p y) = tt
    asks x lo hi (releasing p) = tt

    gives_up : (x : ℕ) → TidyAnswer (release_held R x own)
    unfolding release_held
    gives_up x = by-test TidyAnswer (own.held x) (λ _. (refl, λ z h. absurd (omega arith))) (λ _. tt)

    releases : (x : ℕ) (a : Stage) → TidyAnswer (on_release_call R x own a)
    releases x = by-release R x own TidyAnswer tt (gives_up x)

    reopens : TidyAnswer (on_reopen_call R s t)
    unfolding on_reopen_call
    reopens = by-test TidyAnswer (may_reopen R s t) (λ _. (refl, λ z h. absurd (omega arith))) (λ _. tt)

    call-tidy : (a : Answer) → TidyAnswer a → Tidy R (after_answer R s t a)
    unfolding after_answer down_route
    call-tidy refused h = d
    call-tidy (accepted o) h = session-tidy t s.mailbox o h (λ a z. (d.own-sent a z, d.grant-first a z))

  session-takes-tidy : (t x : ℕ) (o : Taken) → take_first false t x s.mailbox ≡ o → Tidy R (session_takes R s t x o)
  unfolding session_takes down_route probes_by
  session-takes-tidy t x no_entry e = d
  session-takes-tidy t x (taken m l) e =
      session-tidy t l (session_receives R t x (s.session t) m) (takes t x m (omega (arith, mine.0))) (λ a z. routes a z (same? t a) (same? x z))
    where
      hd : route false t x s.mailbox ≡ m ∷ route false t x l
      hd = take_same false t x s.mailbox m l e

      mine : TidyRoute t (m ∷ route false t x l)
      mine = (rw hd at (d.own-sent t x), rw hd at (d.grant-first t x))

      routes : (a z : ℕ) → Dec (t ≡ a) → Dec (x ≡ z) → TidyRoute a (route false a z l)
      routes a z (yes p) (yes q) = rw (← p, ← q) (tail-tidy t m (route false t x l) mine)
      routes a z (no p) w = rw (← take-other false t x false a z (apart-session t x a z false false p) s.mailbox m l e) (d.own-sent a z, d.grant-first a z)
      routes a z (yes p) (no q) = rw (← take-other false t x false a z (apart-item t x a z false false q) s.mailbox m l e) (d.own-sent a z, d.grant-first a z)

pub tidy-move : (R : Rules) (L : Laws R) (s : State) → Invariant R s → Tidy R s → (c : Call) → of_machine R c ≡ true → Tidy R (move R s c)
unfolding move of_machine
tidy-move R L s k d (request_call t x) e = call-tidy R s d t _ (asks R s d t x (item-low R t x e) (item-high R t x e) (s.session t).stage)
tidy-move R L s k d (release_call t x) e = call-tidy R s d t _ (releases R s d t x (s.session t).stage)
tidy-move R L s k d (deliver_to_item t x) e = item-tidy R L s k d t x (item-low R t x e) (item-high R t x e) (take_first true t x s.mailbox) refl
tidy-move R L s k d (deliver_to_session t x) e = session-takes-tidy R s d t x (take_first false t x s.mailbox) refl
tidy-move R L s k d (reopen t) e = call-tidy R s d t _ (reopens R s d t)
