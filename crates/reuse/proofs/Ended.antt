-- What victims, and sessions whose work is over, still have: so it begins, and every admitted call keeps it.
use mathlib.Core.Path.{◌∙◌, ◌≡◌, ap, fun_ext, refl, subst, sym}
use mathlib.Core.Bool.{◌&&◌, ◌||◌, Bool, false, false≢true, true, true≢false}
use mathlib.Core.List.{[], ◌++◌, ◌∷◌, append-nil, List}
use mathlib.Core.Option.{none, Option, some}
use mathlib.Core.Logic.{◌≢◌, ◌⊎◌, inl, inr}
use Prim.Native.Nat.{◌+◌, ◌≤◌, ℕ}
use native.Mathlib.Omega.{arith}
use lib.Dec.{eqb}
use borrow.Author.Tests.{ne_eqb}
use Rattle.lists.specs.Lists.{member}
use Rattle.lists.proofs.Tests.{and_both, by-test, eqb_self, same?}
use Rattle.deadlock.specs.Lists.{bit, one_to}
use Rattle.deadlock.specs.Machine.{abort, accepted, after_answer, after_item, after_session, Answer, Call, clean, cleaning, cleared, deliver_to_item, deliver_to_session, down, Entry, grant, grant_or_queue, growing, hand_over, held_by, is_live, is_news, is_rolled_back, Item, item_receives, ItemStep, item_takes, junior, Laws, may_reopen, Message, move, no_entry, of_machine, on_abort, on_clean, on_grant, on_probe, on_release, on_release_call, on_reopen_call, on_request, on_request_call, on_resend, on_withdrawn, probe, rebroadcast, refused, release, release_call, release_held, releasing, reopen, request, request_call, resend, route, Rules, run, Session, session_drops, session_receives, SessionStep, session_takes, Stage, start, State, step, Stepped, store_probe, take_first, taken, Taken, to_each, up, victim, waiting, withdraw, withdrawing, withdrawn}
use Rattle.message.specs.Kind
use Rattle.deadlock.specs.Counts.{count_kind, kind_of, sent_to}
use Rattle.deadlock.specs.Links.{doomed}
use Rattle.deadlock.specs.World.{AbortTo, HolderIs, is_victim, is_waiting}
use Rattle.deadlock.specs.Invariant.{down_route, Invariant, mail_of, up_route, world_of}
use Rattle.deadlock.proofs.Laws.Lists.{by-updated, member-occurs, occurs-oneTo}
use Rattle.deadlock.proofs.Laws.Counts.{down-kinds, every-head}
use Rattle.deadlock.proofs.Laws.Routes.{apart-item, apart-session, countKind-append, take-other, take_same}
use Rattle.deadlock.proofs.Laws.Stages.{by-release, stage-facts}
use Rattle.deadlock.proofs.Links.Kept.{item-high, item-low, item-up}
use Rattle.deadlock.proofs.Links.KeptAtSession.{releases-one}
use Rattle.deadlock.proofs.Probes.OthersStay.{SessionSends}
use Rattle.deadlock.proofs.Victims.OneOnCycle.{waits-no-grant}
use Rattle.deadlock.proofs.Core.Kept.{delivered, known_of, links-of, released-waits, session-sends}
use Rattle.deadlock.proofs.Core.KeptByRequestAndRelease.{release-holder, request-is-waiting}
use Rattle.deadlock.proofs.InvariantKept.{invariant, invariant-step}
use Rattle.reuse.specs.Ended.{AllEnded, Ended}

ended-start : (R : Rules) → AllEnded R (start R)
unfolding start
ended-start R t = record { stores-none = λ i h. refl; holds-none = λ x h. refl; owns = λ x lo hi h. absurd (omega arith) }

-- ---- stages
not-rolled-back : (a : Stage) → is_live a ≡ true → is_rolled_back a ≡ true → ⊥
not-rolled-back growing e f = false≢true f
not-rolled-back (waiting y) e f = false≢true f
not-rolled-back (victim p y) e f = false≢true e
not-rolled-back (releasing p) e f = false≢true e

-- the same messages
rerouted : {R : Rules} {items : ℕ → Item} {t : ℕ} {r : Session} {p q : ℕ → List Message} → ((x : ℕ) → q x ≡ p x) → Ended R items t r p → Ended R items t r q
rerouted {R} {items} {t} {r} same f = subst (Ended R items t r) (fun_ext (λ x. sym (same x))) f

module _ (R : Rules) (L : Laws R) (s : State) (k : Invariant R s) (d : AllEnded R s) where
  -- a is a victim or was rolled back
  abbrev Doomed : ℕ → Type 0
  Doomed a = 1 ≤ doomed (s.session a).stage

  -- ---- an item
  -- session t sends to item x, and the entries l remain
  module _ (t x : ℕ) (lo : 1 ≤ x) (hi : x ≤ R.M) (l : List Entry) where
    -- the holder that follows, as whoever is a victim or was rolled back sees it
    abbrev Owned : Option ℕ → Type 0
    Owned o = (a : ℕ) → Doomed a → bit (held_by o a) ≤ bit ((s.session a).held x) + count_kind Kind.release (route true a x l)

    nobody : Owned none
    unfolding held_by
    nobody a h = omega arith

    -- somebody who waits
    passes : (n : ℕ) → 1 ≤ is_waiting (s.session n).stage → Owned (some n)
    unfolding held_by
    passes n waits a h =
        let ne : n ≢ a = λ q. omega (arith, waits, stage-facts (s.session n).stage, h, ap (λ (b : ℕ). doomed (s.session b).stage) q) in
        omega (arith, ap bit (ne_eqb n a ne))

    module _ (m : Message) (e : take_first true t x s.mailbox ≡ taken m l) where
      head : up_route s t x ≡ m ∷ route true t x l
      unfolding up_route
      head = take_same true t x s.mailbox m l e

      elsewhere : (a z : ℕ) → (t ≢ a) ⊎ (x ≢ z) → up_route s a z ≡ route true a z l
      unfolding up_route
      elsewhere a z (inl q) = take-other true t x true a z (apart-session t x a z true true q) s.mailbox m l e
      elsewhere a z (inr q) = take-other true t x true a z (apart-item t x a z true true q) s.mailbox m l e

      -- the holder stays, and the message is no release
      stays : eqb (kind_of m) Kind.release ≡ false → Owned (s.item x).holder
      unfolding count_kind
      stays n a h = elim (same? t a) [
        | yes q ↦ omega (arith, (d a).owns x lo hi h, ap bit n, rw q at (ap (count_kind Kind.release) head))
        | no q ↦ omega (arith, (d a).owns x lo hi h, ap (count_kind Kind.release) (elsewhere a x (inl q)))
      ]

    -- a request: whoever is granted the item waits
    requested : take_first true t x s.mailbox ≡ taken (up request) l → (o : Option ℕ) → (s.item x).holder ≡ o → Owned (grant_or_queue R t (s.item x).queue o).after.holder
    unfolding grant_or_queue
    requested e none q = passes t (request-is-waiting L (known_of R L s k.core) t x lo hi (mail_of s) (route true t x l) (head (up request) e))
    requested e (some h) q = rw (← q) (stays (up request) e refl)

    -- a release: whoever is the next holder waits
    module _ (e : take_first true t x s.mailbox ≡ taken (up release) l) where
      handed-over : (q : List ℕ) → (s.item x).queue ≡ q → Owned (hand_over R q).after.holder
      unfolding hand_over
      handed-over [] q = nobody
      handed-over (b ∷ bs) q = let n = R.next b bs in passes n (released-waits R L s k.core t x lo hi l e n (rw q (member-occurs n (b ∷ bs) (L.next-member b bs))))

      released : Owned (on_release R t (s.item x)).after.holder
      unfolding on_release held_by
      released =
          by-test (λ (o : ItemStep). Owned o.after.holder) (held_by (s.item x).holder t) (λ _. handed-over (s.item x).queue refl)
          (λ f. let h : HolderIs (world_of s) x t = release-holder L (known_of R L s k.core) t x lo hi (mail_of s) (route true t x l) (head (up release) e) in
          absurd (true≢false (sym (rw h (eqb_self t)) ∙ f)))

    owned : (m : Message) → take_first true t x s.mailbox ≡ taken m l → Owned (item_receives R t (s.item x) m).after.holder
    unfolding item_receives on_request
    owned (up request) e =
        by-test (λ (o : ItemStep). Owned o.after.holder) (held_by (s.item x).holder t || member t (s.item x).queue) (λ _. stays (up request) e refl) (λ _. requested e (s.item x).holder refl)
    owned (up release) e = released e
    owned (up rebroadcast) e = stays (up rebroadcast) e refl
    owned (up withdraw) e = stays (up withdraw) e refl
    owned (down m) e = stays (down m) e (down-kinds m).no-release
    owned (probe i j) e = stays (probe i j) e refl
    owned (clean v i) e = stays (clean v i) e refl
    owned (abort v i) e = stays (abort v i) e refl

  item-ended : (t x : ℕ) → 1 ≤ x → x ≤ R.M → (p : Taken) → take_first true t x s.mailbox ≡ p → AllEnded R (item_takes R s t x p)
  unfolding item_takes after_item
  item-ended t x lo hi no_entry e a = d a
  item-ended t x lo hi (taken m l) e a = let o = item_receives R t (s.item x) m in record {
    stores-none = (d a).stores-none;
    holds-none = (d a).holds-none;
    owns =
        by-updated
        (λ z i. 1 ≤ z → z ≤ R.M → Doomed a → bit (held_by i.holder a) ≤ bit ((s.session a).held z) + count_kind Kind.release (up_route (after_item s x l o) a z))
        s.item x o.after
        (λ _ _ h. rw (item-up s x l o a x) (owned t x lo hi l m e a h))
        (λ z q lo' hi' h. rw (item-up s x l o a z, ← elsewhere t x lo hi l m e a z (inr q)) ((d a).owns z lo' hi' h));
  }

  -- ---- a session
  module _ (t : ℕ) where
    abbrev own : Session
    own = s.session t

    -- what is known of session t after its step
    abbrev Fine : SessionStep → Type 0
    Fine o = Ended R s.item t o.after (λ x. up_route s t x ++ sent_to x o.sends)

    session-ended : (l : List Entry) (o : SessionStep) → SessionSends (world_of s) t o.sends (mail_of (after_session s t l o)) → Fine o → AllEnded R (after_session s t l o)
    unfolding after_session
    session-ended l o sent f =
        by-updated (λ u r. Ended R s.item u r (up_route (after_session s t l o) u)) s.session t o.after
        (rerouted sent.up_at f) (λ u q. rerouted (λ x. sent.up-off u x q) (d u))

    dropped : Fine (session_drops own)
    unfolding sent_to
    dropped = rerouted (λ x. append-nil (up_route s t x)) (d t)

    -- growing or waiting
    live : (o : SessionStep) → is_live o.after.stage ≡ true → Fine o
    live o e = let f = stage-facts o.after.stage in record {
      stores-none = λ i h. absurd (omega (arith, h, f, ap bit e));
      holds-none = λ x h. absurd (not-rolled-back o.after.stage e h);
      owns = λ x lo hi h. absurd (omega (arith, h, f, ap bit e));
    }

    takes-grant : (x : ℕ) (a : Stage) → Fine (on_grant R x own a)
    unfolding on_grant
    takes-grant x growing = dropped
    takes-grant x (waiting y) = by-test Fine (eqb y x) (λ _. live _ refl) (λ _. dropped)
    takes-grant x (victim p y) = dropped
    takes-grant x (releasing p) = dropped

    takes-probe : (i j : ℕ) → Fine (on_probe R t own i j own.stage)
    unfolding on_probe store_probe
    takes-probe i j = by-test Fine (is_live own.stage) (λ e. by-test Fine (is_news R own.stored i (junior R j t)) (λ _. live _ e) (λ _. dropped)) (λ _. dropped)

    takes-resend : (x : ℕ) (a : Stage) → own.stage ≡ a → Fine (on_resend R x own a)
    unfolding on_resend
    takes-resend x growing e = dropped
    takes-resend x (waiting y) e = live _ (ap (λ (a : Stage). is_live a) e)
    takes-resend x (victim p y) e = dropped
    takes-resend x (releasing p) e = dropped

    -- an abort finds a session that waits in a queue, so that no grant is on its way to it
    takes-abort : (v i : ℕ) (a : Stage) → own.stage ≡ a → AbortTo R (world_of s) t a → Fine (on_abort R own v i a)
    unfolding on_abort AbortTo
    takes-abort v i growing e c = dropped
    takes-abort v i (waiting y) e c = record {
      stores-none = λ i h. absurd (omega arith);
      holds-none = λ x h. absurd (false≢true h);
      owns = λ x lo hi h. omega (
        arith,
        (k.core.links.linked t x lo hi).own-only_if,
        waits-no-grant (links-of R L s k.core) t c.cycle.next x c.cycle.out lo hi,
        ap doomed e,
        countKind-append Kind.release (up_route s t x) (sent_to x ((y, clean v i) ∷ [])),
      );
    }
    takes-abort v i (victim p y) e c = dropped
    takes-abort v i (releasing p) e c = dropped

    takes-clean : (x v i : ℕ) (a : Stage) → own.stage ≡ a → Fine (on_clean R t x own v i a)
    unfolding on_clean cleared
    takes-clean x v i growing e = live _ (ap (λ (a : Stage). is_live a) e)
    takes-clean x v i (waiting y) e = live _ (ap (λ (a : Stage). is_live a) e)
    takes-clean x v i (victim cleaning y) e =
        by-test Fine (eqb v t)
        (λ _. record {
          stores-none = λ i h. absurd (omega arith);
          holds-none = λ x h. absurd (false≢true h);
          owns = λ z lo hi h. omega (arith, (d t).owns z lo hi (omega (arith, ap doomed e)), countKind-append Kind.release (up_route s t z) (sent_to z ((y, up withdraw) ∷ [])));
        })
        (λ _. dropped)
    takes-clean x v i (victim withdrawing y) e = dropped
    takes-clean x v i (releasing p) e = dropped

    takes-withdrawn : (a : Stage) → own.stage ≡ a → Fine (on_withdrawn R own a)
    unfolding on_withdrawn
    takes-withdrawn growing e = dropped
    takes-withdrawn (waiting y) e = dropped
    takes-withdrawn (victim cleaning y) e = dropped
    takes-withdrawn (victim withdrawing y) e = record {
      stores-none = λ i h. k.coverage.victim-stores-none t i (omega (arith, ap is_victim e));
      holds-none = λ x h. refl;
      owns = λ x lo hi h. omega (
        arith,
        (d t).owns x lo hi (omega (arith, ap doomed e)),
        releases-one R x own.held (one_to R.M) (occurs-oneTo R.M x lo hi),
        countKind-append Kind.release (up_route s t x) (sent_to x (to_each (up release) own.held (one_to R.M))),
      );
    }
    takes-withdrawn (releasing p) e = dropped

    takes : (x : ℕ) (m : Message) (q : List Message) → down_route s t x ≡ m ∷ q → Fine (session_receives R t x own m)
    unfolding session_receives
    takes x (up m) q e = dropped
    takes x (down grant) q e = takes-grant x own.stage
    takes x (down resend) q e = takes-resend x own.stage refl
    takes x (down withdrawn) q e = takes-withdrawn own.stage refl
    takes x (probe i j) q e = takes-probe i j
    takes x (clean v i) q e = takes-clean x v i own.stage refl
    takes x (abort v i) q e = takes-abort v i own.stage refl (every-head (rw e at (k.core.victims.aborts t x))).1

    -- ---- calls
    abbrev FineAnswer : Answer → Type 0
    FineAnswer refused = Unit {0}
    FineAnswer (accepted o) = Fine o

    asks : (x : ℕ) (a : Stage) → FineAnswer (on_request_call R x own a)
    unfolding on_request_call
    asks x growing = by-test FineAnswer (own.held x) (λ _. tt) (λ _. live _ refl)
    asks x (waiting y) = tt
    asks x (victim p y) = tt
    asks x (releasing p) = tt

    gives_up : (x : ℕ) → FineAnswer (release_held R x own)
    unfolding release_held
    gives_up x = by-test FineAnswer (own.held x)
        (λ _. record { stores-none = λ i h. refl; holds-none = λ z h. absurd (false≢true h); owns = λ z lo hi h. absurd (omega arith) }) (λ _. tt)

    releases : (x : ℕ) (a : Stage) → FineAnswer (on_release_call R x own a)
    releases x = by-release R x own FineAnswer tt (gives_up x)

    reopens : FineAnswer (on_reopen_call R s t)
    unfolding on_reopen_call
    reopens = by-test FineAnswer (may_reopen R s t) (λ _. live _ refl) (λ _. tt)

    call-ended : (a : Answer) → FineAnswer a → AllEnded R (after_answer R s t a)
    unfolding after_answer up_route down_route
    call-ended refused h = d
    call-ended (accepted o) h = session-ended s.mailbox o (session-sends R L s k.core t s.mailbox o (λ z. refl) (λ a z ne. (refl, refl))) h

  session-takes-ended : (t x : ℕ) (o : Taken) → take_first false t x s.mailbox ≡ o → AllEnded R (session_takes R s t x o)
  unfolding session_takes
  session-takes-ended t x no_entry e = d
  session-takes-ended t x (taken m l) e =
      let o = session_receives R t x (s.session t) m in
      let z = delivered R L s k.core t x m l e o in
      session-ended t l o z.0 (takes t x m _ z.1.head)

  ended_move : (c : Call) → of_machine R c ≡ true → AllEnded R (move R s c)
  unfolding move of_machine
  ended_move (request_call t x) e = call-ended t _ (asks t x (s.session t).stage)
  ended_move (release_call t x) e = call-ended t _ (releases t x (s.session t).stage)
  ended_move (deliver_to_item t x) e = item-ended t x (item-low R t x e) (item-high R t x e) (take_first true t x s.mailbox) refl
  ended_move (deliver_to_session t x) e = session-takes-ended t x (take_first false t x s.mailbox) refl
  ended_move (reopen t) e = call-ended t _ (reopens t)

  ended-step : (admits : State → Call → Bool) (c : Call) → AllEnded R (step R admits s c).state
  unfolding step
  ended-step admits c = by-test (λ (r : Stepped). AllEnded R r.state) (of_machine R c && admits s c) (λ e. ended_move c (and_both (of_machine R c) (admits s c) e).0) (λ _. d)

-- ---- after every list of calls
module _ (R : Rules) (L : Laws R) (admits : State → Call → Bool) where
  ended-run : (cs : List Call) (s : State) → Invariant R s → AllEnded R s → AllEnded R (run R admits s cs).state
  unfolding run
  ended-run [] s k d = d
  ended-run (c ∷ cs) s k d = ended-run cs (step R admits s c).state (invariant-step R L s k admits c) (ended-step R L s k d admits c)

  pub ended : (cs : List Call) → AllEnded R (run R admits (start R) cs).state
  unfolding run
  ended cs = ended-run cs (start R) (invariant R L admits []) (ended-start R)
