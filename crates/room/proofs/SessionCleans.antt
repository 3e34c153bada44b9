-- A clean at a session: the session is a member, and what it sends weighs no more than the clean.
use mathlib.Core.Path.{◌∙◌, ◌≡◌, ap, refl, subst, sym}
use mathlib.Core.Bool.{◌&&◌, Bool, cond, false, not, true}
use mathlib.Core.List.{[], ◌∷◌, List}
use mathlib.Core.Logic.{◌≢◌, ◌⊎◌, inl, inr}
use mathlib.Core.Option.{some}
use Prim.Native.Nat.{◌+◌, ◌≤◌, ℕ}
use native.Mathlib.Omega.{arith}
use lib.Dec.{eqb}
use borrow.Author.Tests.{eqb-true, le-ltb, ne_eqb}
use Rattle.lists.proofs.Searches.{sum_add, sum_mono, sum-none}
use Rattle.lists.proofs.Tests.{and_both, by-test, eqb_self}
use Rattle.deadlock.specs.Lists.{bit, occurs}
use Rattle.deadlock.specs.Machine.{clean, cleaning, cleared, Entry, growing, held_by, Laws, on_clean, rebroadcast, rebroadcasts, releasing, Rules, Sends, Stage, State, take_first, taken, up, victim, waiting, withdrawing}
use Rattle.deadlock.specs.Counts.{cleans_of, every-cons, every-nil, is_stored}
use Rattle.deadlock.specs.Links.{awaits}
use Rattle.deadlock.specs.Walks.{Walk}
use Rattle.deadlock.specs.World.{CleanGoesDown, CleanUnderWay, Edge, is_victim}
use Rattle.deadlock.specs.Invariant.{down_route, Invariant, world_of}
use Rattle.deadlock.proofs.Laws.Entries.{entry}
use Rattle.deadlock.proofs.Laws.Counts.{every_append}
use Rattle.deadlock.proofs.Laws.Lists.{bit-eqb, zero-or-more}
use Rattle.deadlock.proofs.Laws.Routes.{take_same}
use Rattle.deadlock.proofs.Laws.Stages.{stage-facts}
use Rattle.deadlock.proofs.Laws.Walks.{walk-map}
use Rattle.deadlock.proofs.Victims.OneOnCycle.{one-queue, victim-of-down}
use Rattle.deadlock.proofs.Core.Kept.{known_of}
use Rattle.bound.proofs.Sent.{sent-append, sent_weight}
use Rattle.room.specs.Snapshot.{ahead_down, ahead_up, holder_at, of_member, of_victim, remaining, Snapshot, Sound, stored_count}
use Rattle.room.specs.Weights.{ahead_weight, pass_weight, queue_weight, weight}
use Rattle.room.specs.Phases.{Allowed, Clearing}
use Rattle.room.proofs.Sending.{every-each, sent-each, Sent}
use Rattle.room.proofs.Members.{awaited_of_member, Edge★, links★, member-next, is_of_member, one-before}
use Rattle.room.proofs.Holders.{edge_then, held_then, holder_then, the_victim}
use Rattle.room.proofs.SessionKept.{dropped, Fits, same-stage, waits_no_more}

-- nothing stored
none-stored : (R : Rules) → stored_count R (λ (_ : ℕ). 0) ≡ 0
unfolding stored_count
none-stored R = sum-none (is_stored (λ (_ : ℕ). 0)) (λ _. refl) R.S

-- at each item: the rebroadcast (h), and what is ahead of a clean from t (u), are no more than what is ahead of the clean to t (d)
term-left : (h u d m w : Bool) (n : ℕ) → (h ≡ true → (u ≡ false) × ((d ≡ true) × ((m ≡ true) × (w ≡ false)))) → (u ≡ true → d ≡ true)
    → cond h (1 + n) 0 + cond (m && u) (n + bit (not w)) 0 ≤ cond (m && d) (n + bit (not w)) 0
term-left true u d m w n f g = let q = f refl in rw (q.0, q.1.0, q.1.1.0, q.1.1.1) (omega arith)
term-left false u d false w n f g = omega arith
term-left false true d true w n f g = rw (g refl) (omega arith)
term-left false false d true w n f g = omega arith

module _ (R : Rules) (L : Laws R) (p : Snapshot) (k : Sound R p) (s : State) (i : Invariant R s) (c : Clearing p R s)
    (t x v a : ℕ) (l : List Entry) (e : take_first false t x s.mailbox ≡ taken (clean v a) l) where
  -- ---- the clean is the victim's, and came from a member
  on_its_way : 1 ≤ cleans_of v (down_route s t x)
  unfolding down_route cleans_of
  on_its_way = omega (arith, ap (cleans_of v) (take_same false t x s.mailbox (clean v a) l e), ap bit (eqb_self v))

  is_under_way : CleanUnderWay (world_of s) v
  is_under_way = victim-of-down (known_of R L s i.core) v t x on_its_way

  is-victim : 1 ≤ is_victim (s.session v).stage
  is-victim = omega (arith, is_under_way, stage-facts (s.session v).stage)

  is_the_victim : v ≡ p.victim
  is_the_victim = the_victim R p s c v is-victim

  victim-still : 1 ≤ is_victim (s.session p.victim).stage
  victim-still = rw is_the_victim at is-victim

  goes : CleanGoesDown R (world_of s) v t x
  goes = i.core.victims.clean-down-on-cycle v t x on_its_way

  before-member : p.member goes.from ≡ true
  before-member =
      k.reached-member goes.from (walk-map (edge_then R p s c victim-still) (subst (λ (z : ℕ). Walk (Edge R (world_of s)) z goes.from) is_the_victim goes.walk))

  edge_in : Edge★ R L p k goes.from t
  edge_in = edge_then R p s c victim-still goes.from t (record { item = x; low = goes.low; high = goes.high; stands = goes.stands; held = goes.held })

  here-member : p.member t ≡ true
  here-member = member-next R L p k goes.from t before-member edge_in

  -- ---- the other items that t holds
  module _ (ne : t ≢ p.victim) where
    abbrev others : ℕ → Bool
    others y = (s.session t).held y && not (eqb y x)

    holder-here : (y : ℕ) → 1 ≤ y → y ≤ R.M → others y ≡ true → (p.state.item y).holder ≡ some t
    holder-here y lo hi h = held_then R p s c victim-still i t y lo hi (and_both ((s.session t).held y) (not (eqb y x)) h).0

    not_victim's : (y : ℕ) → (p.state.item y).holder ≡ some t → of_victim p y ≡ false
    unfolding of_victim held_by
    not_victim's y h = rw h (ne_eqb t p.victim ne)

    left_here : remaining p t ≡ p.far t
    unfolding remaining
    left_here = rw (ne_eqb t p.victim ne)

    holder-at : (y : ℕ) → (p.state.item y).holder ≡ some t → holder_at p y ≡ t
    unfolding holder_at
    holder-at y h = rw h refl

    no_more-up : (y : ℕ) → (p.state.item y).holder ≡ some t → ahead_up p t y ≡ false
    unfolding ahead_up
    no_more-up y h = rw (holder-at y h, left_here) (le-ltb (p.far t) (p.far t) (omega arith))

    ahead-held : (y : ℕ) → (p.state.item y).holder ≡ some t → not (eqb y x) ≡ true → ahead_down p t x y ≡ true
    unfolding ahead_down
    ahead-held y h q = rw (holder-at y h, le-ltb (remaining p t) (remaining p t) (omega arith), eqb_self t, q) refl

    up-down : (y : ℕ) → ahead_up p t y ≡ true → ahead_down p t x y ≡ true
    unfolding ahead_up ahead_down
    up-down y h = rw (left_here, h) refl

    abbrev sent_term : ℕ → ℕ
    sent_term y = cond (others y) (1 + queue_weight R p y) 0

    abbrev up_term : ℕ → ℕ
    up_term y = cond (of_member p y && ahead_up p t y) (pass_weight R p y) 0

    abbrev down_term : ℕ → ℕ
    down_term y = cond (of_member p y && ahead_down p t x y) (pass_weight R p y) 0

    each-covered : (y : ℕ) → 1 ≤ y → y ≤ R.M → sent_term y + up_term y ≤ down_term y
    unfolding pass_weight
    each-covered y lo hi = term-left (others y) (ahead_up p t y) (ahead_down p t x y) (of_member p y) (of_victim p y) (queue_weight R p y)
        (λ h. let q = holder-here y lo hi h in (
          no_more-up y q,
          (ahead-held y q (and_both ((s.session t).held y) (not (eqb y x)) h).1, (is_of_member R L p k y t q here-member, not_victim's y q)),
        ))
        (up-down y)

    -- the rebroadcasts to them, together with what is ahead of a clean from t
    rebroadcasts_weigh : sent_weight (λ y m. weight R p true t y m) (rebroadcasts R x (s.session t)) + ahead_weight R p (ahead_up p t) ≤ ahead_weight R p (ahead_down p t x)
    unfolding rebroadcasts ahead_weight weight
    rebroadcasts_weigh = omega (
      arith,
      sent-each (λ y m. weight R p true t y m) (up rebroadcast) others R.M,
      sum_add R.M sent_term up_term,
      sum_mono R.M (λ y. sent_term y + up_term y) down_term each-covered,
    )

    -- no member stands in the queues of those items: members wait for t at item x only
    no_member-there : (y b : ℕ) → 1 ≤ y → y ≤ R.M → others y ≡ true → p.member b ≡ true → occurs b (p.state.item y).queue ≡ 0
    no_member-there y b lo hi h m = cases (zero-or-more (occurs b (p.state.item y).queue))
      where
        cases : (occurs b (p.state.item y).queue ≡ 0) ⊎ (1 ≤ occurs b (p.state.item y).queue) → occurs b (p.state.item y).queue ≡ 0
        cases (inl z) = z
        cases (inr n) =
            let q : b ≡ goes.from =
            one-before R L p k b goes.from t m before-member (record { item = y; low = lo; high = hi; stands = n; held = holder-here y lo hi h }) edge_in in
            let n2 : 1 ≤ occurs goes.from (p.state.item y).queue = rw q at n in
            let z : y ≡ x = one-queue (links★ R L p k) goes.from y x lo hi goes.low goes.high n2 (omega (arith, goes.stands, c.queues goes.from x)) in
            absurd (omega (arith, ap bit (and_both ((s.session t).held y) (not (eqb y x)) h).1, ap (λ (w : ℕ). bit (not (eqb w x))) z, ap (λ (w : Bool). bit (not w)) (eqb_self x)))

    rebroadcasts-allowed : Sent (λ y m. Allowed p (entry true t y m)) (rebroadcasts R x (s.session t))
    unfolding rebroadcasts
    rebroadcasts-allowed = every-each (λ y m. Allowed p (entry true t y m)) (up rebroadcast) others R.M
        (λ y lo hi h. (is_of_member R L p k y t (holder-here y lo hi h) here-member, λ b m. no_member-there y b lo hi h m))

  -- a session that keeps its stage, its probes cleared
  cleared-fits : (o : Sends) → Sent (λ y m. Allowed p (entry true t y m)) o → sent_weight (λ y m. weight R p true t y m) o ≤ weight R p false t x (clean v a)
      → Fits R p s t x (clean v a) (record { after = cleared R (s.session t); sends = o })
  unfolding cleared
  cleared-fits o al co = record { turns = same-stage R p s t c _ refl (λ _ _. omega (arith, none-stored R)); allowed = al; covered = co }

  -- a live session is not the victim
  not-victim : (b : Stage) → (s.session t).stage ≡ b → is_victim b ≡ 0 → t ≢ p.victim
  not-victim b q z w = omega (arith, victim-still, ap is_victim q, z, ap (λ (u : ℕ). is_victim (s.session u).stage) w)

  -- the victim awaits an item of a member
  victim-awaits : (y : ℕ) → (s.session t).stage ≡ victim cleaning y → v ≡ t → of_member p y ≡ true
  victim-awaits y q w =
      let r = i.core.victims.victim-waits v is_under_way in
      let g : Edge R (world_of s) t r.0 = subst (λ (u : ℕ). Edge R (world_of s) u r.0) w r.1 in
      let f = i.core.links.linked t g.item g.low g.high in
      let z : y ≡ g.item = bit-eqb y g.item (omega (arith, g.stands, ap (λ (b : Stage). awaits b g.item) q)) in
      let h : (p.state.item g.item).holder ≡ some r.0 = sym (holder_then R p s c victim-still g.item) ∙ g.held in
      rw z (is_of_member R L p k g.item r.0 h (member-next R L p k t r.0 here-member (edge_then R p s c victim-still t r.0 g)))

  pub cleaned : (b : Stage) → (s.session t).stage ≡ b → Fits R p s t x (clean v a) (on_clean R t x (s.session t) v a b)
  unfolding on_clean weight sent_weight
  cleaned growing q =
      let ne = not-victim growing q refl in
      cleared-fits _ (rebroadcasts-allowed ne) (omega (arith, rebroadcasts_weigh ne))
  cleaned (waiting y) q =
      let ne = not-victim (waiting y) q refl in
      cleared-fits _ (every_append (rebroadcasts-allowed ne) (every-cons (awaited_of_member R L p k t y here-member ne (c.waited t y q), tt) every-nil))
      (omega (arith, rebroadcasts_weigh ne, sent-append (λ y m. weight R p true t y m) (rebroadcasts R x (s.session t)) ((y, clean v a) ∷ [])))
  cleaned (victim cleaning y) q = by-test (Fits R p s t x (clean v a)) (eqb v t)
      (λ w. record {
        turns = waits_no_more R p s t _ refl (λ _. omega arith) (rw q (omega arith)) (λ ne. absurd (ne (sym (eqb-true v t w) ∙ is_the_victim)));
        allowed = every-cons (victim-awaits y q (eqb-true v t w), tt) every-nil;
        covered = omega arith;
      })
      (λ _. dropped R p s t c x (clean v a))
  cleaned (victim withdrawing y) q = dropped R p s t c x (clean v a)
  cleaned (releasing r) q = dropped R p s t c x (clean v a)
