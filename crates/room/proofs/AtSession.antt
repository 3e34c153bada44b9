-- While a cycle is dissolved or an item handed over, a message at a session keeps the clauses, and the mailbox gets no heavier.
use mathlib.Core.Path.{◌∙◌, ◌≡◌, ap, refl, sym}
use mathlib.Core.Bool.{cond, false, not, true, true≢false}
use mathlib.Core.List.{◌∷◌, List}
use mathlib.Core.Logic.{◌≢◌, ◌⊎◌, inl, inr}
use mathlib.Core.Option.{Option, some}
use Prim.Native.Nat.{◌+◌, ◌≤◌, ℕ}
use native.Mathlib.Omega.{arith}
use lib.Dec.{eqb}
use borrow.Author.Tests.{eqb-true}
use Rattle.lists.specs.Lists.{sum_up_to}
use Rattle.lists.proofs.Searches.{sum_add, sum_mono, sum-single}
use Rattle.lists.proofs.Tests.{by_answer, by-test, eqb_self}
use Rattle.message.specs.Kind
use Rattle.deadlock.specs.Lists.{bit, one_to}
use Rattle.deadlock.specs.Machine.{abort, after_session, clean, cleaning, down, Entry, grant, growing, held_by, is_live, is_news, junior, Laws, Message, on_abort, on_grant, on_probe, on_resend, on_withdrawn, probe, release, releasing, resend, route, Rules, Sends, Session, session_drops, session_receives, SessionStep, Stage, State, stored_probes, store_probe, take_first, taken, to_awaited, to_each, up, victim, waiting, withdrawing, withdrawn}
use Rattle.deadlock.specs.Counts.{count_behind, count_kind, every-cons, every-nil, is_stored}
use Rattle.deadlock.specs.Links.{awaits, doomed, may_release}
use Rattle.deadlock.specs.World.{HolderIs, is_victim, is_waiting, Live}
use Rattle.deadlock.specs.Invariant.{down_route, Invariant, world_of}
use Rattle.deadlock.proofs.Laws.Entries.{entry, every_take}
use Rattle.deadlock.proofs.Laws.Lists.{bit-eqb, bit_le}
use Rattle.deadlock.proofs.Laws.Routes.{take_same}
use Rattle.bound.proofs.Ranges.{came}
use Rattle.bound.proofs.Sent.{sent_weight}
use Rattle.bound.proofs.Sums.{sum_le}
use Rattle.room.specs.Snapshot.{held_by_member, of_member, of_victim, Snapshot, Sound, stored_count}
use Rattle.room.specs.Weights.{queue_weight, releases_weight, release_weight, resend_weight, weight}
use Rattle.room.specs.Phases.{Allowed, Clearing, HandedOver, Tidy}
use Rattle.room.proofs.Sending.{every-each, every-stored, sent-each, sent-stored, Sent}
use Rattle.room.proofs.Members.{awaited_of_member, links★, is_of_member, victim-member}
use Rattle.room.proofs.NoCycle.{none_to_abort}
use Rattle.room.proofs.Holders.{held_then, the_victim, told-cycle}
use Rattle.room.proofs.SessionKept.{dropped, Fits, kept, same-stage, waits_no_more}
use Rattle.room.proofs.SessionCleans.{cleaned}

stored-few : (R : Rules) (f : ℕ → ℕ) → stored_count R f ≤ R.S
unfolding stored_count
stored-few R f = omega (arith, sum_le R.S 1 (is_stored f) (λ a. bit_le (not (eqb (f a) 0))))

-- one item at most is the closing one
closing_le : (n m a : ℕ) → sum_up_to n (λ y. cond (eqb y a) m 0) ≤ m
closing_le n m a =
    sum-single n m (λ y. cond (eqb y a) m 0) (λ y _ _. by-test (λ (w : ℕ). w ≤ m) (eqb y a) (λ _. omega arith) (λ _. omega arith))
    (λ y z _ _ _ _ g h. is y g ∙ sym (is z h))
  where
    is : (y : ℕ) → 1 ≤ cond (eqb y a) m 0 → y ≡ a
    is y = by-test (λ (w : ℕ). 1 ≤ w → y ≡ a) (eqb y a) (λ q _. eqb-true y a q) (λ _ h. absurd (omega arith))

module _ (R : Rules) (L : Laws R) (p : Snapshot) (k : Sound R p) (s : State) (i : Invariant R s) (d : Tidy R s) (c : Clearing p R s)
    (t x : ℕ) (lo : 1 ≤ x) (hi : x ≤ R.M) (l : List Entry) where
  abbrev FitsOn : Message → SessionStep → Type 0
  FitsOn = Fits R p s t x

  abbrev own : Session
  own = s.session t

  drops : (m : Message) → FitsOn m (session_drops own)
  drops = dropped R p s t c x

  -- a waiting session is not the victim
  waits_no_victim : (y : ℕ) → own.stage ≡ waiting y → t ≢ p.victim
  waits_no_victim y q z =
      omega (arith, c.victim-stage, ap (λ (u : ℕ). is_victim (s.session u).stage + may_release (s.session u).stage) z, ap (λ (b : Stage). is_victim b + may_release b) q)

  -- ---- grant
  granted : (b : Stage) → own.stage ≡ b → FitsOn (down grant) (on_grant R x own b)
  unfolding on_grant sent_weight
  granted growing q = drops (down grant)
  granted (waiting y) q = by-test (FitsOn (down grant)) (eqb y x)
      (λ _. record {
        turns = waits_no_more R p s t _ refl (λ z. absurd (waits_no_victim y q z)) (rw q (omega arith)) (λ _. refl);
        allowed = every-nil;
        covered = omega arith;
      })
      (λ _. drops (down grant))
  granted (victim r y) q = drops (down grant)
  granted (releasing r) q = drops (down grant)

  -- ---- resend
  -- what a waiting session stores
  stored_le : 1 ≤ is_waiting own.stage → stored_count R own.stored ≤ resend_weight R p t
  unfolding resend_weight
  stored_le w = by_answer (p.member t) (λ e. rw e (omega (arith, stored-few R own.stored))) (λ e. rw e (omega (arith, c.stores t e w)))

  resent : of_member p x ≡ true → (b : Stage) → own.stage ≡ b → FitsOn (down resend) (on_resend R x own b)
  unfolding on_resend stored_probes sent_weight weight stored_count
  resent o growing q = drops (down resend)
  resent o (waiting y) q =
      by-test (λ (a : Sends). FitsOn (down resend) (record { after = own; sends = a })) (eqb y x)
      (λ _. record {
        turns = same-stage R p s t c own refl (λ _ _. omega arith);
        allowed = every-stored (λ y a. Allowed p (entry true t y a)) own.stored x (one_to R.S) (λ _ _. (o, tt));
        covered = omega (arith, sent-stored (λ y a. weight R p true t y a) x (λ _ _. refl) own.stored R.S, stored_le (rw q (omega arith)));
      })
      (λ _. drops (down resend))
  resent o (victim r y) q = drops (down resend)
  resent o (releasing r) q = drops (down resend)

  -- ---- the answer to a withdraw
  module _ (y : ℕ) (q : own.stage ≡ victim withdrawing y) where
    is-victim : t ≡ p.victim
    is-victim = the_victim R p s c t (omega (arith, ap is_victim q))

    held-by-victim : (z : ℕ) → 1 ≤ z → z ≤ R.M → own.held z ≡ true → (p.state.item z).holder ≡ some p.victim
    held-by-victim z lo hi h =
        held_then R p s c (omega (arith, ap (λ (u : ℕ). is_victim (s.session u).stage) is-victim, ap is_victim q)) i t z lo hi h ∙ ap some is-victim

    is_of_victim : (z : ℕ) → 1 ≤ z → z ≤ R.M → own.held z ≡ true → of_victim p z ≡ true
    unfolding of_victim held_by
    is_of_victim z lo hi h = rw (held-by-victim z lo hi h) (eqb_self p.victim)

    abbrev victim_term : ℕ → ℕ
    victim_term z = cond (of_victim p z) (1 + queue_weight R p z) 0

    abbrev closing_term : ℕ → ℕ
    closing_term z = cond (eqb z p.closing) R.S 0

    release_le : (z : ℕ) → 1 ≤ z → z ≤ R.M → cond (own.held z) (release_weight R p z) 0 ≤ victim_term z + closing_term z
    unfolding release_weight
    release_le z lo hi = by-test (λ (n : ℕ). n ≤ victim_term z + closing_term z) (own.held z) (λ h. rw (is_of_victim z lo hi h) (omega arith)) (λ _. omega arith)

    releases_le : sent_weight (λ z a. weight R p true t z a) (to_each (up release) own.held (one_to R.M)) ≤ releases_weight R p
    unfolding weight releases_weight
    releases_le = omega (
      arith,
      sent-each (λ z a. weight R p true t z a) (up release) own.held R.M,
      sum_mono R.M (λ z. cond (own.held z) (release_weight R p z) 0) (λ z. victim_term z + closing_term z) release_le,
      sum_add R.M victim_term closing_term,
      closing_le R.M R.S p.closing,
    )

    releases-allowed : Sent (λ z a. Allowed p (entry true t z a)) (to_each (up release) own.held (one_to R.M))
    releases-allowed = every-each (λ z a. Allowed p (entry true t z a)) (up release) own.held R.M
        (λ z lo hi h. (is_of_member R L p k z p.victim (held-by-victim z lo hi h) (victim-member R L p k), (is-victim, is_of_victim z lo hi h)))

  rolled-back : (b : Stage) → own.stage ≡ b → FitsOn (down withdrawn) (on_withdrawn R own b)
  unfolding on_withdrawn weight
  rolled-back growing q = drops (down withdrawn)
  rolled-back (waiting y) q = drops (down withdrawn)
  rolled-back (victim cleaning y) q = drops (down withdrawn)
  rolled-back (victim withdrawing y) q = record {
    turns = waits_no_more R p s t _ refl (λ _. omega arith) (rw q (omega arith)) (λ _. refl);
    allowed = releases-allowed y q;
    covered = omega (arith, releases_le y q);
  }
  rolled-back (releasing r) q = drops (down withdrawn)

  -- ---- probe
  module _ (a j : ℕ) (e : take_first false t x s.mailbox ≡ taken (probe a j) l) (o : of_member p x ≡ true) where
    holds : Live (world_of s) t → HolderIs (world_of s) x t
    holds live = (came R s i t x a j l e live).held

    -- no grant is behind the probe
    no_grant : count_kind Kind.grant (down_route s t x) ≡ 0
    unfolding down_route count_kind count_behind
    no_grant =
        let q = take_same false t x s.mailbox (probe a j) l e in
        let z : count_behind Kind.probe Kind.grant (route false t x s.mailbox) ≡ 0 = d.grant-first t x in
        let n : count_behind Kind.probe Kind.grant (probe a j ∷ route false t x l) ≡ 0 = rw q at z in
        rw q (omega (arith, n))

    -- a waiting session that is told of a probe is a member
    told-member : (y : ℕ) → own.stage ≡ waiting y → p.member t ≡ true
    unfolding held_by of_member
    told-member y q = cases (c.holders x)
      where
        cases : ((s.item x).holder ≡ (p.state.item x).holder) ⊎ HandedOver p s x → p.member t ≡ true
        cases (inl z) = sym (ap (held_by_member p) (sym z ∙ holds (ap is_live q))) ∙ o
        cases (inr h) =
            let n = holds (ap is_live q) in
            let f = (links★ R L p k).linked t x lo hi in
            let g = i.core.links.linked t x lo hi in
            let z : y ≡ x = bit-eqb y x (omega (arith, f.one_place, h.now t n, ap (λ (b : Stage). awaits b x) (c.waited t y q))) in
            absurd (omega (
              arith,
              g.own-only_if,
              g.release_when,
              g.held-not-awaited,
              no_grant,
              ap (λ (b : Stage). awaits b x) q,
              ap doomed q,
              ap may_release q,
              ap (λ (b : Option ℕ). bit (held_by b t)) n,
              ap bit (eqb_self t),
              ap (λ (w : ℕ). bit (eqb w x)) z,
              ap bit (eqb_self x),
            ))

    probed : (b : Stage) → own.stage ≡ b → FitsOn (probe a j) (on_probe R t own a j b)
    unfolding on_probe store_probe to_awaited sent_weight weight
    probed growing q = by-test (FitsOn (probe a j)) (is_news R own.stored a (junior R j t))
        (λ _. record { turns = same-stage R p s t c _ refl (λ _ w. absurd (omega (arith, w, ap is_waiting q))); allowed = every-nil; covered = omega arith })
        (λ _. drops (probe a j))
    probed (waiting y) q = by-test (FitsOn (probe a j)) (is_news R own.stored a (junior R j t))
        (λ _. record {
          turns = same-stage R p s t c _ refl (λ f _. absurd (true≢false (sym (told-member y q) ∙ f)));
          allowed = every-cons (awaited_of_member R L p k t y (told-member y q) (waits_no_victim y q) (c.waited t y q), tt) every-nil;
          covered = omega arith;
        })
        (λ _. drops (probe a j))
    probed (victim r y) q = drops (probe a j)
    probed (releasing r) q = drops (probe a j)

  -- ---- an abort to a waiting session would tell of another cycle
  aborted : (v a : ℕ) → take_first false t x s.mailbox ≡ taken (abort v a) l → (b : Stage) → own.stage ≡ b → FitsOn (abort v a) (on_abort R own v a b)
  unfolding on_abort
  aborted v a e growing q = drops (abort v a)
  aborted v a e (waiting y) q = absurd (none_to_abort R L p k s i c t (rw q (omega arith)) (told-cycle R s i t x v a y l e q))
  aborted v a e (victim r y) q = drops (abort v a)
  aborted v a e (releasing r) q = drops (abort v a)

  fits : (m : Message) → take_first false t x s.mailbox ≡ taken m l → FitsOn m (session_receives R t x own m)
  unfolding session_receives
  fits (up m) e = drops (up m)
  fits (down grant) e = granted own.stage refl
  fits (down resend) e = resent (every_take false t x (down resend) l c.mail e).0.0 own.stage refl
  fits (down withdrawn) e = rolled-back own.stage refl
  fits (probe a j) e = probed a j e (every_take false t x (probe a j) l c.mail e).0.0 own.stage refl
  fits (clean v a) e = cleaned R L p k s i c t x v a l e own.stage refl
  fits (abort v a) e = aborted v a e own.stage refl

pub session_clears : (R : Rules) (L : Laws R) (p : Snapshot) → Sound R p → (s : State) → Invariant R s → Tidy R s → Clearing p R s → (t x : ℕ) → 1 ≤ x → x ≤ R.M
    → (m : Message) (l : List Entry) → take_first false t x s.mailbox ≡ taken m l → Clearing p R (after_session s t l (session_receives R t x (s.session t) m))
session_clears R L p k s i d c t x lo hi m l e = kept R p s t c x m l e (session_receives R t x (s.session t) m) (fits R L p k s i d c t x lo hi l m e)
