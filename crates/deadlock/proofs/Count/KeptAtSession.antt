-- A step of a session keeps the balance: it changes no queue, and whoever is rolled back by it was leaving.
use mathlib.Core.Path.{◌∙◌, ◌≡◌, ap, refl, subst, sym}
use mathlib.Core.Bool.{Bool, false, not, true}
use mathlib.Core.List.{List}
use mathlib.Core.Logic.{◌≢◌}
use Prim.Native.Nat.{◌+◌, ◌≤◌, ℕ}
use native.Mathlib.Omega.{arith}
use Rattle.lists.specs.Lists.{member}
use Rattle.lists.proofs.Tests.{fails, same?}
use Rattle.deadlock.specs.Lists.{bit}
use Rattle.deadlock.specs.Machine.{after_session, cleaning, down, Entry, Laws, Message, Rules, SessionStep, Stage, State, victim, withdrawing, withdrawn}
use Rattle.message.specs.Kind
use Rattle.deadlock.specs.Counts.{count_kind}
use Rattle.deadlock.specs.Links.{withdraws}
use Rattle.deadlock.specs.World.{is_cleaning}
use Rattle.deadlock.specs.Invariant.{Balance, down_route, Invariant, is_leaving, leaving}
use Rattle.deadlock.proofs.Laws.Lists.{bit-eqb, member-occurs, occurs-member, updated-other, updated-same}
use Rattle.deadlock.proofs.Laws.Stages.{awaits-item, awaits-one, awaitsVictim}
use Rattle.deadlock.proofs.Count.StandingCycles.{standing-same}
use Rattle.deadlock.proofs.Count.LeavingSessions.{aborted, count-changed, granted, releases-first, reopens, requests, rolls-back, StageMove, stays, withdraws-now}

module _ (R : Rules) (L : Laws R) (s : State) (k : Invariant R s) (t : ℕ) (lo : 1 ≤ t) (hi : t ≤ R.S) where
  -- a victim whose clean is on its way stands in the queue of the item that it awaits
  victim-queued : (y : ℕ) → (s.session t).stage ≡ victim cleaning y → ((1 ≤ y) × (y ≤ R.M)) × (member t (s.item y).queue ≡ true)
  victim-queued y e =
      let d = (k.core.victims.victim-waits t (omega (arith, ap is_cleaning e))).1 in
      let f = k.core.links.linked t d.item d.low d.high in
      let q : d.item ≡ y = awaits-one (awaits-item (s.session t).stage d.item (omega (arith, d.stands))) (rw e awaitsVictim) in
      ((omega (arith, q, d.low), omega (arith, q, d.high)), subst (λ (z : ℕ). member t (s.item z).queue ≡ true) q (occurs-member t (s.item d.item).queue d.stands))

  -- a session that withdraws, with the answer on its way, stands in that queue no more
  answered-leaving : (x y : ℕ) → 1 ≤ x → x ≤ R.M → 1 ≤ count_kind Kind.withdrawn (down_route s t x) → (s.session t).stage ≡ victim withdrawing y
      → member t (s.item y).queue ≡ false
  answered-leaving x y low high h e =
      let f = k.core.links.linked t x low high in
      let q : y ≡ x = bit-eqb y x (omega (arith, h, ap (λ (a : Stage). withdraws a x) e)) in
      rw q (fails (member t (s.item x).queue) (λ p. omega (arith, h, member-occurs t (s.item x).queue p)))

  module _ (m : Message) (here : m ≡ (down withdrawn) → (x : ℕ) × (1 ≤ x) × (x ≤ R.M) × (1 ≤ count_kind Kind.withdrawn (down_route s t x))) where
    abbrev now : Stage → ℕ
    now a = bit (is_leaving s.item t a)

    moved-leaving : (b : Stage) (c : Bool) → StageMove m (s.session t).stage b c → now (s.session t).stage ≡ bit c + now b
    moved-leaving b c (stays e) = omega (arith, ap now e)
    moved-leaving b c (requests y e f) = omega (arith, ap now e, ap now f)
    moved-leaving b c (releases-first e f) = omega (arith, ap now e, ap now f)
    moved-leaving b c (granted y e f) = omega (arith, ap now e, ap now f)
    moved-leaving b c (aborted y e f) = omega (arith, ap now e, ap now f)
    moved-leaving b c (withdraws-now y e f) = omega (arith, ap now e, ap now f, ap (λ (d : Bool). bit (not d)) (victim-queued y e).1)
    moved-leaving b c (rolls-back y z e f) =
        let x = here z in
        omega (arith, ap now e, ap now f, ap (λ (d : Bool). bit (not d)) (answered-leaving x.0 y x.1 x.2 x.3 e))
    moved-leaving b c (reopens p e f) = omega (arith, ap now e, ap now f)

    moved-in-range : ((y : ℕ) → (s.session t).stage ≡ victim withdrawing y → (1 ≤ y) × (y ≤ R.M)) → (b : Stage) (c : Bool) → StageMove m (s.session t).stage b c
        → (y : ℕ) → b ≡ victim withdrawing y → (1 ≤ y) × (y ≤ R.M)
    moved-in-range old b c (stays e) y q = old y (sym e ∙ q)
    moved-in-range old b c (requests z e f) y q = let n : ◌≡◌ {A = ℕ} 0 1 = cc in absurd (omega arith)
    moved-in-range old b c (releases-first e f) y q = let n : ◌≡◌ {A = ℕ} 0 1 = cc in absurd (omega arith)
    moved-in-range old b c (granted z e f) y q = let n : ◌≡◌ {A = ℕ} 0 1 = cc in absurd (omega arith)
    moved-in-range old b c (aborted z e f) y q = let n : ◌≡◌ {A = ℕ} 0 1 = cc in absurd (omega arith)
    moved-in-range old b c (withdraws-now z e f) y q = let n : z ≡ y = cc in let p = (victim-queued z e).0 in rw (← n) p
    moved-in-range old b c (rolls-back z n e f) y q = let n : ◌≡◌ {A = ℕ} 0 1 = cc in absurd (omega arith)
    moved-in-range old b c (reopens p e f) y q = let n : ◌≡◌ {A = ℕ} 0 1 = cc in absurd (omega arith)

    pub session-balance : (l : List Entry) (o : SessionStep) → Invariant R (after_session s t l o) → (c : Bool) → StageMove m (s.session t).stage o.after.stage c
        → (closed gone : ℕ) → Balance R s closed gone → Balance R (after_session s t l o) closed (gone + bit c)
    unfolding leaving after_session
    session-balance l o kr c v closed gone b = record {
      balance = omega (
        arith,
        b.balance,
        standing-same R L s r k kr (λ z. refl),
        moved-leaving o.after.stage c v,
        ap (λ (a : Stage). now a) after-own,
        count-changed R.S (λ u. is_leaving s.item u (s.session u).stage) (λ u. is_leaving s.item u (r.session u).stage) t lo hi (λ u _ _ ne. sym (ap (is_leaving s.item u) (after-other u ne))),
      );
      withdraws_in_range = is_in_range;
    }
      where
        r : State
        r = after_session s t l o

        after-own : (r.session t).stage ≡ o.after.stage
        after-own = rw updated-same

        after-other : (u : ℕ) → u ≢ t → (r.session u).stage ≡ (s.session u).stage
        after-other u ne = rw (updated-other s.session t o.after u (λ q. ne (sym q)))

        is_in_range : (u y : ℕ) → (r.session u).stage ≡ victim withdrawing y → (1 ≤ y) × (y ≤ R.M)
        is_in_range u y e = elim (same? u t) [
          | yes q ↦ moved-in-range (b.withdraws_in_range t) o.after.stage c v y (sym after-own ∙ (ap (λ (a : ℕ). (r.session a).stage) (sym q) ∙ e))
          | no q ↦ b.withdraws_in_range u y (sym (after-other u q) ∙ e)
        ]
