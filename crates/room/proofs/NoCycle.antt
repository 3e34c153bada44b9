-- While a cycle is dissolved no other cycle stands: an abort finds nobody who waits.
use mathlib.Core.Path.{◌∙◌, ◌≡◌, ap, sym}
use mathlib.Core.Bool.{true, true≢false}
use mathlib.Core.Option.{Option}
use mathlib.Core.Logic.{◌⊎◌, inl, inr}
use Prim.Native.Nat.{◌≤◌, ℕ}
use native.Mathlib.Omega.{arith}
use Rattle.lists.proofs.Tests.{eqb_self, same?}
use Rattle.deadlock.specs.Lists.{bit}
use Rattle.deadlock.specs.Machine.{held_by, Laws, Rules, State}
use Rattle.deadlock.specs.Links.{may_release}
use Rattle.deadlock.specs.Walks.{FirstApart, onward, rest, Walk}
use Rattle.deadlock.specs.World.{CycleOf, Edge, HolderIs, is_victim, is_waiting, Links, Queued}
use Rattle.deadlock.specs.Invariant.{Invariant, world_of}
use Rattle.deadlock.proofs.Laws.Seniority.{senior-not-senior}
use Rattle.deadlock.proofs.Laws.Stages.{seen-facts, stage-facts}
use Rattle.deadlock.proofs.Laws.Walks.{cycle-next, walk-append, walk-back, walk-keep}
use Rattle.deadlock.proofs.Victims.OneOnCycle.{one-edge, one-queue}
use Rattle.deadlock.proofs.Core.Kept.{links-of}
use Rattle.room.specs.Snapshot.{Snapshot, Sound}
use Rattle.room.specs.Phases.{Clearing, HandedOver}
use Rattle.room.proofs.Members.{Edge★, links★, member_back}

module _ (R : Rules) (L : Laws R) (p : Snapshot) (k : Sound R p) (s : State) (i : Invariant R s) (c : Clearing p R s) where
  abbrev Before : ℕ → ℕ → Type 0
  Before = Edge★ R L p k

  abbrev Now : ℕ → ℕ → Type 0
  Now = Edge R (world_of s)

  links : Links R (world_of s)
  links = links-of R L s i.core

  -- once the victim releases, nobody holds an item in whose queue it stands
  holds_or_awaits : (b x : ℕ) → 1 ≤ x → x ≤ R.M → HolderIs (world_of s) x b → Queued (world_of s) b x → 1 ≤ may_release (s.session p.victim).stage → ⊥
  unfolding held_by
  holds_or_awaits b x lo hi h q over = cases (same? b p.victim)
    where
      cases : Dec (b ≡ p.victim) → ⊥
      cases (yes e) =
          let f = links.linked b x lo hi in
          omega (arith, q, over, seen-facts (s.session b).stage x, ap (λ (t : ℕ). may_release (s.session t).stage) e)
      cases (no e) =
          let f = links.linked b x lo hi in
          omega (
            arith,
            q,
            ap (λ (o : Option ℕ). bit (held_by o b)) h,
            ap bit (eqb_self b),
            seen-facts (s.session b).stage x,
            stage-facts (s.session b).stage,
            c.only-victim b e,
          )

  -- a wait for somebody who waits is as old as the snapshot
  older : (u b n : ℕ) → Now u b → Now b n → Before u b
  older u b n e f = cases (c.holders e.item)
    where
      cases : ((s.item e.item).holder ≡ (p.state.item e.item).holder) ⊎ HandedOver p s e.item → Before u b
      cases (inl q) = record { item = e.item; low = e.low; high = e.high; stands = omega (arith, e.stands, c.queues u e.item); held = sym q ∙ e.held }
      cases (inr d) =
          let q : f.item ≡ e.item = one-queue (links★ R L p k) b f.item e.item f.low f.high e.low e.high (omega (arith, f.stands, c.queues b f.item)) (d.now b e.held) in
          absurd (holds_or_awaits b e.item e.low e.high e.held (rw q at f.stands) d.over)

  pub none_to_abort : (t : ℕ) → 1 ≤ is_waiting (s.session t).stage → CycleOf R (world_of s) t (λ u. R.senior u t ≡ true) → ⊥
  none_to_abort t w o = cases (o.others p.victim there)
    where
      onward-now : {u : ℕ} → Walk Now t u → FirstApart Now u t
      onward-now = cycle-next (one-edge links) o.cycle

      kept : (u b : ℕ) → Walk Now t u → Now u b → Before u b
      kept u b w e = let g = onward-now (onward w e) in older u b g.next e g.out

      before : FirstApart Before t t
      before = let g = o.cycle in record { next = g.next; out = kept t g.next rest g.out; walk = walk-keep (λ u b w. kept u b (walk-append (onward rest g.out) w)) g.walk }

      there : Walk Now t p.victim
      there = walk-back (λ u b w e. let g = onward-now w in rw (one-edge (links★ R L p k) u b g.next e (kept u g.next w g.out)) g.out) (member_back R L p k t (k.one-cycle t before))

      apart : p.victim ≡ t → ⊥
      apart q = omega (arith, w, c.victim-stage, stage-facts (s.session t).stage, ap (λ (u : ℕ). is_victim (s.session u).stage) q, ap (λ (u : ℕ). may_release (s.session u).stage) q)

      senior : (t ≡ p.victim) ⊎ (R.senior t p.victim ≡ true) → R.senior p.victim t ≡ true → ⊥
      senior (inl q) e = apart (sym q)
      senior (inr f) e = true≢false (sym e ∙ senior-not-senior R L t p.victim f)

      cases : (p.victim ≡ t) ⊎ (R.senior p.victim t ≡ true) → ⊥
      cases (inl q) = apart q
      cases (inr e) = senior (k.most-junior t (k.one-cycle t before)) e
