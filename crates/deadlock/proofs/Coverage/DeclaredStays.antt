-- A declared cycle stays declared through an item's step, and nothing is owed on a cycle that is being broken.
use mathlib.Core.Path.{◌∙◌, ◌≡◌, ap, refl, sym}
use mathlib.Core.Bool.{Bool, false, not, true}
use mathlib.Core.List.{[], ◌∷◌}
use mathlib.Core.Option.{none, Option, some}
use mathlib.Core.Logic.{◌≢◌, ◌⊎◌, inl, inr}
use Prim.Native.Nat.{◌+◌, ◌≤◌, ℕ}
use native.Mathlib.Omega.{arith}
use lib.Dec.{eqb}
use Rattle.lists.proofs.Tests.{eqb_self, same?}
use borrow.Author.Tests.{ne_eqb}
use Rattle.deadlock.specs.Lists.{bit, occurs}
use Rattle.deadlock.specs.Machine.{down, grant_or_queue, in_queue, is_live, Item, item_receives, Laws, Message, pass_probe, probe, release, request, Rules, Sends, up, withdraw, withdrawn}
use Rattle.message.specs.Kind
use Rattle.deadlock.specs.Counts.{count_kind, EachBehind, is_stored, sent_to}
use Rattle.deadlock.specs.Walks.{FirstApart, LastApart, onward, rest, Walk}
use Rattle.deadlock.specs.World.{ClearEdge, Edge, HolderIs, is_cleaning, is_victim, Known, Live, Mail, MustAvoidUp, Passed, Probes, Queued, stage_of, TellsUp, ToldOf, VictimIn, World}
use Rattle.deadlock.specs.Coverage.{AbortPending, Coverage, CycleDeclared}
use Rattle.deadlock.proofs.Laws.Lists.{bit-eqb, bit-one, zero-or-more}
use Rattle.deadlock.proofs.Laws.Routes.{countKind-append}
use Rattle.deadlock.proofs.Laws.Stages.{seen-facts, stage-facts}
use Rattle.deadlock.proofs.Laws.Counts.{behind-head, not-inQueue}
use Rattle.deadlock.proofs.Laws.Walks.{cycle-back, path-has-cycle, path-walk, walk-append, walk-lastApart, walk-map}
use Rattle.deadlock.proofs.Victims.OneOnCycle.{one-edge}
use Rattle.deadlock.proofs.Probes.PathsStay.{ItemTakes, withdrawnItem, worldAfterItem}
use Rattle.deadlock.proofs.Probes.KeptByWithdraw.{withdraws-stage}
use Rattle.deadlock.proofs.Probes.ClosedPath.{declare-cycle, declared-cycle-of, DeclaredCycle}
use Rattle.deadlock.proofs.Victims.CyclesStay.{CycleStays, stays-cycle, stays-walk}
use Rattle.deadlock.proofs.Victims.KeptAtItem.{unchanged-stays}
use Rattle.deadlock.proofs.Victims.KeptByWithdraw.{withdraw-stays}
use Rattle.deadlock.proofs.Core.KeptByRequestAndRelease.{granted-stays, queued-stays, released-stays}
use Rattle.deadlock.proofs.Coverage.AfterItem.{DeclaredKept, down-kind-ge}

module _ {R : Rules} (L : Laws R) {w : World} (known : Known R w) (tr : Probes R w) where
  -- a session that waits for the initiator of a probe that it stores lies on a cycle, which the probe's path goes round
  owed-cycle : (t h : ℕ) → Live w t → (w.session t).stored h ≢ 0 → Edge R w t h → FirstApart (Edge R w) t t
  owed-cycle t h l ne e =
      let told = tr.stored-true t l h ne in
      record { next = h; out = e; walk = path-walk told.path }

  -- no member of a victim's cycle waits for the initiator of a probe that it stores, once the clean has gone all the way round
  no-owed-on-broken : (v t h : ℕ) → VictimIn w v → is_cleaning (stage_of w v) ≡ 0 → Live w t
      → (w.session t).stored h ≢ 0 → Edge R w t h → Walk (Edge R w) t v → ⊥
  unfolding occurs
  no-owed-on-broken v t h i z l ne e y =
      let told = tr.stored-true t l h ne in
      let cycle = owed-cycle t h l ne e in
      cases told (path-has-cycle (one-edge known.links) told.path e v (walk-append (path-walk told.path) y)) (walk-lastApart (cycle-back (one-edge known.links) cycle y))
    where
      clear : (a b : ℕ) → Edge R w a b → ClearEdge R w v a b
      clear a b d = record { edge = d; above = omega (arith, known.mail.up_le v a d.item, known.victims.one-clean v, z); under = omega (arith, known.mail.down_le v b d.item, known.victims.one-clean v, z) }

      differs : t ≢ v
      differs q = omega (arith, i, stage-facts (stage_of w v), ap (λ (u : ℕ). bit (is_live (stage_of w u))) q, ap bit l)

      cases : (told : ToldOf R w h ((w.session t).stored h) t (λ u. Passed R w u t)) → 1 ≤ bit (eqb t v) + occurs v told.places
          → (v ≡ t) ⊎ LastApart (Edge R w) v t → ⊥
      cases told stays (inl q) = differs (sym q)
      cases told stays (inr p) =
          let q : Passed R w v t = record { is-victim = i; past = record { from = p.from; walk = walk-map clear p.walk; last = clear p.from t p.last } } in
          omega (arith, stays, ap bit (ne_eqb t v differs), told.avoid v q)

isStored-nonzero : (stage-now : ℕ → ℕ) (i : ℕ) → 1 ≤ is_stored stage-now i → stage-now i ≢ 0
isStored-nonzero stage-now i h e = omega (arith, h, ap (λ (stays : ℕ). bit (not (eqb stays 0))) e)

module _ {R : Rules} (L : Laws R) {w : World} (known : Known R w) (tr : Probes R w) (cov : Coverage R w) (t x : ℕ) (lo : 1 ≤ x) (hi : x ≤ R.M) (mail : Mail) where
  module _ {m : Message} (i : Item) {out : Sends} (ar : ItemTakes w t x m out mail) where
    abbrev after : World
    after = worldAfterItem w x i mail

    declared-after-item : (a : ℕ) → CycleStays known i lo hi ar a → CycleDeclared R w a → CycleDeclared R after a
    declared-after-item a stays d = record { cycle = stays-cycle known i lo hi ar stays; place = d.place; walk = stays-walk known i lo hi ar stays d.walk; how = cases d.how }
      where
        cases : VictimIn w d.place ⊎ AbortPending R w d.place → VictimIn w d.place ⊎ AbortPending R after d.place
        cases (inl v) = inl v
        cases (inr p) = inr (record { waits = p.waits; item = p.item; sent = omega (arith, p.sent, down-kind-ge R i lo hi ar Kind.abort d.place p.item (same? x p.item)) })

  pub unchanged-declared : (m : Message) (out : Sends) (ar : ItemTakes w t x m out mail) → DeclaredKept R (w.item x) lo hi ar
  unchanged-declared m out ar a h e p d = declared-after-item (w.item x) ar a (unchanged-stays L known t x lo hi mail ar a d.cycle) d

  pub queued-declared : (h0 : ℕ) → (e : HolderIs w x h0) (ar : ItemTakes w t x (up request) (grant_or_queue R t (w.item x).queue (some h0)).sends mail)
      → DeclaredKept R (grant_or_queue R t (w.item x).queue (some h0)).after lo hi ar
  queued-declared h0 e ar a h _ p d = declared-after-item _ ar a (queued-stays L known t x lo hi mail (mail.up t x) ar.head h0 e ar a d.cycle) d

  pub granted-declared : (e : (w.item x).holder ≡ none) (ar : ItemTakes w t x (up request) (grant_or_queue R t (w.item x).queue none).sends mail)
      → DeclaredKept R (grant_or_queue R t (w.item x).queue none).after lo hi ar
  granted-declared e ar a h _ p d = declared-after-item _ ar a (granted-stays L known t x lo hi mail (mail.up t x) ar.head e ar a d.cycle) d

  pub released-declared : (i : Item) (out : Sends) → ((a : ℕ) → occurs a i.queue ≤ occurs a (w.item x).queue) → (ar : ItemTakes w t x (up release) out mail)
      → DeclaredKept R i lo hi ar
  released-declared i out less ar a h _ p d = declared-after-item i ar a (released-stays L known t x lo hi mail (mail.up t x) ar.head i less ar a d.cycle) d

  -- a withdraw: on the cycle that it breaks no clause speaks of a declared cycle
  pub withdraw-declared : (ar : ItemTakes w t x (up withdraw) ((t, down withdrawn) ∷ []) mail) → DeclaredKept R (withdrawnItem w t x) lo hi ar
  withdraw-declared ar a h e p d =
      declared-after-item _ ar a (withdraw-stays L known lo hi ar a d.cycle
      (λ y. no-owed-on-broken L known tr t a h stage-now.0 stage-now.1 live_now (isStored-nonzero (w.session a).stored h p) e y)) d
    where
      stage-now : VictimIn w t × (is_cleaning (stage_of w t) ≡ 0)
      stage-now = withdraws-stage known lo hi ar

      live_now : Live w a
      live_now = cases (zero-or-more (is_victim (stage_of w a)))
        where
          cases : (is_victim (stage_of w a) ≡ 0) ⊎ VictimIn w a → Live w a
          cases (inl z) = let stays = known.links.linked a e.item e.low e.high in bit-one (is_live (stage_of w a)) (omega (arith, z, e.stands, seen-facts (stage_of w a) e.item, stage-facts (stage_of w a)))
          cases (inr z) = absurd (isStored-nonzero (w.session a).stored h p (cov.victim-stores-none a h z))

  -- a declaration makes the cycle declared
  pub probe-declares : (i j : ℕ) (ar : ItemTakes w t x (probe i j) (item_receives R t (w.item x) (probe i j)).sends mail) → (h : ℕ) → 1 ≤ bit (eqb i h)
      → HolderIs w x h → Queued w t x → CycleDeclared R (worldAfterItem w x (w.item x) mail) t
  unfolding item_receives pass_probe sent_to count_kind
  probe-declares i j ar h p e s =
      record {
        cycle = stays-cycle known (w.item x) lo hi ar stays;
        place = j;
        walk = stays-walk known (w.item x) lo hi ar stays (walk-append (onward rest edge) declared.on-cycle);
        how = cases (zero-or-more (is_victim (stage_of w j)));
      }
    where
      is_held_by : HolderIs w x i
      is_held_by = e ∙ ap some (sym (bit-eqb i h p))

      edge : Edge R w t i
      edge = record { item = x; low = lo; high = hi; stands = s; held = is_held_by }

      told : ToldOf R w i j t (MustAvoidUp R w t (mail.up t x))
      told = let tl : EachBehind (TellsUp R w t) (probe i j ∷ mail.up t x) = rw ar.head at (tr.up-true t x lo hi s) in behind-head tl

      declared : DeclaredCycle L known.links i j
      declared = declare-cycle L known.links told edge

      stays : CycleStays known (w.item x) lo hi ar t
      stays = unchanged-stays L known t x lo hi mail ar t (record { next = i; out = edge; walk = path-walk told.path })

      sent : (o : Option ℕ) → o ≡ some i → 1 ≤ count_kind Kind.abort (sent_to j (pass_probe R i j o))
      sent o q = rw (q, L.irreflexive i, eqb_self i, eqb_self j) (omega arith)

      cases : (is_victim (stage_of w j) ≡ 0) ⊎ VictimIn w j → VictimIn w j ⊎ AbortPending R (worldAfterItem w x (w.item x) mail) j
      cases (inr v) = inl v
      cases (inl z) =
          let d = (declared-cycle-of L known.links declared).cycle.out in
          let stage-now = known.links.linked j d.item d.low d.high in
          inr (record {
            waits = omega (arith, z, d.stands, seen-facts (stage_of w j) d.item);
            item = x;
            sent = omega (arith, ap (count_kind Kind.abort) (ar.down-at j), countKind-append Kind.abort (w.down j x) (sent_to j (item_receives R t (w.item x) (probe i j)).sends), abort-sent (in_queue R t (w.item x)) refl);
          })
        where
          abort-sent : (b : Bool) → in_queue R t (w.item x) ≡ b → 1 ≤ count_kind Kind.abort (sent_to j (item_receives R t (w.item x) (probe i j)).sends)
          abort-sent true q = rw q (sent (w.item x).holder is_held_by)
          abort-sent false q = absurd (omega (arith, s, not-inQueue R t (w.item x) q))
