-- The clauses on probes are kept by a probe, a clean, a rebroadcast and a dropped message at an item.
use mathlib.Core.Path.{◌≡◌, ap, refl}
use mathlib.Core.Bool.{false}
use mathlib.Core.List.{[], ◌∷◌}
use mathlib.Core.Option.{none, Option, some}
use mathlib.Core.Logic.{◌⊎◌, inl, inr}
use Prim.Native.Nat.{◌≤◌, ℕ}
use native.Mathlib.Omega.{arith}
use lib.Dec.{eqb}
use Rattle.lists.proofs.Tests.{by-test, eqb_self}
use Rattle.deadlock.specs.Lists.{occurs, without}
use Rattle.deadlock.specs.Machine.{clean, in_queue, item_receives, Laws, Message, on_rebroadcast, pass_clean, pass_probe, probe, rebroadcast, Rules, Sends, up}
use Rattle.message.specs.Kind
use Rattle.deadlock.specs.Counts.{clean_of, cleans_of, cleans_sent, count_kind, EachBehind, every-cons, every-nil, kind_of, OfProbe, sent_to}
use Rattle.deadlock.specs.World.{CameTo, HolderIs, is_victim, Known, Mail, MustAvoidUp, NotSenior, Probes, Queued, stage_of, TellsUp, ToldOf, VictimIn, World}
use Rattle.deadlock.proofs.Laws.Lists.{updated-same, zero-or-more}
use Rattle.deadlock.proofs.Laws.Stages.{stage-facts}
use Rattle.deadlock.proofs.Laws.Counts.{behind-head, cleansOf-append, cleansOf-sentTo, cleansSent-onRebroadcast, cleansSent-probe, cleansSent-probesAnew, inQueue-queued, TellsTo}
use Rattle.deadlock.proofs.Laws.Walks.{path-map}
use Rattle.deadlock.proofs.Victims.OneOnCycle.{victim-of-up}
use Rattle.deadlock.proofs.Probes.PathsStay.{ItemTakes, worldAfterItem}
use Rattle.deadlock.proofs.Probes.PassedOn.{MustAvoid, passes-avoiding, same-edge, same-passed-back, same-probes, told-queue, ToldTo}

module _ {R : Rules} (L : Laws R) {w : World} (known : Known R w) (t x : ℕ) (lo : 1 ≤ x) (hi : x ≤ R.M)
    (mail : Mail) where
  abbrev pub after : World
  after = worldAfterItem w x (w.item x) mail

  -- ---- probe
  module _ (i j : ℕ) (ar : ItemTakes w t x (probe i j) (item_receives R t (w.item x) (probe i j)).sends mail) (tr : Probes R w) where
    abbrev probeSends : Sends
    probeSends = (item_receives R t (w.item x) (probe i j)).sends

    abbrev probe-moves-no-clean : (v b : ℕ) → Queued w t x → HolderIs w x b → clean_of v (probe i j) ≤ cleans_of v (sent_to b probeSends)
    probe-moves-no-clean v b s e = omega arith

    probe-passed : (h : ℕ) → Queued w t x → HolderIs w x h → NotSenior R h i → CameTo R after i j h x (MustAvoid R after h x)
    unfolding occurs
    probe-passed h s e jr =
        let tl : EachBehind (TellsUp R w t) (probe i j ∷ mail.up t x) = rw ar.head at (tr.up-true t x lo hi s) in
        let c : ToldOf R w i j t (MustAvoidUp R w t (mail.up t x)) = behind-head tl in
        record {
          from = t;
          places = c.places;
          path = path-map (same-edge L known lo hi ar probe-moves-no-clean) c.path;
          low = lo;
          high = hi;
          stands = rw updated-same s;
          held = rw updated-same e;
          avoid = λ v b. passes-avoiding L known t x lo hi i j h (mail.up t x) ar.head s e (victim-or-not (zero-or-more (is_victim (stage_of w t)))) c v (avoid-old v b);
          ranks = record { junior_to_all = every-cons c.last c.ranks.junior_to_all; senior_to_all = every-cons c.ranks.end-not-senior c.ranks.senior_to_all; has-junior = omega (arith, c.ranks.has-junior); end-not-senior = jr };
        }
      where
        avoid-old : (v : ℕ) → MustAvoid R after h x v → MustAvoid R w h x v
        avoid-old v (inl p) = inl (same-passed-back L known lo hi ar probe-moves-no-clean v h p)
        avoid-old v (inr p) = inr (omega (arith, ap (cleans_of v) (ar.down-at h), cleansOf-append v (w.down h x) (sent_to h probeSends), cleansOf-sentTo v h probeSends, cleansSent-probe R v t (w.item x) i j))

        victim-or-not : (is_victim (stage_of w t) ≡ 0) ⊎ VictimIn w t
            → EachBehind (λ m r. OfProbe (λ _ _. 1 ≤ count_kind Kind.clean r) m) (w.up t x) ⊎ (is_victim (stage_of w t) ≡ 0)
        victim-or-not (inl z) = inr z
        victim-or-not (inr z) = inl (known.victims.clean-behind-probes t x lo hi z s)

    told-passProbe : (o : Option ℕ) → (w.item x).holder ≡ o → Queued w t x → ToldTo R after x (pass_probe R i j o)
    unfolding pass_probe TellsTo
    told-passProbe none e s = every-nil
    told-passProbe (some h) e s =
        by-test (ToldTo R after x) (R.senior h i) (λ _. every-nil) (λ sn. by-test (ToldTo R after x) (eqb h i) (λ _. every-cons tt every-nil) (λ _. every-cons (probe-passed h s e sn) every-nil))

    pub probe-probes : Probes R after
    unfolding item_receives
    probe-probes =
        same-probes L known lo hi ar probe-moves-no-clean refl
        (by-test (ToldTo R after x) (in_queue R t (w.item x)) (λ e. told-passProbe (w.item x).holder refl (inQueue-queued R t (w.item x) e)) (λ _. every-nil)) tr

  -- ---- clean
  module _ (v0 i0 : ℕ) (ar : ItemTakes w t x (clean v0 i0) (item_receives R t (w.item x) (clean v0 i0)).sends mail) (tr : Probes R w) where
    abbrev cleanSends : Sends
    cleanSends = (item_receives R t (w.item x) (clean v0 i0)).sends

    clean-moves-on : (v b : ℕ) → Queued w t x → HolderIs w x b → clean_of v (clean v0 i0) ≤ cleans_of v (sent_to b cleanSends)
    unfolding item_receives pass_clean sent_to cleans_of
    clean-moves-on v b s e = rw (e, eqb_self) (omega arith)

    cleansSent-passClean : (v : ℕ) (o : Option ℕ) → cleans_sent v (pass_clean R t v0 i0 (w.item x).queue o) ≤ clean_of v (clean v0 i0)
    unfolding cleans_sent pass_clean
    cleansSent-passClean v none = omega arith
    cleansSent-passClean v (some h) = omega (arith, cleansSent-probesAnew R v h (w.item x).queue (without t (w.item x).queue))

    sent-of-victim : (v h : ℕ) → 1 ≤ cleans_of v (sent_to h cleanSends) → VictimIn w v
    unfolding item_receives cleans_of
    sent-of-victim v h p = omega (arith, victim-of-up known v t x (omega (arith, ap (cleans_of v) ar.head, cleansOf-sentTo v h cleanSends, cleansSent-passClean v (w.item x).holder)), stage-facts (stage_of w v))

    told-passClean : (o : Option ℕ) → (w.item x).holder ≡ o → ToldTo R after x (pass_clean R t v0 i0 (w.item x).queue o)
    unfolding pass_clean TellsTo
    told-passClean none e = every-nil
    told-passClean (some h) e = every-cons tt (told-queue L known lo hi ar clean-moves-on h _ e (λ v p. sent-of-victim v h p))

    pub clean-probes : Probes R after
    unfolding item_receives
    clean-probes = same-probes L known lo hi ar clean-moves-on refl (told-passClean (w.item x).holder refl) tr

  -- ---- rebroadcast
  module _ (ar : ItemTakes w t x (up rebroadcast) (item_receives R t (w.item x) (up rebroadcast)).sends mail) (tr : Probes R w) where
    abbrev rebroadcastSends : Sends
    rebroadcastSends = (item_receives R t (w.item x) (up rebroadcast)).sends

    abbrev rebroadcast-moves-no-clean : (v b : ℕ) → Queued w t x → HolderIs w x b
        → clean_of v (up rebroadcast) ≤ cleans_of v (sent_to b rebroadcastSends)
    rebroadcast-moves-no-clean v b s e = omega arith

    told-onRebroadcast : (o : Option ℕ) → (w.item x).holder ≡ o → ToldTo R after x (on_rebroadcast R (w.item x).queue o)
    unfolding on_rebroadcast item_receives
    told-onRebroadcast none e = every-nil
    told-onRebroadcast (some h) e = told-queue L known lo hi ar rebroadcast-moves-no-clean h _ e
        (λ v p. absurd (omega (arith, cleansOf-sentTo v h rebroadcastSends, cleansSent-onRebroadcast R v (w.item x).queue (w.item x).holder)))

    pub rebroadcast-probes : Probes R after
    unfolding item_receives
    rebroadcast-probes = same-probes L known lo hi ar rebroadcast-moves-no-clean refl (told-onRebroadcast (w.item x).holder refl) tr

  -- ---- what is dropped
  pub drop-probes : (m : Message) → ItemTakes w t x m [] mail → eqb (kind_of m) Kind.request ≡ false → ((v : ℕ) → clean_of v m ≡ 0) → Probes R w → Probes R after
  drop-probes m ar nr nc tr = same-probes L known lo hi ar (λ v b s e. omega (arith, nc v)) nr every-nil tr
