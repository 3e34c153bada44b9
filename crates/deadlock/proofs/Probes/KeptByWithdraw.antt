-- A withdraw at an item: the one step that breaks a cycle. No probe that counts tells of the edge that goes.
use mathlib.Core.Path.{◌∙◌, ◌≡◌, ap, refl, sym}
use mathlib.Core.List.{[], ◌∷◌, List}
use mathlib.Core.Logic.{◌≢◌, ◌⊎◌, inl, inr}
use Prim.Native.Nat.{◌≤◌, ℕ}
use native.Mathlib.Omega.{arith}
use lib.Dec.{eqb}
use Rattle.lists.proofs.Tests.{by-test, eqb_self, same?}
use Rattle.deadlock.specs.Lists.{bit, occurs}
use Rattle.deadlock.specs.Machine.{cleaning, down, growing, Item, Message, releasing, rolled_back, Rules, Sends, shrinking, Stage, up, victim, waiting, withdraw, withdrawing, withdrawn}
use Rattle.message.specs.Kind
use Rattle.deadlock.specs.Counts.{behind-cons, behind-nil, clean_of, cleans_of, count_kind, EachBehind, sent_to}
use Rattle.deadlock.specs.Links.{withdraws}
use Rattle.deadlock.specs.Walks.{LastApart, onward_path, Path}
use Rattle.deadlock.specs.World.{ClearEdge, Edge, is_victim, is_cleaning, Known, Mail, Passed, Probes, stage_of, TellsDown, VictimIn, World}
use Rattle.deadlock.proofs.Laws.Lists.{occurs-without-le, occurs-without-other, updated-other, updated-same, zero-or-more}
use Rattle.deadlock.proofs.Laws.Counts.{cleansOf-append}
use Rattle.deadlock.proofs.Laws.Walks.{first_step, FirstStep, lastApart-walk, path-avoid, path-suffix, walk-map}
use Rattle.deadlock.proofs.Victims.OneOnCycle.{avoid-down-back, came-map, clean-down-is, clean-up-is, clear-edges, one-request-at, told-map}
use Rattle.deadlock.proofs.Probes.PathsStay.{item-probes, ItemTakes, ProbesKept, withdrawnItem, worldAfterItem}

module _ (R : Rules) {w : World} {t x : ℕ} {m : Message} (i : Item) {out : Sends} {mail : Mail} (ar : ItemTakes w t x m out mail) where
  abbrev pub after : World
  after = worldAfterItem w x i mail

  -- an edge that is clear now was clear before, where it stood and the message taken was no clean or was passed on
  pub clear-before : (v a b : ℕ) (c : ClearEdge R after v a b) (e : Edge R w a b) → e.item ≡ c.edge.item
      → (t ≡ a → x ≡ e.item → clean_of v m ≤ cleans_of v (sent_to b out)) → ClearEdge R w v a b
  unfolding cleans_of
  clear-before v a b c e q k = record { edge = e; above = above_of (same? t a) (same? x e.item); under = under_of (same? x e.item) }
    where
      above : cleans_of v (mail.up a e.item) ≡ 0
      above = rw q c.above

      under : cleans_of v (mail.down b e.item) ≡ 0
      under = rw q c.under

      under_of : Dec (x ≡ e.item) → cleans_of v (w.down b e.item) ≡ 0
      under_of (yes p) = rw (← p) (omega (arith, rw (← p) at under, ap (cleans_of v) (ar.down-at b), cleansOf-append v (w.down b x) (sent_to b out)))
      under_of (no p) = rw (← ar.down-off b e.item p) under

      above_of : Dec (t ≡ a) → Dec (x ≡ e.item) → cleans_of v (w.up a e.item) ≡ 0
      above_of (yes p) (yes z) =
          rw (← p, ← z)
          (let f = k p z in let g : cleans_of v (mail.up t x) ≡ 0 = rw (p, z) above in let u : cleans_of v (mail.down b x) ≡ 0 = rw z under in
          omega (arith, ap (cleans_of v) ar.head, ap (cleans_of v) (ar.down-at b), cleansOf-append v (w.down b x) (sent_to b out)))
      above_of (no p) d = rw (← ar.up-off a e.item (inl p)) above
      above_of (yes p) (no z) = rw (← ar.up-off a e.item (inr z)) above

  pub passed-before : ((v a b : ℕ) → (c : ClearEdge R after v a b) → ClearEdge R w v a b) → (v a : ℕ) → Passed R after v a → Passed R w v a
  passed-before f v a p = record { is-victim = p.is-victim; past = record { from = p.past.from; walk = walk-map (f v) p.past.walk; last = f v p.past.from a p.past.last } }

-- ---- withdraw
module _ {R : Rules} {w : World} (known : Known R w) {t x : ℕ} (lo : 1 ≤ x) (hi : x ≤ R.M)
    {mail : Mail} (ar : ItemTakes w t x (up withdraw) ((t, down withdrawn) ∷ []) mail) where
  abbrev pub afterWithdraw : World
  afterWithdraw = worldAfterItem w x (withdrawnItem w t x) mail

  pub withdraws-stage : VictimIn w t × (is_cleaning (stage_of w t) ≡ 0)
  unfolding count_kind
  withdraws-stage = cases (stage_of w t) (let k = known.links.linked t x lo hi in omega (arith, ap (count_kind Kind.withdraw) ar.head))
    where
      cases : (s : Stage) → 1 ≤ withdraws s x → (1 ≤ is_victim s) × (is_cleaning s ≡ 0)
      cases growing h = absurd (omega arith)
      cases (releasing shrinking) h = absurd (omega arith)
      cases (releasing rolled_back) h = absurd (omega arith)
      cases (waiting y) h = absurd (omega arith)
      cases (victim cleaning y) h = absurd (omega arith)
      cases (victim withdrawing y) h = omega arith

  pub queue_le : (a z : ℕ) → Dec (x ≡ z) → occurs a (afterWithdraw.item z).queue ≤ occurs a (w.item z).queue
  queue_le a z (yes q) = rw (← q, updated-same) (occurs-without-le a t (w.item x).queue)
  queue_le a z (no q) = rw (updated-other w.item x (withdrawnItem w t x) z q) (omega arith)

  pub holder-same : (z : ℕ) → Dec (x ≡ z) → (afterWithdraw.item z).holder ≡ (w.item z).holder
  holder-same z (yes q) = rw (← q, updated-same)
  holder-same z (no q) = rw (updated-other w.item x (withdrawnItem w t x) z q)

  pub queue-keep : (a z : ℕ) → a ≢ t → Dec (x ≡ z) → occurs a (afterWithdraw.item z).queue ≡ occurs a (w.item z).queue
  queue-keep a z ne (yes q) = rw (← q, updated-same) (occurs-without-other a t (w.item x).queue (λ p. ne (sym p)))
  queue-keep a z ne (no q) = rw (updated-other w.item x (withdrawnItem w t x) z q)

  edge-keep : (a b : ℕ) → a ≢ t → Edge R w a b → Edge R afterWithdraw a b
  edge-keep a b ne e = record { item = e.item; low = e.low; high = e.high; stands = omega (arith, e.stands, queue-keep a e.item ne (same? x e.item)); held = holder-same e.item (same? x e.item) ∙ e.held }

  pub edge-back : (a b : ℕ) → Edge R afterWithdraw a b → Edge R w a b
  edge-back a b e = record { item = e.item; low = e.low; high = e.high; stands = omega (arith, e.stands, queue_le a e.item (same? x e.item)); held = sym (holder-same e.item (same? x e.item)) ∙ e.held }

  passed-old : (v a : ℕ) → Passed R afterWithdraw v a → Passed R w v a
  unfolding edge-back
  passed-old = passed-before R (withdrawnItem w t x) ar (λ v a b c. clear-before R (withdrawnItem w t x) ar v a b c (edge-back a b c.edge) refl (λ _ _. omega arith))

  -- no clean of t is left, so its clean has passed whatever is reached from t
  passed-from : (a : ℕ) → LastApart (Edge R w) t a → Passed R w t a
  passed-from a p = record { is-victim = withdraws-stage.0; past = record { from = p.from; walk = walk-map (λ a b e. clear a b e) p.walk; last = clear p.from a p.last } }
    where
      clear : (a b : ℕ) → Edge R w a b → ClearEdge R w t a b
      clear a b e = record { edge = e; above = omega (arith, known.mail.up_le t a e.item, known.victims.one-clean t, withdraws-stage.1); under = omega (arith, known.mail.down_le t b e.item, known.victims.one-clean t, withdraws-stage.1) }

  first_edge : (a : ℕ) → LastApart (Edge R w) t a → (h : ℕ) × Edge R w t h
  first_edge a p = cases (first_step (lastApart-walk p))
    where
      cases : (t ≡ a) ⊎ FirstStep t a (lastApart-walk p) → (h : ℕ) × Edge R w t h
      cases (inl q) = cases_next (first_step p.walk)
        where
          cases_next : (t ≡ p.from) ⊎ FirstStep t p.from p.walk → (h : ℕ) × Edge R w t h
          cases_next (inl z) = (a, rw z p.last)
          cases_next (inr f) = (f.next, f.out)
      cases (inr f) = (f.next, f.out)

  off-path : (a : ℕ) {j : ℕ} {ps : List ℕ} → Path (Edge R w) j a ps → (Passed R w t a → occurs t ps ≡ 0) → occurs t ps ≡ 0
  off-path a {ps = ps} p f = cases (zero-or-more (occurs t ps))
    where
      cases : (occurs t ps ≡ 0) ⊎ (1 ≤ occurs t ps) → occurs t ps ≡ 0
      cases (inl z) = z
      cases (inr h) = f (passed-from a (path-suffix t p h))

  no-clean-up : (a z : ℕ) → LastApart (Edge R w) t a → count_kind Kind.clean (w.up a z) ≡ 0
  no-clean-up a z p = cases (zero-or-more (count_kind Kind.clean (w.up a z)))
    where
      cases : (count_kind Kind.clean (w.up a z) ≡ 0) ⊎ (1 ≤ count_kind Kind.clean (w.up a z)) → count_kind Kind.clean (w.up a z) ≡ 0
      cases (inl q) = q
      cases (inr q) = absurd (omega (arith, clean-up-is known t a z withdraws-stage.0 (first_edge a p).1 (lastApart-walk p) q, known.mail.up_le t a z, known.victims.one-clean t, withdraws-stage.1))

  no-clean-down : (a z : ℕ) → LastApart (Edge R w) t a → count_kind Kind.clean (w.down a z) ≡ 0
  no-clean-down a z p = cases (zero-or-more (count_kind Kind.clean (w.down a z)))
    where
      cases : (count_kind Kind.clean (w.down a z) ≡ 0) ⊎ (1 ≤ count_kind Kind.clean (w.down a z)) → count_kind Kind.clean (w.down a z) ≡ 0
      cases (inl q) = q
      cases (inr q) = absurd (omega (arith, clean-down-is known t a z withdraws-stage.0 (first_edge a p).1 (lastApart-walk p) q, known.mail.down_le t a z, known.victims.one-clean t, withdraws-stage.1))

  withdraw-kept : ProbesKept R (withdrawnItem w t x) lo hi ar
  unfolding sent_to count_kind occurs
  withdraw-kept = record {
    keep-stored = λ a l i j c. told-map R w afterWithdraw c (path-avoid t edge-keep c.path (off-path a c.path (λ p. c.avoid t p))) (λ v. passed-old v a);
    keep-up = λ a z _ _ s r b i j c. told-map R w afterWithdraw c (path-avoid t edge-keep c.path (off-path a c.path (λ p. c.avoid t (omega (arith, b, no-clean-up a z (clear-edges R w t a p.past)), p)))) (λ v q. (q.0, passed-old v a q.1));
    keep-down = λ a z l r p b e i j c.
        let edge : Edge R w c.from a = record { item = z; low = c.low; high = c.high; stands = c.stands; held = c.held } in
        let off : occurs t (c.from ∷ c.places) ≡ 0 = off-path a (onward_path c.path edge) (λ q. c.avoid t (omega (arith, b, no-clean-down a z (clear-edges R w t a q.past)), inl q)) in
        let ne : c.from ≢ t = λ q. absurd (omega (arith, ap bit (eqb_self t), ap (λ (y : ℕ). bit (eqb y t)) q)) in
        came-map R w afterWithdraw c (path-avoid t edge-keep c.path (omega arith)) (omega (arith, c.stands, queue-keep c.from z ne (same? x z))) (holder-same z (same? x z) ∙ c.held) (avoid-down-back R w afterWithdraw r p e (λ v. passed-old v a));
    queue = λ a z _ _ s. inl (omega (arith, queue_le a z (same? x z)));
    one-request = one-request-at known.links lo hi ar.head;
    sent-true = λ a l. by-test (EachBehind (TellsDown R afterWithdraw a x)) (eqb a t) (λ _. behind-cons tt behind-nil) (λ _. behind-nil);
  }

  pub withdraw-probes : Probes R w → Probes R afterWithdraw
  withdraw-probes h = item-probes R (withdrawnItem w t x) lo hi ar h withdraw-kept
