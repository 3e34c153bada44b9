-- What an item's step leaves of the clauses on probes, from what it does to the path of each probe and what it sends.
use mathlib.Core.Path.{◌∙◌, ◌≡◌, ap, refl, sym}
use mathlib.Core.Bool.{Bool, cond, false, true}
use mathlib.Core.List.{[], ◌++◌, ◌∷◌, append-nil, List}
use mathlib.Core.Logic.{◌≢◌, ◌⊎◌, inl, inr}
use Prim.Native.Nat.{◌≤◌, suc, zero, ℕ}
use native.Mathlib.Omega.{arith}
use lib.Dec.{eqb}
use Rattle.lists.proofs.Tests.{same?}
use Rattle.deadlock.specs.Lists.{bit, updated, without}
use Rattle.deadlock.specs.Machine.{Item, Message, request, Rules, Sends, up}
use Rattle.message.specs.Kind
use Rattle.deadlock.specs.Counts.{behind-nil, behind_request, count_kind, EachBehind, kind_of, sent_to}
use Rattle.deadlock.specs.World.{CameTo, Live, Mail, MustAvoidDown, MustAvoidUp, Passed, Probes, Queued, TellsDown, TellsUp, ToldOf, World}
use Rattle.deadlock.proofs.Laws.Counts.{behind-map, behind-same, behind-tail, behindRequest-le, behindRequest-none, ofProbe-map}

-- the world after an item's step, with the messages that are then on their way
abbrev pub worldAfterItem : World → ℕ → Item → Mail → World
worldAfterItem w x i mail = record { session = w.session; item = updated w.item x i; up = mail.up; down = mail.down; total = mail.total }

-- item x once session t has left its queue
abbrev pub withdrawnItem : World → ℕ → ℕ → Item
withdrawnItem w t x = record { holder = (w.item x).holder; queue = without t (w.item x).queue }

-- item x takes message m of session t and sends `out`
pub record ItemTakes (w : World) (t x : ℕ) (m : Message) (out : Sends) (mail : Mail) : Type 0 where
  pub head : w.up t x ≡ m ∷ mail.up t x
  pub up-off : (a z : ℕ) → (t ≢ a) ⊎ (x ≢ z) → mail.up a z ≡ w.up a z
  pub down-at : (a : ℕ) → mail.down a x ≡ w.down a x ++ sent_to a out
  pub down-off : (a z : ℕ) → x ≢ z → mail.down a z ≡ w.down a z

module _ (R : Rules) {w : World} {t x : ℕ} {m : Message} (i : Item) {out : Sends} {mail : Mail} (lo : 1 ≤ x) (hi : x ≤ R.M) (ar : ItemTakes w t x m out mail) where
  abbrev pub after : World
  after = worldAfterItem w x i mail

  -- what is kept of the messages up
  pub up-behind : {Q : Message → List Message → Type 0} (a z : ℕ) → Dec (t ≡ a) → Dec (x ≡ z) → EachBehind Q (w.up a z) → EachBehind Q (mail.up a z)
  up-behind {Q} a z (yes p) (yes q) h = let k : EachBehind Q (w.up t x) = rw (p, q) h in let k2 : EachBehind Q (mail.up t x) = behind-tail (rw ar.head at k) in rw (← p, ← q) k2
  up-behind a z (no p) d h = rw (ar.up-off a z (inl p)) h
  up-behind a z (yes p) (no q) h = rw (ar.up-off a z (inr q)) h

  up-behindRequest : {Q : Message → List Message → Type 0} (a z : ℕ) → Dec (t ≡ a) → Dec (x ≡ z) → count_kind Kind.request (m ∷ mail.up t x) ≤ 1
      → EachBehind Q (behind_request (w.up a z)) → EachBehind Q (behind_request (mail.up a z))
  unfolding behind_request count_kind
  up-behindRequest {Q} a z (yes p) (yes q) one h = rw (← p, ← q) (cases (eqb (kind_of m) Kind.request) refl (let k : EachBehind Q (behind_request (w.up t x)) = rw (p, q) h in rw ar.head at k))
    where
      cases : (b : Bool) → eqb (kind_of m) Kind.request ≡ b → EachBehind Q (cond b (mail.up t x) (behind_request (mail.up t x)))
          → EachBehind Q (behind_request (mail.up t x))
      cases true e k = rw (behindRequest-none (mail.up t x) (omega (arith, ap bit e))) behind-nil
      cases false e k = k
  up-behindRequest a z (no p) d one h = rw (ar.up-off a z (inl p)) h
  up-behindRequest a z (yes p) (no q) one h = rw (ar.up-off a z (inr q)) h

  pub up_le : (k a z : ℕ) → Dec (t ≡ a) → Dec (x ≡ z) → count_kind k (mail.up a z) ≤ count_kind k (w.up a z)
  unfolding count_kind
  up_le k a z (yes p) (yes q) = rw (← p, ← q) (omega (arith, ap (count_kind k) ar.head))
  up_le k a z (no p) d = omega (arith, ap (count_kind k) (ar.up-off a z (inl p)))
  up_le k a z (yes p) (no q) = omega (arith, ap (count_kind k) (ar.up-off a z (inr q)))

  -- t joins the queue
  joined-queue : {Q : Message → List Message → Type 0} → m ≡ (up request) → EachBehind Q (behind_request (w.up t x)) → EachBehind Q (mail.up t x)
  unfolding behind_request
  joined-queue {Q} e h = let k : EachBehind Q (behind_request (up request ∷ mail.up t x)) = rw (ar.head, e) at h in k

  -- what an item's step has to keep: the paths of stored probes, of probes up and of probes down; who joins the queue; and what it sends is true
  pub record ProbesKept : Type 0 where
    pub keep-stored : (a : ℕ) → Live w a → (i j : ℕ) → ToldOf R w i j a (λ v. Passed R w v a) → ToldOf R after i j a (λ v. Passed R after v a)
    pub keep-up : (a z : ℕ) → 1 ≤ z → z ≤ R.M → Queued after a z ⊎ (1 ≤ count_kind Kind.request (mail.up a z)) → (r : List Message)
        → count_kind Kind.clean r ≤ count_kind Kind.clean (w.up a z) → (i j : ℕ) → ToldOf R w i j a (MustAvoidUp R w a r)
        → ToldOf R after i j a (MustAvoidUp R after a r)
    pub keep-down : (a z : ℕ) → Live w a → (r p : List Message) → count_kind Kind.clean r ≤ count_kind Kind.clean (w.down a z)
        → (mail.down a z ≡ w.down a z ++ p) → (i j : ℕ) → CameTo R w i j a z (MustAvoidDown R w a z r)
        → CameTo R after i j a z (MustAvoidDown R after a z (r ++ p))
    pub queue : (a z : ℕ) → 1 ≤ z → z ≤ R.M → Queued after a z → Queued w a z ⊎ ((t ≡ a) × (x ≡ z) × (m ≡ (up request)))
    pub one-request : count_kind Kind.request (m ∷ mail.up t x) ≤ 1
    pub sent-true : (a : ℕ) → Live w a → EachBehind (TellsDown R after a x) (sent_to a out)

  pub item-probes : Probes R w → ProbesKept → Probes R after
  item-probes h c = record {
    stored-true = λ a l j ne. c.keep-stored a l j ((w.session a).stored j) (h.stored-true a l j ne);
    up-true = λ a z lo' hi' s. behind-same (count_kind Kind.clean (w.up a z)) (λ m' r b. ofProbe-map (λ i j. c.keep-up a z lo' hi' (inl s) r b i j) m') (up_le Kind.clean a z (same? t a) (same? x z)) (in-queue a z lo' hi' s (c.queue a z lo' hi' s));
    up-true-behind-request = λ a z lo' hi'. asked a z lo' hi' (count_kind Kind.request (mail.up a z)) refl;
    down-true = λ a z l. down a z l (same? x z);
  }
    where
      in-queue : (a z : ℕ) → 1 ≤ z → z ≤ R.M → Queued after a z → Queued w a z ⊎ ((t ≡ a) × (x ≡ z) × (m ≡ (up request)))
          → EachBehind (TellsUp R w a) (mail.up a z)
      in-queue a z lo' hi' s (inl s') = up-behind a z (same? t a) (same? x z) (h.up-true a z lo' hi' s')
      in-queue a z lo' hi' s (inr j) = let k : EachBehind (TellsUp R w t) (mail.up t x) = joined-queue j.2 (h.up-true-behind-request t x lo hi) in rw (← j.0, ← j.1) k

      asked : (a z : ℕ) → 1 ≤ z → z ≤ R.M → (k : ℕ) → count_kind Kind.request (mail.up a z) ≡ k → EachBehind (TellsUp R after a) (behind_request (mail.up a z))
      asked a z lo' hi' zero e = rw (behindRequest-none (mail.up a z) e) behind-nil
      asked a z lo' hi' (suc k) e =
          behind-same (count_kind Kind.clean (w.up a z)) (λ m' r b. ofProbe-map (λ i j. c.keep-up a z lo' hi' (inr (omega arith)) r b i j) m') (omega (arith, behindRequest-le (mail.up a z), up_le Kind.clean a z (same? t a) (same? x z)))
          (up-behindRequest a z (same? t a) (same? x z) c.one-request (h.up-true-behind-request a z lo' hi'))

      down : (a z : ℕ) → Live w a → Dec (x ≡ z) → EachBehind (TellsDown R after a z) (mail.down a z)
      down a z l (yes q) =
          rw (← q, ar.down-at a)
          (behind-map (count_kind Kind.clean (w.down a x)) (sent_to a out) (λ m' r b. ofProbe-map (λ i j. c.keep-down a x l r (sent_to a out) b (ar.down-at a) i j) m') (c.sent-true a l) (omega arith) (h.down-true a x l))
      down a z l (no q) =
          let p : mail.down a z ≡ w.down a z ++ [] = ar.down-off a z q ∙ sym (append-nil (w.down a z)) in
          rw p (behind-map (count_kind Kind.clean (w.down a z)) [] (λ m' r b. ofProbe-map (λ i j. c.keep-down a z l r [] b p i j) m') behind-nil (omega arith) (h.down-true a z l))
