-- Laws of a session record and its bytes, and of the messages that a session sends.
use mathlib.Core.Path.{◌≡◌, refl, sym, ap, ◌∙◌}
use mathlib.Core.Bool.{Bool, cond, not, ◌||◌}
use mathlib.Core.List.{List, [], ◌∷◌, ◌++◌}
use Prim.Native.Nat.{ℕ, zero, suc, ◌+◌, ◌^◌, ◌≤◌, ◌<◌, zero-le}
use native.Mathlib.Nat.{add-zero, zero-add, suc-add}
use native.Mathlib.Numerals.{add-one}
use native.Mathlib.Omega.{arith}
use borrow.Author.Tests.{eq-eqb, ne_eqb}
use lib.Dec.{eqb}
use lib.ListN.{length, get_or, take, drop, set, length-append, length-map}
use lib.Seq.{drop-cons, drop-drop, take-take, take_all}
use Rattle.buffer.specs.Bytes.{slice, to_bytes, splice}
use Rattle.lists.specs.Lists.{filter}
use Rattle.lists.proofs.Laws.{filter-length}
use Rattle.lists.proofs.Tests.{by-test}
use Rattle.buffer.proofs.Laws.{sets-splice, splice-splice, slice-splice, slice-splice-before, slice-splice-after, get_d_slice, from_bytes-to_bytes}
use Rattle.bitset.specs.Bitset.{members}
use Rattle.bitset.proofs.Laws.{bits_length}
use Rattle.message.specs.Kind
use Rattle.message.specs.declared.Message.{Message}
use Rattle.message.specs.Outbox.{message, plain}
use Rattle.session.specs.declared.Session.{Session}
use Rattle.session.specs.Record.{size, session_at, session_bytes, put_session}
use Rattle.session.specs.Stage
use Rattle.session.specs.Rules.{After, after, dropped, probes_from, stored_probes, stored, to_held, requested, granted, resent, aborted, cleaned, cleaned_waiting, cleaned_victim, rolled_back, junior, kept_probe, probed, received}

-- what holds of both branches holds of the conditional
pub either : {A : Type 0} (P : A → Type 0) (b : Bool) {x y : A} → P x → P y → P (cond b x y)
either P b p q = by-test P b (λ _. p) (λ _. q)

-- a part of the front of a list
slice-take : (k n m : ℕ) (l : List ℕ) → n ≤ m → slice (take (k + m) l) k n ≡ slice l k n
slice-take zero n m l h = rw (zero-add) (take-take n m l h)
slice-take (suc k) n m [] h = rw (suc-add k m) refl
slice-take (suc k) n m (a ∷ l) h = rw (suc-add k m) (slice-take k n m l h)

-- a record is read off its own bytes alone
session_at-slice : (t : List ℕ) (at : ℕ) → session_at t at ≡ session_at (slice t at size) 0
session_at-slice t at =
    let l = drop at t in
    let first : get_or (slice t at size) 0 0 ≡ get_or t at 0 = get_d_slice t at size 0 (omega arith) ∙ ap (λ (n : ℕ). get_or t n 0) (add-zero at) in
    let inside : (k n m : ℕ) → k + m ≡ size → n ≤ m → slice (slice t at size) k n ≡ slice t (at + k) n =
    λ k n m e h. ap (λ (r : ℕ). slice (take r l) k n) (sym e) ∙ slice-take k n m l h ∙ ap (take n) (drop-drop k at t) in
    rw (first, get_d_slice t at size 1 (omega arith), inside 2 8 72 refl (omega arith), inside 10 64 64 refl (omega arith)) refl

pub length-bytes : (s : Session) → length s.juniors ≡ 64 → length (session_bytes s) ≡ size
length-bytes s j = omega arith

module _ (t : List ℕ) (at : ℕ) (s : Session) (h : at + size ≤ length t) (j : length s.juniors ≡ 64) where
  -- the stores that `store` makes
  pub store_eq : splice (splice (set (set t at s.stage) (at + 1) s.awaited) (at + 2) (to_bytes 8 s.held)) (at + 10) s.juniors ≡ put_session t at s
  store_eq =
      let two : set (set t at s.stage) (at + 1) s.awaited ≡ splice t at (s.stage ∷ s.awaited ∷ []) =
      rw (add-one) (sets-splice t at (s.stage ∷ s.awaited ∷ []) (omega arith)) in
      rw (
        two,
        splice-splice t at (s.stage ∷ s.awaited ∷ []) (omega arith) (to_bytes 8 s.held),
        splice-splice t at (s.stage ∷ s.awaited ∷ to_bytes 8 s.held) (omega arith) s.juniors,
      ) refl

  -- a record that was stored is loaded again
  pub load_store : s.held < 2 ^ 64 → session_at (put_session t at s) at ≡ s
  load_store f =
      let bytes : slice (put_session t at s) at size ≡ session_bytes s =
      rw (length-bytes s j) at (slice-splice t at (session_bytes s) (omega arith)) in
      session_at-slice (put_session t at s) at
      ∙ rw (bytes, from_bytes-to_bytes 8 s.held f, take_all 64 s.juniors (omega arith)) refl

-- a record elsewhere stays
module _ (t : List ℕ) (at : ℕ) (l : List ℕ) (h : at + length l ≤ length t) (p : ℕ) where
  pub session_at-splice-before : p + size ≤ at → session_at (splice t at l) p ≡ session_at t p
  session_at-splice-before f = session_at-slice (splice t at l) p ∙ rw (slice-splice-before t at l h p size f) (sym (session_at-slice t p))

  pub session_at-splice-after : at + length l ≤ p → session_at (splice t at l) p ≡ session_at t p
  session_at-splice-after f = session_at-slice (splice t at l) p ∙ rw (slice-splice-after t at l h p size f) (sym (session_at-slice t p))

-- the stored probes from the one of initiator i + 1 on
module _ (x : ℕ) (js : List ℕ) (i : ℕ) (h : i < length js) where
  pub probes-none : get_or js i 0 ≡ 0 → probes_from x (i + 1) (drop i js) ≡ probes_from x (i + 1 + 1) (drop (i + 1) js)
  unfolding probes_from
  probes-none e = rw (drop-cons js i 0 h, eq-eqb (get_or js i 0) 0 e, add-one (i + 1), add-one i) refl

  pub probes-some : (get_or js i 0 ≡ 0 → ⊥)
      → probes_from x (i + 1) (drop i js) ≡ message x Kind.probe (i + 1) (get_or js i 0) ∷ probes_from x (i + 1 + 1) (drop (i + 1) js)
  unfolding probes_from
  probes-some f = rw (drop-cons js i 0 h, ne_eqb (get_or js i 0) 0 f, add-one (i + 1), add-one i) refl

-- the held items but one, from the lowest item y on
module _ (kind x held y rest : ℕ) (e : members held ≡ y ∷ members rest) where
  pub held-take : (y ≡ x → ⊥) → to_held kind x held ≡ plain y kind ∷ to_held kind x rest
  unfolding to_held filter
  held-take f = rw (e, ne_eqb y x f) refl

  pub held_skip : y ≡ x → to_held kind x held ≡ to_held kind x rest
  unfolding to_held filter
  held_skip f = rw (e, eq-eqb y x f) refl

pub held_none : (kind x held : ℕ) → members held ≡ [] → to_held kind x held ≡ []
unfolding to_held filter
held_none kind x held e = rw (e) refl

pub to_held_length : (kind x held : ℕ) → length (to_held kind x held) ≤ 64
unfolding to_held
to_held_length kind x held =
    let passed = filter (λ y. not (eqb y x)) (members held) in
    omega (arith, length-map passed (λ y. plain y kind), filter-length (λ y. not (eqb y x)) (members held), bits_length 64 1 held)

probes_from-length : (x i : ℕ) (js : List ℕ) → length (probes_from x i js) ≤ length js
unfolding probes_from
probes_from-length x i [] = zero-le
probes_from-length x i (j ∷ js) =
    let rest = probes_from-length x (suc i) js in either (λ l. length l ≤ suc (length js)) (eqb j 0) {x = probes_from x (suc i) js} (omega arith) (omega arith)

pub stored_probes-length : (s : Session) (x : ℕ) → length (stored_probes s x) ≤ length s.juniors
stored_probes-length s x = probes_from-length x 1 s.juniors

-- so those sent first are no more
pub to_held-front : (kind x held : ℕ) (p q : List Message) → p ++ q ≡ to_held kind x held → length p ≤ 64
to_held-front kind x held p q e = omega (arith, ap length e, length-append p q, to_held_length kind x held)

-- at most 65 messages are sent
record Few (r : After) : Type 0 where
  few : length r.sends ≤ 65

sent : {s : Session} (l : List Message) → length l ≤ 65 → Few (after s l)
sent l h = record { few = h }

module _ (s : Session) (j : length s.juniors ≡ 64) where
  none-sent : Few (dropped s)
  none-sent = sent [] zero-le

  probes-sent : (x : ℕ) → Few (after s (stored_probes s x))
  probes-sent x = sent (stored_probes s x) (omega (arith, stored_probes-length s x))

  one-sent : {r : Session} (m : Message) → Few (after r (m ∷ []))
  one-sent m = sent (m ∷ []) (omega arith)

  pub requested-length : (x : ℕ) → length (requested x s).sends ≤ 65
  unfolding requested
  requested-length x = omega (arith, stored_probes-length s x)

  granted-few : (x : ℕ) → Few (granted x s)
  unfolding granted
  granted-few x = either Few (eqb x s.awaited) (sent [] zero-le) none-sent

  resent-few : (x : ℕ) → Few (resent x s)
  unfolding resent
  resent-few x = either Few (eqb x s.awaited) (probes-sent s.awaited) none-sent

  aborted-few : (a b : ℕ) → Few (aborted a b s)
  unfolding aborted
  aborted-few a b = record { few = omega arith }

  cleaned-few : (x : ℕ) → Few (cleaned x s)
  unfolding cleaned
  cleaned-few x = record { few = omega (arith, to_held_length Kind.rebroadcast x s.held) }

  cleaned_waiting-few : (x a b : ℕ) → Few (cleaned_waiting x a b s)
  unfolding cleaned_waiting
  cleaned_waiting-few x a b =
      let first = to_held Kind.rebroadcast x s.held in
      record { few = omega (arith, length-append first (message s.awaited Kind.clean a b ∷ []), to_held_length Kind.rebroadcast x s.held) }

  cleaned_victim-few : (t a : ℕ) → Few (cleaned_victim t a s)
  unfolding cleaned_victim
  cleaned_victim-few t a = either Few (eqb a t) (one-sent (plain s.awaited Kind.withdraw)) none-sent

  rolled_back-few : Few (rolled_back s)
  unfolding rolled_back
  rolled_back-few = record { few = omega (arith, to_held_length Kind.release 0 s.held) }

  module _ (senior : ℕ → ℕ → Bool) where
    kept_probe-few : (i k : ℕ) → Few (kept_probe senior i k s)
    unfolding kept_probe
    kept_probe-few i k =
        either Few (eqb (stored s i) 0 || senior (stored s i) k)
        (sent _ (either (λ l. length l ≤ 65) (eqb s.stage Stage.waiting) {x = message s.awaited Kind.probe i k ∷ []} {y = []} (omega arith) (omega arith))) none-sent

    probed-few : (t i k : ℕ) → Few (probed senior t i k s)
    unfolding probed
    probed-few t i k = kept_probe-few i (junior senior k t)

    received-few : (t : ℕ) (m : Message) → Few (received senior t s m)
    unfolding received
    received-few t m =
        let kind : ℕ → Bool = eqb m.kind in
        let stage : ℕ → Bool = eqb s.stage in
        either Few (kind Kind.grant) (either Few (stage Stage.waiting) (granted-few m.peer) none-sent)
        (either Few (kind Kind.probe) (either Few (stage Stage.growing || stage Stage.waiting) (probed-few t m.a m.b) none-sent)
        (either Few (kind Kind.resend) (either Few (stage Stage.waiting) (resent-few m.peer) none-sent)
        (either Few (kind Kind.abort) (either Few (stage Stage.waiting) (aborted-few m.a m.b) none-sent)
        (either Few (kind Kind.clean)
        (either Few (stage Stage.growing) (cleaned-few m.peer)
        (either Few (stage Stage.waiting) (cleaned_waiting-few m.peer m.a m.b)
        (either Few (stage Stage.cleaning) (cleaned_victim-few t m.a) none-sent)))
        (either Few (kind Kind.withdrawn) (either Few (stage Stage.withdrawing) rolled_back-few none-sent) none-sent)))))

    pub received-length : (t : ℕ) (m : Message) → length (received senior t s m).sends ≤ 65
    received-length t m = (received-few t m).few
