-- How the parts of a session's record are read after each change: the mask of held items, the stored juniors, and what is sent from them.
use mathlib.Core.Path.{◌≡◌, refl, sym, ap, ◌∙◌, fun_ext}
use mathlib.Core.Bool.{Bool, true, false, cond, not, ◌&&◌, and-false, and-true}
use mathlib.Core.List.{List, [], ◌∷◌, ◌++◌, map, append-nil}
use Prim.Native.Nat.{ℕ, zero, suc, ◌+◌, ◌-◌, ◌^◌, ◌≤◌, ◌<◌}
use native.Mathlib.Nat.{add-zero, zero-add, suc-add}
use native.Mathlib.Numerals.{add-one, one-add}
use native.Mathlib.Omega.{arith}
use lib.Dec.{eqb}
use lib.ListN.{length, get_or, set, drop, replicate}
use lib.Seq.{get_or-set_same, get_or-set_other, get_or-drop}
use borrow.Author.Tests.{eqb-true, eqb-false, ne_eqb}
use Rattle.lists.specs.Lists as Product
use Rattle.lists.specs.Lists.{between, all_of}
use Rattle.lists.proofs.Laws.{zeros_get_d}
use Rattle.lists.proofs.Tests.{and-agrees, between_intro, within, cond_same}
use Rattle.bitset.specs.Bitset.{has, insert, remove}
use Rattle.bitset.proofs.MemberLaws.{rising, those_in, members-rising, has-insert-same, has-insert-other, has-remove-same, has-remove-other, has-none, has_above}
use Rattle.message.specs.Kind
use Rattle.message.specs.Outbox.{message, plain}
use Rattle.session.specs.Record as SessionRecord
use Rattle.session.specs.Rules as SessionRules
use Rattle.deadlock.specs.Lists.{updated, one_to}
use Rattle.deadlock.specs.Machine
use Rattle.agreement.specs.Reading.{read_stage, read_held, read_stored, read_session, read_message, read_sends}

module _ (x mask : ℕ) (low : 1 ≤ x) (high : x ≤ 64) where
  -- the mask with x in it
  pub held-insert : read_held (insert x mask) ≡ updated (read_held mask) x true
  unfolding read_held updated
  held-insert = fun_ext (λ k. go k (eqb x k) refl)
    where
      go : (k : ℕ) (b : Bool) → eqb x k ≡ b → between 1 64 k && has k (insert x mask) ≡ cond b true (between 1 64 k && has k mask)
      go k true e = rw (← eqb-true x k e, between_intro 1 64 x low high) (has-insert-same x mask)
      go k false e =
          and-agrees (between 1 64 k) (λ f. has-insert-other x mask k low (within 1 64 k f).0 (λ q. eqb-false x k e (sym q)))

  -- the mask without x
  pub held-remove : read_held (remove x mask) ≡ updated (read_held mask) x false
  unfolding read_held updated
  held-remove = fun_ext (λ k. go k (eqb x k) refl)
    where
      go : (k : ℕ) (b : Bool) → eqb x k ≡ b → between 1 64 k && has k (remove x mask) ≡ cond b false (between 1 64 k && has k mask)
      go k true e = rw (← eqb-true x k e, has-remove-same x mask) (and-false (between 1 64 x))
      go k false e =
          and-agrees (between 1 64 k) (λ f. has-remove-other x mask k low (within 1 64 k f).0 (λ q. eqb-false x k e (sym q)))

pub held_none : read_held 0 ≡ (λ (_ : ℕ). false)
unfolding read_held
held_none = fun_ext (λ k. rw (has-none k) (and-false (between 1 64 k)))

get_d_zeros : (n i : ℕ) → ◌≡◌ {A = ℕ} (get_or (replicate n 0) i 0) 0
get_d_zeros zero i = refl
get_d_zeros (suc n) zero = refl
get_d_zeros (suc n) (suc i) = get_d_zeros n i

pub stored-none : read_stored SessionRecord.none ≡ (λ (_ : ℕ). 0)
unfolding read_stored
stored-none = fun_ext (λ i. rw (get_d_zeros 64 (i - 1)) (cond_same (between 1 64 i) 0))

-- a session that was just started or reopened
pub fresh-read : read_session SessionRecord.fresh ≡ Machine.fresh
unfolding read_stage
fresh-read = λ i. record { stage = Machine.growing; held = held_none i; stored = stored-none i }

module _ (js : List ℕ) (i : ℕ) (low : 1 ≤ i) (high : i ≤ 64) where
  pub stored-read : read_stored js i ≡ get_or js (i - 1) 0
  unfolding read_stored
  stored-read = rw (between_intro 1 64 i low high) refl

  -- the juniors with v for initiator i
  pub stored-set : length js ≡ 64 → (v : ℕ) → read_stored (set js (i - 1) v) ≡ updated (read_stored js) i v
  unfolding read_stored updated
  stored-set len v = fun_ext (λ n. go n (eqb i n) refl)
    where
      other : (n : ℕ) (b : Bool) → between 1 64 n ≡ b → (i ≡ n → ⊥) → cond b (get_or (set js (i - 1) v) (n - 1) 0) 0 ≡ cond b (get_or js (n - 1) 0) 0
      other n false e f = refl
      other n true e f = get_or-set_other js (i - 1) (n - 1) v 0 (λ q. f (omega (arith, (within 1 64 n e).0)))

      go : (n : ℕ) (b : Bool) → eqb i n ≡ b
          → cond (between 1 64 n) (get_or (set js (i - 1) v) (n - 1) 0) 0 ≡ cond b v (cond (between 1 64 n) (get_or js (n - 1) 0) 0)
      go n true e = rw (← eqb-true i n e, between_intro 1 64 i low high) (get_or-set_same js (i - 1) v 0 (omega arith))
      go n false e = other n (between 1 64 n) refl (eqb-false i n e)

-- ---- lists of numbers that rise
pub rising-append : (a b k : ℕ) → rising (a + b) k ≡ rising a k ++ rising b (k + a)
unfolding rising
rising-append zero b k = rw (zero-add b, add-zero k) refl
rising-append (suc a) b k = rw (suc-add a b) (ap (λ (l : List ℕ). k ∷ l) (rising-append a b (suc k) ∙ ap (λ (n : ℕ). rising a (suc k) ++ rising b n) (omega arith)))

pub one_to-rising : (n : ℕ) → rising n 1 ≡ one_to n
unfolding rising one_to
one_to-rising zero = refl
one_to-rising (suc n) =
    let more : rising (suc n) 1 ≡ rising n 1 ++ rising 1 (1 + n) =
    ap (λ (m : ℕ). rising m 1) (sym (add-one n)) ∙ rising-append n 1 1 in
    more ∙ rw (one_to-rising n, one-add n) refl

-- the numbers to 64 are those to n and those above it
cut : (n : ℕ) → n ≤ 64 → rising 64 1 ≡ one_to n ++ rising (64 - n) (1 + n)
cut n h =
    let e : 64 ≡ n + (64 - n) = omega arith in
    ap (λ (m : ℕ). rising m 1) e ∙ rising-append n (64 - n) 1 ∙ ap (λ (l : List ℕ). l ++ rising (64 - n) (1 + n)) (one_to-rising n)

-- ---- stored probes
module _ (f : ℕ → ℕ) (x : ℕ) where
  probes-read : (i : ℕ) (js : List ℕ) → ((n : ℕ) → n < length js → f (i + n) ≡ get_or js n 0)
      → read_sends (SessionRules.probes_from x i js) ≡ Machine.probes_from f x (rising (length js) i)
  unfolding SessionRules.probes_from Machine.probes_from rising read_sends read_message
  probes-read i [] h = refl
  probes-read i (j ∷ js) h =
      let here : f i ≡ j = ap f (sym (add-zero i)) ∙ h 0 (omega arith) in
      let rest = probes-read (suc i) js (λ n l. ap f (omega arith) ∙ h (suc n) (omega arith)) in
      rw (here) (go (eqb j 0) rest)
    where
      go : (b : Bool) → read_sends (SessionRules.probes_from x (suc i) js) ≡ Machine.probes_from f x (rising (length js) (suc i))
          → read_sends (cond b (SessionRules.probes_from x (suc i) js) (message x Kind.probe i j ∷ SessionRules.probes_from x (suc i) js))
          ≡ cond b (Machine.probes_from f x (rising (length js) (suc i))) ((x, Machine.probe i j) ∷ Machine.probes_from f x (rising (length js) (suc i)))
      go true e = e
      go false e = ap (λ (l : Machine.Sends). (x, Machine.probe i j) ∷ l) e

  probes-append : (k l : List ℕ) → Machine.probes_from f x (k ++ l) ≡ Machine.probes_from f x k ++ Machine.probes_from f x l
  unfolding Machine.probes_from
  probes-append [] l = refl
  probes-append (i ∷ k) l = go (eqb (f i) 0) (probes-append k l)
    where
      go : (b : Bool) → Machine.probes_from f x (k ++ l) ≡ Machine.probes_from f x k ++ Machine.probes_from f x l
          → cond b (Machine.probes_from f x (k ++ l)) ((x, Machine.probe i (f i)) ∷ Machine.probes_from f x (k ++ l))
          ≡ cond b (Machine.probes_from f x k) ((x, Machine.probe i (f i)) ∷ Machine.probes_from f x k) ++ Machine.probes_from f x l
      go true e = e
      go false e = ap (λ (m : Machine.Sends). (x, Machine.probe i (f i)) ∷ m) e

  probes-none : (n k : ℕ) → ((j : ℕ) → k ≤ j → f j ≡ 0) → Machine.probes_from f x (rising n k) ≡ []
  unfolding Machine.probes_from rising
  probes-none zero k h = refl
  probes-none (suc n) k h = rw (h k (omega arith)) (probes-none n (suc k) (λ j l. h j (omega arith)))

module _ (S : ℕ) (js : List ℕ) (few : S ≤ 64) (len : length js ≡ 64) (zeros : all_of (λ j. eqb j 0) (drop S js) ≡ true) where
  stored-above : (i : ℕ) → 1 + S ≤ i → read_stored js i ≡ 0
  unfolding read_stored
  stored-above i l =
      let e : S + (i - 1 - S) ≡ i - 1 = omega arith in
      let z : get_or js (i - 1) 0 ≡ 0 = ap (λ (n : ℕ). get_or js n 0) (sym e) ∙ sym (get_or-drop S js (i - 1 - S) 0) ∙ zeros_get_d (drop S js) (i - 1 - S) zeros in
      rw (z) (cond_same (between 1 64 i) 0)

  -- the stored probes are those of sessions 1 to S
  pub stored-probes : (x : ℕ) → read_sends (SessionRules.probes_from x 1 js) ≡ Machine.probes_from (read_stored js) x (one_to S)
  stored-probes x =
      let f = read_stored js in
      let read = probes-read f x 1 js (λ n l. stored-read js (1 + n) (omega arith) (omega arith) ∙ ap (λ (k : ℕ). get_or js k 0) (omega arith)) in
      read ∙ ap (λ (n : ℕ). Machine.probes_from f x (rising n 1)) len ∙ ap (Machine.probes_from f x) (cut S few)
      ∙ probes-append f x (one_to S) (rising (64 - S) (1 + S)) ∙ ap (λ (l : Machine.Sends). Machine.probes_from f x (one_to S) ++ l) (probes-none f x (64 - S) (1 + S) stored-above)
      ∙ append-nil (Machine.probes_from f x (one_to S))

-- ---- messages to held items
module _ (m : Machine.Message) (f : ℕ → Bool) where
  each_append : (k l : List ℕ) → Machine.to_each m f (k ++ l) ≡ Machine.to_each m f k ++ Machine.to_each m f l
  unfolding Machine.to_each
  each_append [] l = refl
  each_append (x ∷ k) l = go (f x) (each_append k l)
    where
      go : (b : Bool) → Machine.to_each m f (k ++ l) ≡ Machine.to_each m f k ++ Machine.to_each m f l
          → cond b ((x, m) ∷ Machine.to_each m f (k ++ l)) (Machine.to_each m f (k ++ l))
          ≡ cond b ((x, m) ∷ Machine.to_each m f k) (Machine.to_each m f k) ++ Machine.to_each m f l
      go false e = e
      go true e = ap (λ (n : Machine.Sends). (x, m) ∷ n) e

  each_none : (n k : ℕ) → ((j : ℕ) → k ≤ j → f j ≡ false) → Machine.to_each m f (rising n k) ≡ []
  unfolding Machine.to_each rising
  each_none zero k h = refl
  each_none (suc n) k h = rw (h k (omega arith)) (each_none n (suc k) (λ j l. h j (omega arith)))

  each-agrees : (g : ℕ → Bool) (n k : ℕ) → ((j : ℕ) → k ≤ j → j < k + n → f j ≡ g j) → Machine.to_each m f (rising n k) ≡ Machine.to_each m g (rising n k)
  unfolding Machine.to_each rising
  each-agrees g zero k h = refl
  each-agrees g (suc n) k h = rw (h k (omega arith) (omega arith), each-agrees g n (suc k) (λ j l u. h j (omega arith) (omega arith))) refl

held-read : (kind mask : ℕ) (p : ℕ → Bool) (l : List ℕ)
    → read_sends (map (λ y. plain y kind) (Product.filter p (those_in mask l))) ≡ Machine.to_each (read_message kind 0 0) (λ j. has j mask && p j) l
unfolding Product.filter those_in Machine.to_each read_sends
held-read kind mask p [] = refl
held-read kind mask p (k ∷ l) = go (has k mask) (p k) refl (held-read kind mask p l)
  where
    go : (b c : Bool) → p k ≡ c
        → read_sends (map (λ y. plain y kind) (Product.filter p (those_in mask l))) ≡ Machine.to_each (read_message kind 0 0) (λ j. has j mask && p j) l
        → read_sends (map (λ y. plain y kind) (Product.filter p (cond b (k ∷ those_in mask l) (those_in mask l))))
        ≡ cond (b && c) ((k, read_message kind 0 0) ∷ Machine.to_each (read_message kind 0 0) (λ j. has j mask && p j) l) (Machine.to_each (read_message kind 0 0) (λ j. has j mask && p j) l)
    go false c e ih = ih
    go true true e ih = rw (e) (ap (λ (n : Machine.Sends). (k, read_message kind 0 0) ∷ n) ih)
    go true false e ih = rw (e) ih

module _ (M mask : ℕ) (few : M ≤ 64) (low : mask < 2 ^ M) where
  -- a message to each held item but x
  pub to_held_read : (kind x : ℕ) (g : ℕ → Bool) → ((j : ℕ) → 1 ≤ j → j ≤ 64 → has j mask && not (eqb j x) ≡ g j)
      → read_sends (SessionRules.to_held kind x mask) ≡ Machine.to_each (read_message kind 0 0) g (one_to M)
  unfolding SessionRules.to_held
  to_held_read kind x g h =
      let m = read_message kind 0 0 in
      let f : ℕ → Bool = λ j. has j mask && not (eqb j x) in
      let above : (j : ℕ) → 1 + M ≤ j → f j ≡ false = λ j l. rw (has_above M j mask low (omega arith)) refl in
      ap (λ (l : List ℕ). read_sends (map (λ y. plain y kind) (Product.filter (λ y. not (eqb y x)) l))) (members-rising mask)
      ∙ held-read kind mask (λ y. not (eqb y x)) (rising 64 1) ∙ ap (Machine.to_each m f) (cut M few) ∙ each_append m f (one_to M) (rising (64 - M) (1 + M))
      ∙ ap (λ (l : Machine.Sends). Machine.to_each m f (one_to M) ++ l) (each_none m f (64 - M) (1 + M) above) ∙ append-nil (Machine.to_each m f (one_to M))
      ∙ ap (Machine.to_each m f) (sym (one_to-rising M)) ∙ each-agrees m f g M 1 (λ j l u. h j l (omega arith)) ∙ ap (Machine.to_each m g) (one_to-rising M)

  pub rebroadcasts-agree : (x : ℕ) → read_sends (SessionRules.to_held Kind.rebroadcast x mask) ≡ Machine.to_each (Machine.up Machine.rebroadcast) (λ k. read_held mask k && not (eqb k x)) (one_to M)
  unfolding read_message read_held
  rebroadcasts-agree x = to_held_read Kind.rebroadcast x _ (λ j l h. rw (between_intro 1 64 j l h) refl)

  pub releases-agree : read_sends (SessionRules.to_held Kind.release 0 mask) ≡ Machine.to_each (Machine.up Machine.release) (read_held mask) (one_to M)
  unfolding read_message read_held
  releases-agree = to_held_read Kind.release 0 (read_held mask) (λ j l h. rw (between_intro 1 64 j l h, ne_eqb j 0 (λ q. omega arith)) (and-true (has j mask)))
