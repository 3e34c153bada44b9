-- A session's step leaves a well-formed record, and sends well-formed entries.
use mathlib.Core.Path.{◌≡◌, refl, sym, ap, ◌∙◌}
use mathlib.Core.Bool.{Bool, true, false, not, ◌||◌}
use mathlib.Core.List.{List, [], ◌∷◌}
use Prim.Native.Nat.{ℕ, zero, suc, ◌+◌, ◌-◌, ◌^◌, ◌≤◌, ◌<◌}
use native.Mathlib.Nat.{add-zero}
use native.Mathlib.Omega.{arith}
use lib.Dec.{eqb, leb, ltb}
use lib.ListN.{length, get_or, take, drop, length-set, length-take}
use lib.Seq.{take-set-lt, drop-set-lt, get_or-take, get_or-drop}
use lib.Pow.{pow_pos}
use borrow.Author.Tests.{eq-eqb, eqb-true, eqb-false, leb-true, le-leb, ltb-true, ltb-false}
use Rattle.lists.specs.Lists.{between, all_of, filter}
use Rattle.lists.proofs.Tests.{between_intro, by_answer, by-test, within}
use Rattle.lists.proofs.Laws.{zeros_get_d, all_cons, all_filter, all_get_d, all_join, all_map, all_none, all_one, all_set, all_weaken}
use Rattle.bitset.specs.Bitset.{has, members}
use Rattle.bitset.proofs.MemberLaws.{rising, those_in, members-rising, has_above, insert-below, remove-below}
use Rattle.message.specs.Kind
use Rattle.message.specs.declared.Message.{Message}
use Rattle.message.specs.Outbox.{message, plain}
use Rattle.mailbox.specs.Entry as Entry
use Rattle.mailbox.specs.Entry.{Entry, to_item, from_session, seen_by_session}
use Rattle.session.specs.Stage
use Rattle.session.specs.declared.Session.{Session}
use Rattle.session.specs.Record.{well_formed}
use Rattle.session.proofs.WellFormed.{SessionWellFormed, session-facts, session-formed, none-juniors, none-zeros, none-length}
use Rattle.wellformed.proofs.Entries.{session-range, item-range, a-range, b-range, plain_entry, pair_entry}
use Rattle.session.specs.Rules.{After, dropped, probes_from, stored_probes, stored, to_held, requested, released, granted, resent, aborted, cleared, cleaned, cleaned_waiting, cleaned_victim, rolled_back, junior, kept_probe, probed, received}

module _ (S M : ℕ) where
  module _ (t : ℕ) where
    -- the test of a message that session t sends
    abbrev pub is_entry : Message → Bool
    is_entry m = Entry.well_formed S M (from_session t m)

    -- what a session's step leaves
    pub record SessionKept (r : After) : Type 0 where
      pub session : well_formed S M r.session ≡ true
      pub juniors : length r.session.juniors ≡ 64
      pub sends : all_of is_entry r.sends ≡ true

    module _ (t-range : between 1 S t ≡ true) where
      plain-sent : (y kind : ℕ) → between 1 M y ≡ true → Entry.carried to_item kind ≡ true → Kind.carries kind ≡ false → is_entry (plain y kind) ≡ true
      plain-sent y kind r c d = plain_entry S M (from_session t (plain y kind)) c t-range r d refl refl

      probe-sent : (y a b : ℕ) → between 1 M y ≡ true → between 1 S a ≡ true → between 1 S b ≡ true → is_entry (message y Kind.probe a b) ≡ true
      probe-sent y a b r p q = pair_entry S M (from_session t (message y Kind.probe a b)) refl t-range r refl p q refl

      clean-sent : (y a b : ℕ) → between 1 M y ≡ true → between 1 S a ≡ true → between 1 S b ≡ true → is_entry (message y Kind.clean a b) ≡ true
      clean-sent y a b r p q = pair_entry S M (from_session t (message y Kind.clean a b)) refl t-range r refl p q refl

      -- stored probes
      probes-sent : (x : ℕ) → between 1 M x ≡ true → (i : ℕ) (js : List ℕ)
          → ((n : ℕ) → n < length js → eqb (get_or js n 0) 0 ≡ false → (between 1 S (i + n) ≡ true) × (between 1 S (get_or js n 0) ≡ true))
          → all_of is_entry (probes_from x i js) ≡ true
      unfolding probes_from
      probes-sent x r i [] h = all_none is_entry
      probes-sent x r i (j ∷ js) h =
          let rest = probes-sent x r (suc i) js (λ n l e. let p = h (suc n) (omega arith) e in let q : i + suc n ≡ suc i + n = omega arith in (rw (q) at p.0, p.1)) in
          by-test (λ (l : List Message). all_of is_entry l ≡ true) (eqb j 0) (λ _. rest)
          (λ e. let p = h 0 (omega arith) e in all_cons is_entry (message x Kind.probe i j) _ (probe-sent x i j r (rw (add-zero i) at p.0) p.1) rest)

      -- messages to held items
      those_range : (mask : ℕ) → mask < 2 ^ M → (n k : ℕ) → 1 ≤ k → all_of (between 1 M) (those_in mask (rising n k)) ≡ true
      unfolding those_in rising
      those_range mask low zero k l = all_none (between 1 M)
      those_range mask low (suc n) k l =
          let rest = those_range mask low n (suc k) (omega arith) in
          by-test (λ (l : List ℕ). all_of (between 1 M) l ≡ true) (has k mask) (λ e. all_cons (between 1 M) k _ (between_intro 1 M k l (bound e)) rest) (λ _. rest)
        where
          bound : has k mask ≡ true → k ≤ M
          bound e = by_answer (ltb M k) (λ above. let z : true ≡ false = sym e ∙ has_above M k mask low (ltb-true M k above) in let y : ◌≡◌ {A = ℕ} 0 1 = cc in absurd (omega arith)) (ltb-false M k)

      held-sent : (kind x mask : ℕ) → mask < 2 ^ M → Entry.carried to_item kind ≡ true → Kind.carries kind ≡ false → all_of is_entry (to_held kind x mask) ≡ true
      unfolding to_held
      held-sent kind x mask low c d =
          let range : all_of (between 1 M) (members mask) ≡ true = rw (members-rising mask) (those_range mask low 64 1 (omega arith)) in
          all_map is_entry (λ y. plain y kind) (filter (λ y. not (eqb y x)) (members mask))
          (all_filter _ (λ y. not (eqb y x)) (members mask) (all_weaken (between 1 M) _ (λ y r. plain-sent y kind r c d) (members mask) range))

      module _ (s : Session) (f : SessionWellFormed S M s) (len : length s.juniors ≡ 64) where
        dropped-kept : SessionKept (dropped s)
        dropped-kept = record { session = session-formed S M s f; juniors = len; sends = all_none is_entry }

        -- the awaited item, in the stages that have one
        awaited-range : (stage : ℕ) → eqb s.stage stage ≡ true → Stage.awaits stage ≡ true → between 1 M s.awaited ≡ true
        awaited-range stage e a = let b : Stage.awaits s.stage ≡ true = ap Stage.awaits (eqb-true s.stage stage e) ∙ a in rw (b) at f.awaited

        awaited-none : (stage : ℕ) → eqb s.stage stage ≡ true → Stage.awaits stage ≡ false → s.awaited ≡ 0
        awaited-none stage e a =
            let b : Stage.awaits s.stage ≡ false = ap Stage.awaits (eqb-true s.stage stage e) ∙ a in eqb-true s.awaited 0 (rw (b) at f.awaited)

        stored-range : (n : ℕ) → n < length s.juniors → eqb (get_or s.juniors n 0) 0 ≡ false → (between 1 S (1 + n) ≡ true) × (between 1 S (get_or s.juniors n 0) ≡ true)
        stored-range n h e = by_answer (ltb n S) below above
          where
            below : ltb n S ≡ true → (between 1 S (1 + n) ≡ true) × (between 1 S (get_or s.juniors n 0) ≡ true)
            below b =
                let l = ltb-true n S b in
                let inside : n < length (take S s.juniors) = omega (arith, length-take S s.juniors) in
                let small = leb-true _ S (all_get_d (λ j. leb j S) (take S s.juniors) n 0 f.juniors inside) in
                (between_intro 1 S (1 + n) (omega arith) (omega arith), between_intro 1 S (get_or s.juniors n 0) (omega (arith, eqb-false (get_or s.juniors n 0) 0 e)) (rw (get_or-take S s.juniors n 0 l) at small))

            above : ltb n S ≡ false → (between 1 S (1 + n) ≡ true) × (between 1 S (get_or s.juniors n 0) ≡ true)
            above b =
                let l = ltb-false n S b in
                let same : S + (n - S) ≡ n = omega arith in
                let zero : get_or s.juniors n 0 ≡ 0 = ap (λ (m : ℕ). get_or s.juniors m 0) (sym same) ∙ sym (get_or-drop S s.juniors (n - S) 0) ∙ zeros_get_d (drop S s.juniors) (n - S) f.zeros in
                absurd (eqb-false (get_or s.juniors n 0) 0 e zero)

        stored-sent : (x : ℕ) → between 1 M x ≡ true → all_of is_entry (stored_probes s x) ≡ true
        stored-sent x r = probes-sent x r 1 s.juniors stored-range

        pub requested-kept : (x : ℕ) → between 1 M x ≡ true → SessionKept (requested x s)
        unfolding requested
        requested-kept x r = record {
          session = session-formed S M _ (record { stage-low = omega arith; stage-high = omega arith; awaited = r; held = f.held; juniors = f.juniors; zeros = f.zeros });
          juniors = len;
          sends = all_cons is_entry _ _ (plain-sent x Kind.request r refl refl) (stored-sent x r);
        }

        pub released-kept : (x : ℕ) → between 1 M x ≡ true → s.awaited ≡ 0 → SessionKept (released x s)
        unfolding released
        released-kept x r a = record {
          session = session-formed S M _ (record { stage-low = omega arith; stage-high = omega arith; awaited = eq-eqb s.awaited 0 a; held = remove-below M x s.held f.held; juniors = none-juniors S M; zeros = none-zeros S M });
          juniors = none-length;
          sends = all_one is_entry _ (plain-sent x Kind.release r refl refl);
        }

        granted-kept : (x : ℕ) → between 1 M x ≡ true → SessionKept (granted x s)
        unfolding granted
        granted-kept x r =
            by-test SessionKept (eqb x s.awaited)
            (λ _. record {
              session = session-formed S M _ (record { stage-low = omega arith; stage-high = omega arith; awaited = refl; held = insert-below M x s.held f.held (within 1 M x r).0 (within 1 M x r).1; juniors = f.juniors; zeros = f.zeros });
              juniors = len;
              sends = all_none is_entry;
            })
            (λ _. dropped-kept)

        resent-kept : (x : ℕ) → between 1 M s.awaited ≡ true → SessionKept (resent x s)
        unfolding resent
        resent-kept x r =
            by-test SessionKept (eqb x s.awaited) (λ _. record { session = session-formed S M s f; juniors = len; sends = stored-sent s.awaited r }) (λ _. dropped-kept)

        cleared-formed : well_formed S M (cleared s) ≡ true
        cleared-formed = session-formed S M (cleared s) (record { stage-low = f.stage-low; stage-high = f.stage-high; awaited = f.awaited; held = f.held; juniors = none-juniors S M; zeros = none-zeros S M })

        cleaned-kept : (x : ℕ) → SessionKept (cleaned x s)
        unfolding cleaned
        cleaned-kept x = record { session = cleared-formed; juniors = none-length; sends = held-sent Kind.rebroadcast x s.held f.held refl refl }

        rolled_back-kept : SessionKept (rolled_back s)
        unfolding rolled_back
        rolled_back-kept = record {
          session = session-formed S M _ (record { stage-low = omega arith; stage-high = omega arith; awaited = refl; held = pow_pos M; juniors = f.juniors; zeros = f.zeros });
          juniors = len;
          sends = held-sent Kind.release 0 s.held f.held refl refl;
        }

        cleaned_victim-kept : (a : ℕ) → between 1 M s.awaited ≡ true → SessionKept (cleaned_victim t a s)
        unfolding cleaned_victim
        cleaned_victim-kept a r =
            by-test SessionKept (eqb a t)
            (λ _. record {
              session = session-formed S M _ (record { stage-low = omega arith; stage-high = omega arith; awaited = r; held = f.held; juniors = f.juniors; zeros = f.zeros });
              juniors = len;
              sends = all_one is_entry _ (plain-sent s.awaited Kind.withdraw r refl refl);
            })
            (λ _. dropped-kept)

        module _ (a b : ℕ) (a-range : between 1 S a ≡ true) (b-range : between 1 S b ≡ true) where
          aborted-kept : between 1 M s.awaited ≡ true → SessionKept (aborted a b s)
          unfolding aborted
          aborted-kept r = record {
            session = session-formed S M _ (record { stage-low = omega arith; stage-high = omega arith; awaited = r; held = f.held; juniors = none-juniors S M; zeros = none-zeros S M });
            juniors = none-length;
            sends = all_one is_entry _ (clean-sent s.awaited a b r a-range b-range);
          }

          cleaned_waiting-kept : (x : ℕ) → between 1 M s.awaited ≡ true → SessionKept (cleaned_waiting x a b s)
          unfolding cleaned_waiting
          cleaned_waiting-kept x r = record {
            session = cleared-formed;
            juniors = none-length;
            sends = all_join is_entry (to_held Kind.rebroadcast x s.held) _ (held-sent Kind.rebroadcast x s.held f.held refl refl) (all_one is_entry _ (clean-sent s.awaited a b r a-range b-range));
          }

          kept_probe-kept : (senior : ℕ → ℕ → Bool) → SessionKept (kept_probe senior a b s)
          unfolding kept_probe
          kept_probe-kept senior =
              let place : a - 1 < S = omega (arith, (within 1 S a a-range).0, (within 1 S a a-range).1) in
              let front = take-set-lt S s.juniors (a - 1) b place in
              let back = drop-set-lt S s.juniors (a - 1) b place in
              by-test SessionKept (eqb (stored s a) 0 || senior (stored s a) b)
              (λ _. record {
                session = session-formed S M _ (record {
                  stage-low = f.stage-low;
                  stage-high = f.stage-high;
                  awaited = f.awaited;
                  held = f.held;
                  juniors = rw (front) (all_set (λ j. leb j S) (take S s.juniors) (a - 1) b f.juniors (le-leb b S (within 1 S b b-range).1));
                  zeros = rw (back) f.zeros;
                });
                juniors = length-set s.juniors (a - 1) b ∙ len;
                sends = by-test (λ (l : List Message). all_of is_entry l ≡ true) (eqb s.stage Stage.waiting) (λ e. all_one is_entry _ (probe-sent s.awaited a b (awaited-range Stage.waiting e refl) a-range b-range)) (λ _. all_none is_entry);
              })
              (λ _. dropped-kept)

          probed-kept : (senior : ℕ → ℕ → Bool) → (j : ℕ) → b ≡ junior senior j t → SessionKept (probed senior t a j s)
          unfolding probed
          probed-kept senior j e = rw (← e) (kept_probe-kept senior)

        junior-range : (senior : ℕ → ℕ → Bool) (j : ℕ) → between 1 S j ≡ true → between 1 S (junior senior j t) ≡ true
        unfolding junior
        junior-range senior j r = by-test (λ (n : ℕ). between 1 S n ≡ true) (senior j t) (λ _. t-range) (λ _. r)

-- session e .session takes an entry that an item sent to it: any seniority
module _ (senior : ℕ → ℕ → Bool) (S M : ℕ) (e : Entry) (form : Entry.well_formed S M e ≡ true) where
  pub session-kept : (s : Session) → well_formed S M s ≡ true → length s.juniors ≡ 64 → SessionKept S M e.session (received senior e.session s (seen_by_session e))
  unfolding received
  session-kept s w len =
      let item = item-range S M e form in
      let first = a-range S M e form in
      let second = b-range S M e form in
      let f = session-facts S M s w in
      let t = e.session in
      let kept = SessionKept S M t in
      let r = session-range S M e form in
      let kind = e.kind in
      let carries : (n : ℕ) → eqb kind n ≡ true → Kind.carries n ≡ true → Kind.carries kind ≡ true = λ n q c. ap Kind.carries (eqb-true kind n q) ∙ c in
      let out : kept (dropped s) = dropped-kept S M t r s f len in
      let awaited : (n : ℕ) → eqb s.stage n ≡ true → Stage.awaits n ≡ true → between 1 M s.awaited ≡ true = awaited-range S M t r s f len in
      by-test kept (eqb kind Kind.grant) (λ _. by-test kept (eqb s.stage Stage.waiting) (λ _. granted-kept S M t r s f len e.item item) (λ _. out))
      (λ _. by-test kept (eqb kind Kind.probe)
      (λ q. by-test kept (eqb s.stage Stage.growing || eqb s.stage Stage.waiting) (λ _. probed-kept S M t r s f len e.a (junior senior e.b t) (first (carries Kind.probe q refl)) (junior-range S M t r s f len senior e.b (second (carries Kind.probe q refl))) senior e.b refl) (λ _. out))
      (λ _. by-test kept (eqb kind Kind.resend) (λ _. by-test kept (eqb s.stage Stage.waiting) (λ at. resent-kept S M t r s f len e.item (awaited Stage.waiting at refl)) (λ _. out))
      (λ _. by-test kept (eqb kind Kind.abort)
      (λ q. by-test kept (eqb s.stage Stage.waiting) (λ at. aborted-kept S M t r s f len e.a e.b (first (carries Kind.abort q refl)) (second (carries Kind.abort q refl)) (awaited Stage.waiting at refl)) (λ _. out))
      (λ _. by-test kept (eqb kind Kind.clean)
      (λ q. by-test kept (eqb s.stage Stage.growing) (λ _. cleaned-kept S M t r s f len e.item)
      (λ _. by-test kept (eqb s.stage Stage.waiting) (λ at. cleaned_waiting-kept S M t r s f len e.a e.b (first (carries Kind.clean q refl)) (second (carries Kind.clean q refl)) e.item (awaited Stage.waiting at refl))
      (λ _. by-test kept (eqb s.stage Stage.cleaning) (λ at. cleaned_victim-kept S M t r s f len e.a (awaited Stage.cleaning at refl)) (λ _. out))))
      (λ _. by-test kept (eqb kind Kind.withdrawn) (λ _. by-test kept (eqb s.stage Stage.withdrawing) (λ _. rolled_back-kept S M t r s f len) (λ _. out)) (λ _. out))))))

-- the two calls of session t for item x, where they are allowed
module _ (S M t x : ℕ) (t-range : between 1 S t ≡ true) (x-range : between 1 M x ≡ true) (s : Session) (w : well_formed S M s ≡ true) (len : length s.juniors ≡ 64) where
  pub request-kept : SessionKept S M t (requested x s)
  request-kept = requested-kept S M t t-range s (session-facts S M s w) len x x-range

  pub release-kept : eqb s.stage Stage.growing || eqb s.stage Stage.shrinking ≡ true → SessionKept S M t (released x s)
  release-kept e =
      let f = session-facts S M s w in
      let free : (n : ℕ) → eqb s.stage n ≡ true → Stage.awaits n ≡ false → s.awaited ≡ 0 = awaited-none S M t t-range s f len in
      released-kept S M t t-range s f len x x-range (by_answer (eqb s.stage Stage.growing) (λ a. free Stage.growing a refl) (λ b. free Stage.shrinking (rw (b) at e) refl))
