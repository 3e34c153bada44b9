-- An item's step leaves a well-formed lock, and sends well-formed entries.
use mathlib.Core.Path.{◌≡◌, refl, sym, ap, ◌∙◌}
use mathlib.Core.Bool.{Bool, true, false, not, ◌||◌}
use mathlib.Core.List.{List, [], ◌∷◌, ◌++◌}
use Prim.Native.Nat.{ℕ, ◌<◌}
use native.Mathlib.Omega.{arith}
use lib.Dec.{eqb}
use lib.ListN.{length, get_or}
use borrow.Author.Tests.{eq-eqb, eqb-true, eqb-false, ne_eqb, not-true}
use Rattle.lists.specs.Lists.{between, member, distinct, all_of, filter, find_index, remove_at}
use Rattle.lists.proofs.Laws.{all_cons, all_filter, all_get_d, all_join, all_map, all_none, all_one, all-remove_at, all_weaken, distinct-remove_at, remove_at_absent, removed_absent}
use Rattle.lists.proofs.Tests.{and_both, between_intro, by-test, or_neither, within}
use Rattle.message.specs.Kind
use Rattle.message.specs.declared.Message.{Message}
use Rattle.message.specs.Outbox.{message, plain}
use Rattle.mailbox.specs.Entry as Entry
use Rattle.mailbox.specs.Entry.{Entry, from_item, seen_by_item}
use Rattle.item.specs.Record.{Lock}
use Rattle.item.proofs.WellFormed.{LockWellFormed, free-lock}
use Rattle.wellformed.proofs.Entries.{session-range, item-range, a-range, b-range, plain_entry, pair_entry}
use Rattle.item.specs.Rules.{After, dropped, received, resends, without, probes, granted, queued, handed_over, vacated, on_request, on_release, on_probe, on_clean, on_rebroadcast, on_withdraw}

-- ---- lists without an element
-- one more at the end
member_snoc : (n t : ℕ) (l : List ℕ) → member n l ≡ false → (t ≡ n → ⊥) → member n (l ++ (t ∷ [])) ≡ false
unfolding member
member_snoc n t [] e f = rw (ne_eqb t n f) refl
member_snoc n t (a ∷ l) e f = let h = or_neither (eqb a n) (member n l) e in rw h.0 (member_snoc n t l h.1 f)

distinct_snoc : (t : ℕ) (l : List ℕ) → distinct l ≡ true → member t l ≡ false → distinct (l ++ (t ∷ [])) ≡ true
unfolding distinct member
distinct_snoc t [] d e = refl
distinct_snoc t (a ∷ l) d e =
    let h = and_both (not (member a l)) (distinct l) d in
    let f = or_neither (eqb a t) (member t l) e in
    rw (member_snoc a t l (not-true (member a l) h.0) (λ q. eqb-false a t f.0 (sym q))) (distinct_snoc t l h.1 f.1)

module _ (S M x : ℕ) where
  -- the test of a message that item x sends
  abbrev pub is_entry : Message → Bool
  is_entry m = Entry.well_formed S M (from_item x m)

  -- what an item's step leaves
  pub record ItemKept (r : After) : Type 0 where
    pub lock : LockWellFormed S r.lock
    pub sends : all_of is_entry r.sends ≡ true

  module _ (x-range : between 1 M x ≡ true) where
    resends-kept : (q : List ℕ) → all_of (between 1 S) q ≡ true → all_of is_entry (resends q) ≡ true
    unfolding resends
    resends-kept q e = all_map is_entry (λ r. plain r Kind.resend) q (all_weaken (between 1 S) _ (λ r f. plain_entry S M (from_item x (plain r Kind.resend)) refl f x-range refl refl refl) q e)

    probes-kept : (senior : ℕ → ℕ → Bool) (h : ℕ) (q : List ℕ) → between 1 S h ≡ true → all_of (between 1 S) q ≡ true → all_of is_entry (probes senior h q) ≡ true
    unfolding probes
    probes-kept senior h q w e =
        all_map is_entry (λ r. message h Kind.probe r h) (filter (λ r. senior r h) q)
        (all_filter _ (λ r. senior r h) q (all_weaken (between 1 S) _ (λ r f. pair_entry S M (from_item x (message h Kind.probe r h)) refl w x-range refl f w refl) q e))

    module _ (senior : ℕ → ℕ → Bool) (next : List ℕ → ℕ) (k : Lock) (w : LockWellFormed S k) (t : ℕ) (t-range : between 1 S t ≡ true) where
      dropped-kept : ItemKept (dropped k)
      dropped-kept = record { lock = w; sends = all_none is_entry }

      grant-entry : (n : ℕ) → between 1 S n ≡ true → is_entry (plain n Kind.grant) ≡ true
      grant-entry n e = plain_entry S M (from_item x (plain n Kind.grant)) refl e x-range refl refl refl

      holder-range : eqb k.holder 0 ≡ false → between 1 S k.holder ≡ true
      holder-range e = between_intro 1 S k.holder (omega (arith, eqb-false k.holder 0 e)) w.holder

      request-kept : ItemKept (on_request senior t k)
      unfolding on_request granted queued
      request-kept =
          by-test ItemKept (eqb k.holder t || member t k.queue) (λ _. dropped-kept)
          (λ e. let f = or_neither (eqb k.holder t) (member t k.queue) e in
          by-test ItemKept (eqb k.holder 0)
          (λ _. record { lock = record { holder = (within 1 S t t-range).1; sessions = w.sessions; once = w.once; apart = f.1 }; sends = all_one is_entry _ (grant-entry t t-range) })
          (λ some. record {
            lock = record {
              holder = w.holder;
              sessions = all_join (between 1 S) k.queue (t ∷ []) w.sessions (all_one (between 1 S) t t-range);
              once = distinct_snoc t k.queue w.once f.1;
              apart = member_snoc k.holder t k.queue w.apart (λ q. eqb-false k.holder t f.0 (sym q));
            };
            sends = by-test (λ (l : List Message). all_of is_entry l ≡ true) (senior t k.holder) (λ _. all_one is_entry _ (pair_entry S M (from_item x (message k.holder Kind.probe t k.holder)) refl (holder-range some) x-range refl t-range (holder-range some) refl)) (λ _. all_none is_entry);
          }))

      fan_kept : (h : ℕ) (p q : List ℕ) → between 1 S h ≡ true → all_of (between 1 S) p ≡ true → all_of (between 1 S) q ≡ true → all_of is_entry (probes senior h p ++ resends q) ≡ true
      fan_kept h p q r e f = all_join is_entry (probes senior h p) (resends q) (probes-kept senior h p r e) (resends-kept q f)

      vacated-kept : (q : List ℕ) → all_of (between 1 S) q ≡ true → distinct q ≡ true → (0 < length q → next q < length q) → ItemKept (vacated senior next q)
      unfolding vacated handed_over
      vacated-kept [] e d h = record { lock = free-lock S; sends = all_none is_entry }
      vacated-kept (a ∷ l) e d h =
          let q : List ℕ = a ∷ l in
          let inside = h (omega arith) in
          let n = get_or q (next q) 0 in
          let n-range : between 1 S n ≡ true = all_get_d (between 1 S) q (next q) 0 e inside in
          let rest = remove_at (next q) q in
          let rest-range = all-remove_at (between 1 S) (next q) q e in
          record {
            lock = record { holder = (within 1 S n n-range).1; sessions = rest-range; once = distinct-remove_at (next q) q d; apart = removed_absent (next q) q d inside };
            sends = all_cons is_entry _ _ (grant-entry n n-range) (fan_kept n rest rest n-range rest-range rest-range);
          }

      release-kept : (0 < length k.queue → next k.queue < length k.queue) → ItemKept (on_release senior next t k)
      unfolding on_release
      release-kept h = by-test ItemKept (eqb k.holder t) (λ _. vacated-kept k.queue w.sessions w.once h) (λ _. dropped-kept)

      withdraw-kept : ItemKept (on_withdraw t k)
      unfolding on_withdraw without
      withdraw-kept =
          let at = find_index (λ r. eqb r t) k.queue in
          record {
            lock = record {
              holder = w.holder;
              sessions = all-remove_at (between 1 S) at k.queue w.sessions;
              once = distinct-remove_at at k.queue w.once;
              apart = remove_at_absent k.holder at k.queue w.apart;
            };
            sends = all_one is_entry _ (plain_entry S M (from_item x (plain t Kind.withdrawn)) refl t-range x-range refl refl refl);
          }

      rebroadcast-kept : ItemKept (on_rebroadcast senior k)
      unfolding on_rebroadcast
      rebroadcast-kept =
          by-test ItemKept (eqb k.holder 0) (λ _. dropped-kept)
          (λ some. record { lock = w; sends = fan_kept k.holder k.queue k.queue (holder-range some) w.sessions w.sessions })

      module _ (a b : ℕ) (a-range : between 1 S a ≡ true) (b-range : between 1 S b ≡ true) where
        probe-kept : ItemKept (on_probe senior t a b k)
        unfolding on_probe
        probe-kept =
            by-test ItemKept (not (member t k.queue) || eqb k.holder 0 || senior k.holder a) (λ _. dropped-kept)
            (λ e. let some = (or_neither (not (member t k.queue)) (eqb k.holder 0) (or_neither _ (senior k.holder a) e).0).1 in
            by-test ItemKept (eqb k.holder a)
            (λ _. record { lock = w; sends = all_one is_entry _ (pair_entry S M (from_item x (message b Kind.abort b a)) refl b-range x-range refl b-range a-range (eq-eqb b b refl)) })
            (λ _. record { lock = w; sends = all_one is_entry _ (pair_entry S M (from_item x (message k.holder Kind.probe a b)) refl (holder-range some) x-range refl a-range b-range refl) }))

        clean-kept : ItemKept (on_clean senior t a b k)
        unfolding on_clean without
        clean-kept =
            by-test ItemKept (eqb k.holder 0) (λ _. dropped-kept)
            (λ some. record {
              lock = w;
              sends = all_cons is_entry _ _ (pair_entry S M (from_item x (message k.holder Kind.clean a b)) refl (holder-range some) x-range refl a-range b-range refl) (fan_kept k.holder k.queue (remove_at (find_index (λ r. eqb r t) k.queue) k.queue) (holder-range some) w.sessions (all-remove_at (between 1 S) _ k.queue w.sessions));
            })

-- item x takes an entry that a session sent to it: any seniority, any place of the next holder
module _ (senior : ℕ → ℕ → Bool) (next : List ℕ → ℕ) (S M : ℕ) (e : Entry) (form : Entry.well_formed S M e ≡ true) where
  pub item-kept : (k : Lock) → LockWellFormed S k → (0 < length k.queue → next k.queue < length k.queue)
      → ItemKept S M e.item (received senior next k (seen_by_item e))
  unfolding received
  item-kept k w h =
      let item = item-range S M e form in
      let session = session-range S M e form in
      let first = a-range S M e form in
      let second = b-range S M e form in
      let kept = ItemKept S M e.item in
      let t = e.session in
      let carries : (n : ℕ) → eqb e.kind n ≡ true → Kind.carries n ≡ true → Kind.carries e.kind ≡ true = λ n q c. ap Kind.carries (eqb-true e.kind n q) ∙ c in
      by-test kept (eqb e.kind Kind.request) (λ _. request-kept S M e.item item senior next k w t session)
      (λ _. by-test kept (eqb e.kind Kind.release) (λ _. release-kept S M e.item item senior next k w t session h)
      (λ _. by-test kept (eqb e.kind Kind.probe) (λ q. probe-kept S M e.item item senior next k w t session e.a e.b (first (carries Kind.probe q refl)) (second (carries Kind.probe q refl)))
      (λ _. by-test kept (eqb e.kind Kind.clean) (λ q. clean-kept S M e.item item senior next k w t session e.a e.b (first (carries Kind.clean q refl)) (second (carries Kind.clean q refl)))
      (λ _. by-test kept (eqb e.kind Kind.rebroadcast) (λ _. rebroadcast-kept S M e.item item senior next k w t session)
      (λ _. by-test kept (eqb e.kind Kind.withdraw) (λ _. withdraw-kept S M e.item item senior next k w t session) (λ _. dropped-kept S M e.item item senior next k w t session))))))
