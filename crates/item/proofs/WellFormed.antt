-- What a well-formed item record gives, fact by fact, and how one is made.
use mathlib.Core.Path.{◌≡◌, refl, sym, ap, ◌∙◌}
use mathlib.Core.Bool.{true, false, not}
use mathlib.Core.List.{List, ◌∷◌, ◌++◌}
use Prim.Native.Nat.{ℕ, ◌-◌, ◌≤◌, zero-le}
use native.Mathlib.Omega.{arith}
use lib.Dec.{eqb, leb}
use lib.ListN.{length, drop, replicate, length-drop, take-append-drop}
use lib.Seq.{drop-append_seam}
use borrow.Author.Tests.{leb-true, le-leb, not-true}
use Rattle.lists.specs.Lists.{between, member, distinct, all_of}
use Rattle.lists.proofs.Laws.{all_replicate, zeros-all}
use Rattle.lists.proofs.Searches.{distinct-length}
use Rattle.lists.proofs.Tests.{and_both, and_intro}
use Rattle.item.specs.declared.Item.{Item}
use Rattle.item.specs.Record.{Lock, free, unpacked, packed, well_formed, Packed}
use Rattle.item.proofs.Laws.{waiting-length, length-packed, packed_eq, unpacked-packed}

module _ (S : ℕ) where
  -- what a lock's record says of S sessions: the holder is one of them or 0; those in the queue are distinct, and none is the holder
  pub record LockWellFormed (k : Lock) : Type 0 where
    pub holder : k.holder ≤ S
    pub sessions : all_of (between 1 S) k.queue ≡ true
    pub once : distinct k.queue ≡ true
    pub apart : member k.holder k.queue ≡ false

  -- its queue fits, with zeros behind it
  record ItemWellFormed (i : Item) : Type 0 where
    lock : LockWellFormed (unpacked i)
    fits : i.waiting ≤ 64
    zeros : all_of (λ b. eqb b 0) (drop i.waiting i.queue) ≡ true

  module _ (i : Item) (w : well_formed S i ≡ true) where
    item-facts : ItemWellFormed i
    unfolding well_formed
    item-facts =
        let l = (unpacked i).queue in
        let tail = and_both _ (all_of (λ b. eqb b 0) (drop i.waiting i.queue)) w in
        let other = and_both _ (not (member i.holder l)) tail.0 in
        let once = and_both _ (distinct l) other.0 in
        let range = and_both _ (all_of (between 1 S) l) once.0 in
        let ends = and_both (leb i.holder S) (leb i.waiting 64) range.0 in
        record {
          lock = record { holder = leb-true i.holder S ends.0; sessions = range.1; once = once.1; apart = not-true (member i.holder l) other.1 };
          fits = leb-true i.waiting 64 ends.1;
          zeros = tail.1;
        }

    pub unpacked-lock : LockWellFormed (unpacked i)
    unpacked-lock = item-facts.lock

    -- it is what the rules ask for, where there are at most 64 sessions
    pub well_formed-packed : S ≤ 64 → length i.queue ≡ 64 → Packed i
    unfolding distinct all_of
    well_formed-packed h q =
        let f = item-facts in
        let l = (unpacked i).queue in
        let full = waiting-length i q f.fits in
        let left : length (drop i.waiting i.queue) ≡ 64 - length l = rw (length-drop, full, q) refl in
        record {
          fits = f.fits;
          room = λ some.
              let low : leb 1 i.holder ≡ true = le-leb 1 i.holder (omega arith) in
              let all_once : distinct (i.holder ∷ l) ≡ true = rw f.lock.apart f.lock.once in
              let all-range : all_of (between 1 S) (i.holder ∷ l) ≡ true = rw (low, le-leb i.holder S f.lock.holder) f.lock.sessions in
              omega (arith, distinct-length S (i.holder ∷ l) all_once all-range);
          zeros =
              packed_eq i.holder i.waiting i.queue l (sym full) (sym (take-append-drop i.waiting i.queue) ∙ ap (λ (r : List ℕ). l ++ r) (zeros-all (drop i.waiting i.queue) f.zeros ∙ ap (λ (n : ℕ). replicate n 0) left));
        }

  pub packed-lock : (k : Lock) → S ≤ 64 → LockWellFormed k → well_formed S (packed k) ≡ true
  unfolding well_formed
  packed-lock k few w =
      let same : (unpacked (packed k)).queue ≡ k.queue = ap (λ (j : Lock). j.queue) (unpacked-packed k) in
      let fits = distinct-length S k.queue w.once w.sessions in
      let tail : drop (length k.queue) (packed k).queue ≡ replicate (64 - length k.queue) 0 = drop-append_seam k.queue (replicate (64 - length k.queue) 0) in
      and_intro (and_intro (and_intro (and_intro (and_intro (le-leb k.holder S w.holder) (le-leb (length k.queue) 64 (omega arith))) (rw (same) w.sessions)) (rw (same) w.once)) (rw (same, w.apart) refl)) (rw (tail) (all_replicate (λ b. eqb b 0) (64 - length k.queue) 0 refl))

  -- its queue, in its record
  pub queue-whole : S ≤ 64 → (k : Lock) → LockWellFormed k → length (packed k).queue ≡ 64
  queue-whole few k w = length-packed k (omega (arith, few, distinct-length S k.queue w.once w.sessions))

  -- every item of a lock manager that was just started
  pub free-lock : LockWellFormed free
  unfolding all_of distinct member
  free-lock = record { holder = zero-le; sessions = refl; once = refl; apart = refl }

  pub free-formed : S ≤ 64 → well_formed S (packed free) ≡ true
  free-formed few = packed-lock free few free-lock
