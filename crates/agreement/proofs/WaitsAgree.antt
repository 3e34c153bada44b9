-- Who waits for whom, and the cycles of waits, are the same read from the lock manager's records and from the machine's state.
use mathlib.Core.Path.{◌≡◌, refl, sym, ap, ◌∙◌, fun_ext}
use mathlib.Core.Bool.{Bool, true, false, cond, not, ◌&&◌}
use mathlib.Core.List.{List}
use Prim.Native.Nat.{ℕ, ◌≤◌}
use native.Mathlib.Omega.{arith}
use lib.Dec.{eqb}
use borrow.Author.Tests.{eqb-true, eqb-false}
use Rattle.lists.specs.Lists.{lowest, member}
use Rattle.lists.proofs.Searches.{lowest_le, lowest-same}
use Rattle.lists.proofs.Tests.{between_intro}
use Rattle.mailbox.specs.Entry.{Entry}
use Rattle.session.specs.declared.Session.{Session}
use Rattle.item.specs.Record.{Lock}
use Rattle.waits.specs.Waits
use Rattle.deadlock.specs.Machine
use Rattle.agreement.specs.Reading.{read_holder, read_item, read_items, read_state, rules}
use Rattle.agreement.proofs.ItemAgrees.{on-holder}

holder-read : (h : ℕ) → Machine.holder_or0 (read_holder h) ≡ h
holder-read h = on-holder Machine.holder_or0 h ∙ go (eqb h 0) refl
  where
    go : (b : Bool) → eqb h 0 ≡ b → cond b 0 h ≡ h
    go true e = sym (eqb-true h 0 e)
    go false e = refl

module _ (S M : ℕ) (sessions : ℕ → Session) (locks : ℕ → Lock) (l : List Entry) where
  item-at : (x : ℕ) → 1 ≤ x → x ≤ M → read_items M locks x ≡ read_item (locks x)
  unfolding read_items
  item-at x low high = rw (between_intro 1 M x low high) refl

  holder-at : (x : ℕ) → 1 ≤ x → x ≤ M → Machine.holder_or0 (read_items M locks x).holder ≡ (locks x).holder
  holder-at x low high = rw (item-at x low high) (holder-read (locks x).holder)

  module _ (senior : ℕ → ℕ → Bool) (next : List ℕ → ℕ) where
    pub waits-for-agrees : (t : ℕ) → Machine.waits_for (rules S M senior next) (read_state S M sessions locks l) t ≡ Waits.waits_for M locks t
    unfolding Machine.waits_for Waits.waits_for Waits.waits_at Waits.queued_at
    waits-for-agrees t =
        ap (λ (w : ℕ). cond (eqb w 0) 0 (Machine.holder_or0 (read_items M locks w).holder)) (lowest-same M _ (Waits.queued_at M locks t) queued)
        ∙ go (lowest M (Waits.queued_at M locks t)) (lowest_le M (Waits.queued_at M locks t)) (eqb (lowest M (Waits.queued_at M locks t)) 0) refl
      where
        queued : (k : ℕ) → 1 ≤ k → k ≤ M → not (eqb (Machine.holder_or0 (read_items M locks k).holder) 0) && member t (read_items M locks k).queue ≡ not (eqb (locks k).holder 0) && member t (locks k).queue
        queued k low high = rw (item-at k low high, holder-read (locks k).holder) refl

        go : (k : ℕ) → k ≤ M → (b : Bool) → eqb k 0 ≡ b → cond b 0 (Machine.holder_or0 (read_items M locks k).holder) ≡ cond b 0 (locks k).holder
        go k high true e = refl
        go k high false e = holder-at k (omega (arith, eqb-false k 0 e)) high

    -- whatever is told of who waits for whom
    waits-agree : Machine.waits_for (rules S M senior next) (read_state S M sessions locks l) ≡ Waits.waits_for M locks
    waits-agree = fun_ext waits-for-agrees

    -- the session reached by a number of waits, and whether a session lies on a cycle
    pub reached-agrees : (n t : ℕ) → Machine.reached (rules S M senior next) (read_state S M sessions locks l) n t ≡ Waits.reached (Waits.waits_for M locks) n t
    reached-agrees n t = ap (λ (f : ℕ → ℕ). Waits.reached f n t) waits-agree

    pub on-cycle-agrees : (t : ℕ) → Machine.on_cycle (rules S M senior next) (read_state S M sessions locks l) t ≡ Waits.on_cycle (Waits.waits_for M locks) S t
    on-cycle-agrees t = ap (λ (f : ℕ → ℕ). Waits.on_cycle f S t) waits-agree
