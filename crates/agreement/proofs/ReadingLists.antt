-- The lists of the lock manager's rules are the machine's, and conditionals on equal tests agree.
use mathlib.Core.Path.{◌≡◌, refl, ap}
use mathlib.Core.Bool.{Bool, true, false, cond, not}
use mathlib.Core.List.{List, [], ◌∷◌, ◌++◌, map}
use Prim.Native.Nat.{ℕ, zero, suc, ◌<◌}
use native.Mathlib.Omega.{arith}
use lib.Dec.{eqb}
use lib.ListN.{length, get_or}
use borrow.Author.Tests.{eq-eqb, ne_eqb, not-true}
use Rattle.lists.specs.Lists.{member, distinct, find_index, remove_at}
use Rattle.lists.proofs.Laws.{absent_differs, get_d_member}
use Rattle.lists.proofs.Tests.{and_both}
use Rattle.message.specs.declared.Message.{Message}
use Rattle.item.specs.Rules as ItemRules
use Rattle.deadlock.specs.Lists.{without}
use Rattle.deadlock.specs.Machine
use Rattle.agreement.specs.Reading.{read_send, read_sends}

pub without-agrees : (a : ℕ) (l : List ℕ) → ItemRules.without a l ≡ without a l
unfolding ItemRules.without without find_index remove_at
without-agrees a [] = refl
without-agrees a (b ∷ l) = go (eqb b a) (without-agrees a l)
  where
    go : (t : Bool) → ItemRules.without a l ≡ without a l
        → remove_at (cond t 0 (suc (find_index (λ r. eqb r a) l))) (b ∷ l) ≡ cond t l (b ∷ without a l)
    go true e = refl
    go false e = ap (λ (r : List ℕ). b ∷ r) e

-- what is taken out at a place is the number there, where each stands once
pub remove_at-without : (l : List ℕ) (k : ℕ) → distinct l ≡ true → k < length l → remove_at k l ≡ without (get_or l k 0) l
unfolding distinct remove_at without
remove_at-without [] k d h = absurd (omega arith)
remove_at-without (a ∷ l) zero d h = rw (eq-eqb a a refl) refl
remove_at-without (a ∷ l) (suc k) d h =
    let both = and_both (not (member a l)) (distinct l) d in
    let other : a ≡ get_or l k 0 → ⊥ =
    absent_differs a (get_or l k 0) l (not-true (member a l) both.0) (get_d_member l k (omega arith)) in
    rw (ne_eqb a (get_or l k 0) other) (ap (λ (r : List ℕ). a ∷ r) (remove_at-without l k both.1 (omega arith)))

pub read_sends-append : (k l : List Message) → read_sends (k ++ l) ≡ read_sends k ++ read_sends l
unfolding read_sends
read_sends-append [] l = refl
read_sends-append (m ∷ k) l = ap (λ (r : Machine.Sends). read_send m ∷ r) (read_sends-append k l)

-- messages made one for each number of a list
pub read_sends-map : (f : ℕ → Message) (l : List ℕ) → read_sends (map f l) ≡ map (λ (a : ℕ). read_send (f a)) l
unfolding read_sends
read_sends-map f [] = refl
read_sends-map f (a ∷ l) = ap (λ (r : Machine.Sends). read_send (f a) ∷ r) (read_sends-map f l)
