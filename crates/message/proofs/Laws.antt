-- Laws of the array that holds a list of messages.
use mathlib.Core.Path.{◌≡◌, refl, sym, subst, ◌∙◌}
use mathlib.Core.List.{List, [], ◌∷◌, ◌++◌, append_assoc}
use Prim.Native.Nat.{ℕ, suc, ◌+◌, ◌-◌, ◌≤◌, ◌<◌}
use native.Mathlib.Numerals.{add-one}
use native.Mathlib.Omega.{arith}
use lib.ListN.{length, take, set, replicate, length-append, length-replicate}
use lib.Seq.{set-append_seam, take-append-le}
use Rattle.std.proofs.Math.Seq.{take-length}
use Rattle.message.specs.declared.Message.{Message}
use Rattle.message.specs.Outbox.{room, plain, cells}

-- one message more
pub push_cells : (l : List Message) (m : Message) → length l < room → set (cells l) (length l) m ≡ cells (l ++ (m ∷ []))
unfolding cells
push_cells l m h =
    let left : room - length l ≡ suc (room - suc (length l)) = omega arith in
    let more : length (l ++ (m ∷ [])) ≡ suc (length l) = length-append l (m ∷ []) ∙ add-one (length l) in
    rw (left, set-append_seam, more, append_assoc) refl

pub length-cells : (l : List Message) → length l ≤ room → length (cells l) ≡ room
unfolding cells
length-cells l h = omega (arith, length-append l (replicate (room - length l) (plain 0 0)), length-replicate (room - length l) (plain 0 0))

pub take-cells : (l : List Message) → take (length l) (cells l) ≡ l
unfolding cells
take-cells l = take-append-le (length l) l (replicate (room - length l) (plain 0 0)) (omega arith) ∙ take-length l

-- what an outbox keeps: its places are the first n messages, then blanks
abbrev Kept : ℕ → List Message → Type 0
Kept n at = (n ≤ room) × (length (take n at) ≡ n) × (cells (take n at) ≡ at)

kept_more : (l : List Message) (m : Message) → length l < room → Kept (length l + 1) (set (cells l) (length l) m)
kept_more l m h =
    let more : length l + 1 ≡ length (l ++ (m ∷ [])) = sym (length-append l (m ∷ [])) in
    rw (push_cells l m h, more, take-cells) (omega arith, refl, refl)

pub pushed : (n : ℕ) (at : List Message) (m : Message) → n < room → Kept n at → Kept (n + 1) (set at n m)
pushed n at m h k =
    subst (λ (a : List Message). Kept (n + 1) (set a n m)) k.2
    (subst (λ (j : ℕ). Kept (j + 1) (set (cells (take n at)) j m)) k.1
    (kept_more (take n at) m (omega (arith, k.1))))
