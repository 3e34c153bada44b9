-- Laws of a list that stands between two others, and of a padded list.
use mathlib.Core.Path.{◌≡◌, refl, sym, ap, ◌∙◌}
use mathlib.Core.List.{List, ◌++◌, append_assoc}
use Prim.Native.Nat.{ℕ, zero, suc, ◌+◌, ◌-◌, ◌≤◌}
use native.Mathlib.Nat.{add_assoc}
use native.Mathlib.Omega.{arith}
use lib.ListN.{length, take, drop, replicate, length-append, length-drop, length-replicate, replicate-append-replicate}
use lib.Seq.{take-append-add, drop-append-add, take-append-le, drop-append-le, take_at, drop_at, take-length}
use Rattle.buffer.specs.Bytes.{slice, splice, padded}

-- a write within the middle of three lists
pub splice-within : (x y z v : List ℕ) (k : ℕ) → k + length v ≤ length y → splice (x ++ (y ++ z)) (length x + k) v ≡ x ++ (splice y k v ++ z)
unfolding splice
splice-within x y z v k h =
    let front : take (length x + k) (x ++ (y ++ z)) ≡ x ++ take k y = take-append-add x (y ++ z) k ∙ ap (λ (l : List ℕ). x ++ l) (take-append-le k y z (omega arith)) in
    let back : drop (length x + k + length v) (x ++ (y ++ z)) ≡ drop (k + length v) y ++ z =
    ap (λ (n : ℕ). drop n (x ++ (y ++ z))) (add_assoc (length x) k (length v)) ∙ drop-append-add x (y ++ z) (k + length v) ∙ drop-append-le (k + length v) y z h in
    rw (front, back) (simp append_assoc)

-- a run within the middle of three lists
pub slice-within : (x y z : List ℕ) (k n : ℕ) → k + n ≤ length y → slice (x ++ (y ++ z)) (length x + k) n ≡ slice y k n
slice-within x y z k n h =
    ap (take n) (drop-append-add x (y ++ z) k ∙ drop-append-le k y z (omega arith)) ∙ take-append-le n (drop k y) z (rw (length-drop) (omega arith))

drop-zeros : (k n : ℕ) → drop {A = ℕ} k (replicate n 0) ≡ replicate (n - k) 0
drop-zeros zero n = let e : n - 0 ≡ n = omega arith in rw (e) refl
drop-zeros (suc k) zero = let e : 0 - suc k ≡ 0 = omega arith in rw (e) refl
drop-zeros (suc k) (suc n) = let e : suc n - suc k ≡ n - k = omega arith in drop-zeros k n ∙ rw (e) refl

pub length-padded : (n : ℕ) (r : List ℕ) → length r ≤ n → length (padded n r) ≡ n
length-padded n r h = rw (length-append, length-replicate) (omega arith)

-- zeros at the end of a list are padding
pub padded-zeros : (n : ℕ) (r : List ℕ) (k : ℕ) → length r + k ≤ n → padded n (r ++ replicate k 0) ≡ padded n r
padded-zeros n r k h =
    let len : length (r ++ replicate k 0) ≡ length r + k = length-append r (replicate k 0) ∙ ap (λ (j : ℕ). length r + j) (length-replicate k 0) in
    let all : k + (n - length (r ++ replicate k 0)) ≡ n - length r = omega arith in
    rw (append_assoc r (replicate k 0) (replicate (n - length (r ++ replicate k 0)) 0), replicate-append-replicate {A = ℕ} k (n - length (r ++ replicate k 0)) 0, all) refl

-- the padding
pub slice_padding : (n : ℕ) (r : List ℕ) (at k : ℕ) → at ≡ length r → k ≡ n - length r → slice (padded n r) at k ≡ replicate k 0
slice_padding n r at k e f =
    let z : length (replicate {A = ℕ} k 0) ≡ k = length-replicate k 0 in
    rw (e, ← f, drop_at r (replicate k 0) (length r) refl) (rw (z) at (take-length {A = ℕ} (replicate k 0)))

-- more at the end of a padded list
pub splice-end : (n : ℕ) (r v : List ℕ) → length r + length v ≤ n → splice (padded n r) (length r) v ≡ padded n (r ++ v)
unfolding splice
splice-end n r v h =
    let len : length (r ++ v) ≡ length r + length v = length-append r v in
    let size : n - length r - length v ≡ n - length (r ++ v) = omega arith in
    let back : drop (length r + length v) (padded n r) ≡ replicate (n - length (r ++ v)) 0 =
    drop-append-add r (replicate (n - length r) 0) (length v) ∙ drop-zeros (length v) (n - length r)
    ∙ ap (λ (k : ℕ). replicate k 0) size in
    rw (take_at r (replicate (n - length r) 0) (length r) refl, back) (sym (append_assoc r v (replicate (n - length (r ++ v)) 0)))

-- more at the end of a padded list that stands between two others
pub end-within : (x z : List ℕ) (n : ℕ) (r v : List ℕ) → length r + length v ≤ n
    → splice (x ++ (padded n r ++ z)) (length x + length r) v ≡ x ++ (padded n (r ++ v) ++ z)
end-within x z n r v h =
    let full : length (padded n r) ≡ n = length-padded n r (omega arith) in
    rw (splice-within x (padded n r) z v (length r) (omega arith), splice-end n r v h) refl
