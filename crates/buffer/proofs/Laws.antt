-- Laws of parts of a buffer, of what is written over it, and of the bytes of a number.
use mathlib.Core.Path.{◌≡◌, refl, sym, ap, ◌∙◌}
use mathlib.Core.List.{List, [], ◌∷◌, ◌++◌, append_assoc, append-nil}
use Prim.Native.Nat.{ℕ, zero, suc, ◌+◌, ◌-◌, ◌*◌, ◌/◌, ◌%◌, ◌^◌, ◌≤◌, ◌<◌}
use native.Mathlib.Nat.{add_assoc, add-zero, zero-add, pow-suc}
use native.Mathlib.Numerals.{add-one}
use native.Mathlib.Omega.{arith}
use lib.ListN.{length, get_or, take, drop, set, length-append, length-drop, take-append-drop, drop_of_length-le}
use lib.Seq.{take-length, set_split, set-append_seam, take_at, take-add, take-append-le, take-append_seam, drop_at, drop-append-add, drop-append-le, drop-drop, length-take-le, drop-cons, get_or-drop, get_or-take, take-suc, take_all, paste, sets, sets-eq}
use mathlib.Core.Bool.{◌&&◌, and-true, and_assoc}
use lib.Bits.{bit_or}
use lib.Dec.{eqb}
use Rattle.std.specs.List.{fold}
use Rattle.lists.specs.Lists.{all_of}
use Rattle.lists.proofs.Tests.{or_zero}
use Rattle.buffer.specs.Bytes.{slice, from_bytes, to_bytes, splice, padded}

-- every element is a byte
abbrev pub AreBytes : List ℕ → Type 0
AreBytes l = (i : ℕ) → i < length l → get_or l i 0 < 256

-- a store of one byte
pub set-splice : (t : List ℕ) (at b : ℕ) → at < length t → set t at b ≡ splice t at (b ∷ [])
unfolding splice
set-splice t at b h = rw (add-one) (set_split t at b h)

pub length-slice : (t : List ℕ) (at n : ℕ) → at + n ≤ length t → length (slice t at n) ≡ n
length-slice t at n h = length-take-le n (drop at t) (rw (length-drop) (omega arith))

pub get_d_slice : (t : List ℕ) (at n i : ℕ) → i < n → get_or (slice t at n) i 0 ≡ get_or t (at + i) 0
get_d_slice t at n i h = get_or-take n (drop at t) i 0 h ∙ get_or-drop at t i 0

-- a part in two
pub slice-split : (t : List ℕ) (at n m : ℕ) → slice t at (n + m) ≡ slice t at n ++ slice t (at + n) m
slice-split t at n m = take-add n m (drop at t) ∙ ap (λ (l : List ℕ). take n (drop at t) ++ take m l) (drop-drop n at t)

-- a part of the front of two lists
slice_front : (k l : List ℕ) (at n : ℕ) → at + n ≤ length k → slice (k ++ l) at n ≡ slice k at n
slice_front k l at n h =
    ap (take n) (drop-append-le at k l (omega arith)) ∙ take-append-le n (drop at k) l (rw (length-drop) (omega arith))

-- one element more of a part
pub slice-more : (t : List ℕ) (at n : ℕ) → at + n < length t → slice t at (n + 1) ≡ slice t at n ++ (get_or t (at + n) 0 ∷ [])
slice-more t at n h = rw (add-one, ← get_or-drop at t n 0) (take-suc (drop at t) n 0 (rw (length-drop) (omega arith)))

module _ (t : List ℕ) (at : ℕ) (a : List ℕ) (h : at + length a ≤ length t) where
  head-length : length (take at t ++ a) ≡ at + length a
  head-length = length-append (take at t) a ∙ ap (λ (n : ℕ). n + length a) (length-take-le at t (omega arith))

  pub length-splice : length (splice t at a) ≡ length t
  unfolding splice
  length-splice = simp (length-append, length-drop, length-take-le at t (omega arith)) (omega arith)

  pub drop-splice : drop at (splice t at a) ≡ a ++ drop (at + length a) t
  unfolding splice
  drop-splice = drop_at (take at t) (a ++ drop (at + length a) t) at (length-take-le at t (omega arith))

  -- what was written is read again
  pub slice-splice : slice (splice t at a) at (length a) ≡ a
  slice-splice = ap (take (length a)) drop-splice ∙ take-append_seam a (drop (at + length a) t)

  -- and what stands before it stays
  pub slice-splice-before : (p n : ℕ) → p + n ≤ at → slice (splice t at a) p n ≡ slice t p n
  unfolding splice
  slice-splice-before p n f =
      let fits : p + n ≤ length (take at t) = rw (length-take-le at t (omega arith)) f in
      slice_front (take at t) (a ++ drop (at + length a) t) p n fits
      ∙ sym (slice_front (take at t) (drop at t) p n fits) ∙ ap (λ (l : List ℕ). slice l p n) (take-append-drop at t)

  seam : splice t at a ≡ (take at t ++ a) ++ drop (at + length a) t
  unfolding splice
  seam = sym (append_assoc (take at t) a (drop (at + length a) t))

  -- past what was written
  drop_past : (n : ℕ) → drop (at + length a + n) (splice t at a) ≡ drop (at + length a + n) t
  drop_past n =
      ap (drop (at + length a + n)) seam
      ∙ ap (λ (k : ℕ). drop (k + n) ((take at t ++ a) ++ drop (at + length a) t)) (sym head-length)
      ∙ drop-append-add (take at t ++ a) (drop (at + length a) t) n ∙ drop-drop n (at + length a) t

  -- and what stands behind it stays
  pub slice-splice-after : (p n : ℕ) → at + length a ≤ p → slice (splice t at a) p n ≡ slice t p n
  slice-splice-after p n f =
      let past : at + length a + (p - (at + length a)) ≡ p = omega arith in
      ap (take n) (rw (past) at (drop_past (p - (at + length a))))

  -- a second run of bytes right behind the first
  pub splice-splice : (b : List ℕ) → splice (splice t at a) (at + length a) b ≡ splice t at (a ++ b)
  unfolding splice
  splice-splice b =
      let front : take (at + length a) (splice t at a) ≡ take at t ++ a =
      ap (take (at + length a)) seam ∙ take_at (take at t ++ a) (drop (at + length a) t) (at + length a) head-length in
      let back : drop (at + length a + length b) (splice t at a) ≡ drop (at + length (a ++ b)) t =
      drop_past (length b) ∙ ap (λ (n : ℕ). drop n t) (add_assoc at (length a) (length b) ∙ ap (λ (n : ℕ). at + n) (sym (length-append a b))) in
      rw (front, back) (simp append_assoc)

-- a run of bytes written over a part of its length
pub part_written : {x a : List ℕ} (t : List ℕ) (at k : ℕ) → x ≡ a → length a ≡ k → take at t ++ (x ++ drop k (drop at t)) ≡ splice t at a
unfolding splice
part_written t at k e h = rw (e, h, drop-drop k at t) refl

-- a run of bytes at the start of the part from `at` on, which is then back in its place
pub part-splice : {x : List ℕ} (t : List ℕ) (at : ℕ) (l : List ℕ) → x ≡ splice (slice t at (length t - at)) 0 l
    → take at t ++ (x ++ drop (length t - at) (drop at t)) ≡ splice t at l
unfolding splice
part-splice t at l e =
    let n : length (drop at t) ≤ length t - at = rw (length-drop) (omega arith) in
    rw (e, take_all (length t - at) (drop at t) n, drop_of_length-le (drop at t) {i = length t - at} n)
    (ap (λ (r : List ℕ). take at t ++ r) (append-nil (l ++ drop (0 + length l) (drop at t)) ∙ ap (λ (r : List ℕ). l ++ r) (rw (zero-add) (drop-drop (length l) at t))))

-- n bytes moved down by `by` to `at`
abbrev pub moved_down : List ℕ → ℕ → ℕ → ℕ → List ℕ
moved_down t at by n = splice t at (slice t (at + by) n)

pub move-none : (t : List ℕ) (at by : ℕ) → moved_down t at by 0 ≡ t
unfolding splice
move-none t at by = rw (add-zero) (take-append-drop at t)

pub move-byte : (t : List ℕ) (at by : ℕ) → at + by < length t → set t at (get_or t (at + by) 0) ≡ moved_down t at by 1
move-byte t at by h =
    rw (drop-cons t (at + by) 0 h) (set-splice t at (get_or t (at + by) 0) (omega arith))

pub move_all : (t : List ℕ) (at by n m : ℕ) → at + by + n ≤ length t → m ≡ n → paste t at (drop (at + by) t) m ≡ moved_down t at by n
unfolding splice
move_all t at by n m h e =
    let len = length-slice t (at + by) n h in
    rw (e, len) (append_assoc (take at t) (slice t (at + by) n) (drop (at + n) t))

-- i of n bytes have moved: k more, and then what is left, is all the rest at once
pub move-more : (t : List ℕ) (at by n i k : ℕ) → at + by + n ≤ length t → i + k ≤ n
    → moved_down (moved_down t (at + i) by k) (at + (i + k)) by (n - (i + k)) ≡ moved_down t (at + i) by (n - i)
move-more t at by n i k h f =
    let a : List ℕ = slice t (at + i + by) k in
    let len : length a ≡ k = length-slice t (at + i + by) k (omega arith) in
    let next : at + (i + k) ≡ at + i + length a = omega arith in
    let from : at + i + length a + by ≡ at + i + by + k = omega arith in
    let all : n - i ≡ k + (n - (i + k)) = omega arith in
    let rest : slice (splice t (at + i) a) (at + i + length a + by) (n - (i + k)) ≡ slice t (at + i + by + k) (n - (i + k)) =
    slice-splice-after t (at + i) a (omega arith) (at + i + length a + by) (n - (i + k)) (omega arith)
    ∙ ap (λ (j : ℕ). slice t j (n - (i + k))) from in
    rw (next, rest, all, slice-split t (at + i + by) k (n - (i + k))) (splice-splice t (at + i) a (omega arith) (slice t (at + i + by + k) (n - (i + k))))

-- one element more of a padded list
pub put-padded : (m : ℕ) (p : List ℕ) (x : ℕ) → length p < m → set (padded m p) (length p) x ≡ padded m (p ++ (x ∷ []))
put-padded m p x h =
    let left : m - length p ≡ suc (m - suc (length p)) = omega arith in
    let more : length (p ++ (x ∷ [])) ≡ suc (length p) = length-append p (x ∷ []) ∙ add-one (length p) in
    rw (left, set-append_seam, more, append_assoc) refl

-- padding adds nothing to a list that is long enough
pub padded-full : (m : ℕ) (l : List ℕ) → length l ≡ m → padded m l ≡ l
padded-full m l h = let none : m - length l ≡ 0 = omega arith in rw (none) (append-nil l)

-- a run of stores
pub sets-splice : (t : List ℕ) (at : ℕ) (vs : List ℕ) → at + length vs ≤ length t → sets t at vs ≡ splice t at vs
unfolding splice
sets-splice t at vs h = sets-eq vs t at h ∙ append_assoc (take at t) vs (drop (at + length vs) t)

-- a copy of a whole list
pub paste-splice : (t : List ℕ) (at : ℕ) (l : List ℕ) (n : ℕ) → n ≡ length l → paste t at l n ≡ splice t at l
unfolding splice
paste-splice t at l n e = rw (e, take-length) (append_assoc (take at t) l (drop (at + length l) t))

-- the bytes of a number make the number
pub from_bytes-to_bytes : (k n : ℕ) → n < 256 ^ k → from_bytes (to_bytes k n) ≡ n
from_bytes-to_bytes zero n h = omega arith
from_bytes-to_bytes (suc k) n h = let rest = from_bytes-to_bytes k (n / 256) (omega (arith, pow-suc 256 k)) in omega arith

module _ (b : ℕ) (l : List ℕ) (h : AreBytes (b ∷ l)) where
  first_byte : b < 256
  first_byte = h 0 (omega arith)

  other-bytes : AreBytes l
  other-bytes i f = h (suc i) (omega arith)

-- and the number made of bytes has these bytes
pub to_bytes-from_bytes : (l : List ℕ) → AreBytes l → to_bytes (length l) (from_bytes l) ≡ l
to_bytes-from_bytes [] h = refl
to_bytes-from_bytes (b ∷ l) h =
    let low = first_byte b l h in
    let head : (b + 256 * from_bytes l) % 256 ≡ b = omega arith in
    let rest : (b + 256 * from_bytes l) / 256 ≡ from_bytes l = omega arith in
    rw (head, rest) (ap (λ (k : List ℕ). b ∷ k) (to_bytes-from_bytes l (other-bytes b l h)))

pub from_bytes-bound : (l : List ℕ) → AreBytes l → from_bytes l < 256 ^ length l
from_bytes-bound [] h = omega arith
from_bytes-bound (b ∷ l) h = omega (arith, pow-suc 256 (length l), first_byte b l h, from_bytes-bound l (other-bytes b l h))

-- a part of bytes is bytes
pub bytes-slice : (t : List ℕ) (at n : ℕ) → at + n ≤ length t → AreBytes t → AreBytes (slice t at n)
bytes-slice t at n h f i g =
    let len = length-slice t at n h in rw (get_d_slice t at n i (omega arith)) (f (at + i) (omega arith))

pub from_bytes-slice-bound : (t : List ℕ) (at n : ℕ) → at + n ≤ length t → AreBytes t → from_bytes (slice t at n) < 256 ^ n
from_bytes-slice-bound t at n h f = rw (length-slice t at n h) at (from_bytes-bound (slice t at n) (bytes-slice t at n h f))

-- bytes or-ed together are zero where each is
pub or_all : (n : ℕ) (l : List ℕ) → eqb (fold bit_or n l) 0 ≡ eqb n 0 && all_of (λ b. eqb b 0) l
unfolding all_of
or_all n [] = sym (and-true (eqb n 0))
or_all n (b ∷ l) = or_all (bit_or n b) l ∙ rw (or_zero, and_assoc) refl
