-- Laws of bytes taken out of a run of bytes.
use mathlib.Core.Path.{◌≡◌, refl, sym, ap, ◌∙◌}
use mathlib.Core.List.{List, ◌++◌, append_assoc}
use Prim.Native.Nat.{ℕ, ◌+◌, ◌-◌, ◌≤◌}
use native.Mathlib.Omega.{arith}
use lib.ListN.{length, take, drop, replicate, length-append, length-drop, length-replicate, replicate-append-replicate}
use lib.Seq.{take-append-le, drop-append-le, drop-drop, length-take-le, take_at, drop_at}
use Rattle.buffer.specs.Bytes.{slice, splice, padded}
use Rattle.buffer.proofs.Laws.{length-slice, slice-split, splice-splice, moved_down}
use Rattle.buffer.proofs.Padded.{splice-within, slice-within, length-padded}

-- len bytes from `from` on without the first `by`, then zeros
abbrev pub closed_up : List ℕ → ℕ → ℕ → ℕ → List ℕ
closed_up m from by len = padded len (drop by (slice m from len))

module _ (m : List ℕ) (from by len : ℕ) (h : from + len ≤ length m) where
  closed-length : length (closed_up m from by len) ≡ len
  closed-length =
      length-padded len (drop by (slice m from len)) (rw (length-drop, length-slice m from len h) (omega arith))

  -- the rest moved down, and zeros behind it
  pub closed-end : {p : List ℕ} → by ≤ len → p ≡ moved_down m from by (len - by) → splice p (from + (len - by)) (replicate by 0) ≡ splice m from (closed_up m from by len)
  closed-end k e =
      let r : List ℕ = slice m (from + by) (len - by) in
      let whole : len ≡ by + (len - by) = omega arith in
      let rl : length r ≡ len - by = length-slice m (from + by) (len - by) (omega arith) in
      let left : drop by (slice m from len) ≡ r =
      ap (λ (n : ℕ). drop by (slice m from n)) whole ∙ ap (drop by) (slice-split m from by (len - by))
      ∙ drop_at (slice m from by) r by (length-slice m from by (omega arith)) in
      let gap : len - length r ≡ by = omega arith in
      let full : closed_up m from by len ≡ r ++ replicate by 0 = ap (padded len) left ∙ ap (λ (n : ℕ). r ++ replicate n 0) gap in
      ap (λ (q : List ℕ). splice q (from + (len - by)) (replicate by 0)) e
      ∙ ap (λ (n : ℕ). splice (splice m from r) (from + n) (replicate by 0)) (sym rl)
      ∙ splice-splice m from r (omega arith) (replicate by 0) ∙ ap (splice m from) (sym full)

-- more zeros
more-zeros : (n k by : ℕ) → by ≤ k → k ≤ n → replicate {A = ℕ} (n - (k - by)) 0 ≡ replicate by 0 ++ replicate (n - k) 0
more-zeros n k by h m =
    let size : n - (k - by) ≡ by + (n - k) = omega arith in
    rw (size) (sym (replicate-append-replicate {A = ℕ} by (n - k) 0))

-- elements taken out of a padded list
splice_cut : (n : ℕ) (r : List ℕ) (k by : ℕ) → k + by ≤ length r → length r ≤ n
    → splice (padded n r) k (closed_up (padded n r) k by (length r - k)) ≡ padded n (take k r ++ drop (k + by) r)
unfolding splice
splice_cut n r k by h m =
    let z : List ℕ = replicate (n - length r) 0 in
    let here : slice (padded n r) k (length r - k) ≡ drop k r =
    ap (take (length r - k)) (drop-append-le k r z (omega arith)) ∙ take_at (drop k r) z (length r - k) (length-drop k r) in
    let inner : drop by (slice (padded n r) k (length r - k)) ≡ drop (k + by) r = ap (drop by) here ∙ drop-drop by k r in
    let gap : length r - k - length (drop (k + by) r) ≡ by = rw (length-drop) (omega arith) in
    let put : closed_up (padded n r) k by (length r - k) ≡ drop (k + by) r ++ replicate by 0 =
    ap (padded (length r - k)) inner ∙ ap (λ (j : ℕ). drop (k + by) r ++ replicate j 0) gap in
    let put-length : length (drop (k + by) r ++ replicate by 0) ≡ length r - k = rw (length-append, length-drop, length-replicate) (omega arith) in
    let end : k + (length r - k) ≡ length r = omega arith in
    let left : length (take k r ++ drop (k + by) r) ≡ length r - by =
    length-append (take k r) (drop (k + by) r) ∙ rw (length-drop, length-take-le k r (omega arith)) (omega arith) in
    rw (put, put-length, end, drop_at r z (length r) refl, take-append-le k r z (omega arith), left, more-zeros n (length r) by (omega arith) m) (simp append_assoc)

-- the same of a padded list that stands between two others
pub cut-within : (x z : List ℕ) (n : ℕ) (r : List ℕ) (k by len : ℕ) → k + by ≤ length r → length r ≤ n → len ≡ length r - k
    → splice (x ++ (padded n r ++ z)) (length x + k) (closed_up (x ++ (padded n r ++ z)) (length x + k) by len)
    ≡ x ++ (padded n (take k r ++ drop (k + by) r) ++ z)
cut-within x z n r k by len h m e =
    let full : length (padded n r) ≡ n = length-padded n r m in
    let size : length (closed_up (padded n r) k by len) ≡ len = closed-length (padded n r) k by len (omega arith) in
    rw (slice-within x (padded n r) z k len (omega arith), splice-within x (padded n r) z (closed_up (padded n r) k by len) k (omega arith), e, splice_cut n r k by h m) refl
