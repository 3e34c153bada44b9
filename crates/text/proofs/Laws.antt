-- Laws of words and numbers as text, and of writing them piece by piece.
use mathlib.Core.Path.{◌≡◌, refl, sym, ap, ◌∙◌}
use mathlib.Core.Bool.{Bool, true, false}
use mathlib.Core.List.{List, [], ◌∷◌, ◌++◌, append_assoc, append-nil}
use Prim.Native.Nat.{ℕ, zero, suc, ◌+◌, ◌/◌, ◌%◌, ◌^◌, ◌≤◌, ◌<◌, zero-le}
use native.Mathlib.Nat.{add-zero, zero-add, pow-suc}
use native.Mathlib.Omega.{arith}
use borrow.Author.Tests.{ltb-true, ltb-false, lt-ltb, le-ltb}
use lib.Dec.{ltb}
use native.Mathlib.Numerals.{add-one}
use lib.ListN.{length, get_or, take, set, drop, length-append, take-append-drop}
use lib.Seq.{take-suc}
use Rattle.lists.proofs.Tests.{cond-agrees}
use Rattle.buffer.specs.Bytes.{splice}
use Rattle.buffer.proofs.Laws.{set-splice, length-splice, splice-splice}
use Rattle.text.specs.Text.{digit, space, line_feed, digits, decimal, spaced, rest, line}

-- a run of bytes written, then a second right behind it
pub splice_then : {x y : List ℕ} {r : ℕ} (t : List ℕ) (at : ℕ) (a b : List ℕ)
    → at + length a ≤ length t → x ≡ splice t at a → r ≡ at + length a → y ≡ splice x r b → y ≡ splice t at (a ++ b)
splice_then t at a b h e p f = f ∙ rw (e, p) (splice-splice t at a h b)

-- one byte more
pub set_then : {x : List ℕ} {r : ℕ} (t : List ℕ) (at : ℕ) (a : List ℕ) (b : ℕ)
    → at + length a < length t → x ≡ splice t at a → r ≡ at + length a → set x r b ≡ splice t at (a ++ (b ∷ []))
set_then {x} {r} t at a b h e p =
    let len = ap length e ∙ length-splice t at a (omega arith) in
    splice_then t at a (b ∷ []) (omega arith) e p (set-splice x r b (omega arith))

-- no bytes
pub splice-none : (t : List ℕ) (at : ℕ) → splice t at [] ≡ t
unfolding splice
splice-none t at = rw (add-zero at) (take-append-drop at t)

-- ---- piece by piece
abbrev pub total : List (List ℕ) → ℕ
total [] = 0
total (p ∷ l) = length p + total l

-- what is done stands at the start of t, which has become x; there is room for the other pieces
pub record Written (t x : List ℕ) (at : ℕ) (done : List ℕ) (pieces : List (List ℕ)) : Type 0 where
  pub bytes : x ≡ splice t 0 done
  pub behind : at ≡ length done
  pub same : length x ≡ length t
  pub room : length done + total pieces ≤ length t

pub none_written : (t : List ℕ) (pieces : List (List ℕ)) → total pieces ≤ length t → Written t t 0 [] pieces
none_written t pieces h = record { bytes = sym (splice-none t 0); behind = refl; same = refl; room = omega arith }

module _ {t x : List ℕ} {at : ℕ} {done piece : List ℕ} {rest : List (List ℕ)} (w : Written t x at done (piece ∷ rest)) where
  pub piece_fits : at + length piece ≤ length x
  piece_fits = omega (arith, w.behind, w.same, w.room)

  pub piece_written : {y : List ℕ} {r : ℕ} → y ≡ splice x at piece → r ≡ at + length piece → length y ≡ length x → Written t y r (done ++ piece) rest
  piece_written e p q = record {
    bytes = splice_then t 0 done piece (omega (arith, w.room)) w.bytes (rw (zero-add) w.behind) e;
    behind = omega (arith, length-append done piece, p, w.behind);
    same = q ∙ w.same;
    room = omega (arith, length-append done piece, w.room);
  }

-- ---- decimal numbers
-- room for more digits than there are changes nothing
digits-room : (k j n : ℕ) → n < k → n < j → digits k n ≡ digits j n
unfolding digits
digits-room zero j n h g = absurd (omega arith)
digits-room (suc k) zero n h g = absurd (omega arith)
digits-room (suc k) (suc j) n h g =
    cond-agrees (λ (l : List ℕ). l) (ltb n 10) (ltb n 10) refl (λ _. refl)
    (λ e. ap (λ (l : List ℕ). l ++ (digit (n % 10) ∷ [])) (digits-room k j (n / 10) (omega (arith, ltb-false n 10 e)) (omega (arith, ltb-false n 10 e))))

-- a number of one digit, and one of more
pub decimal_digit : (n : ℕ) → n < 10 → decimal n ≡ digit n ∷ []
unfolding decimal digits
decimal_digit n h = rw (lt-ltb n 10 h) refl

pub length_digit : (n : ℕ) → n < 10 → length (decimal n) ≡ 1
length_digit n h = ap length (decimal_digit n h)

pub decimal-more : (n : ℕ) → 10 ≤ n → decimal n ≡ decimal (n / 10) ++ (digit (n % 10) ∷ [])
unfolding decimal digits
decimal-more n h =
    rw (le-ltb n 10 h) (ap (λ (l : List ℕ). l ++ (digit (n % 10) ∷ [])) (digits-room n (suc (n / 10)) (n / 10) (omega arith) (omega arith)))

pub length_decimal_more : (n : ℕ) → 10 ≤ n → length (decimal n) ≡ length (decimal (n / 10)) + 1
length_decimal_more n h = ap length (decimal-more n h) ∙ length-append (decimal (n / 10)) (digit (n % 10) ∷ [])

-- a number below 10 to the power k, k at least 1, has at most k digits
length-by : (b : Bool) (n k : ℕ) → ltb n 10 ≡ b → (10 ≤ n → length (decimal (n / 10)) ≤ k) → length (decimal n) ≤ suc k
length-by true n k e h = rw (decimal_digit n (ltb-true n 10 e)) (omega arith)
length-by false n k e h = let more = ltb-false n 10 e in let l = h more in omega (arith, length_decimal_more n more)

pub length-decimal : (k n : ℕ) → n < 10 ^ suc k → length (decimal n) ≤ suc k
length-decimal zero n h = length-by (ltb n 10) n 0 refl (λ more. absurd (omega (arith, pow-suc 10 0)))
length-decimal (suc k) n h = length-by (ltb n 10) n (suc k) refl (λ more. length-decimal k (n / 10) (omega (arith, pow-suc 10 (suc k))))

-- any number that the code has
pub length_most : (n : ℕ) → n < 2 ^ 64 → length (decimal n) ≤ 20
length_most n h = length-decimal 19 n (omega (arith, h))

-- one number more
pub spaced-more : (l : List ℕ) (n : ℕ) → spaced (l ++ (n ∷ [])) ≡ spaced l ++ (space ∷ decimal n)
unfolding spaced
spaced-more [] n = ap (λ (k : List ℕ). space ∷ k) (append-nil (decimal n))
spaced-more (m ∷ l) n =
    ap (λ (k : List ℕ). space ∷ k)
    (ap (λ (k : List ℕ). decimal m ++ k) (spaced-more l n) ∙ sym (append_assoc (decimal m) (spaced l) (space ∷ decimal n)))

spaced-front : (k l : List ℕ) → length (spaced k) ≤ length (spaced (k ++ l))
unfolding spaced
spaced-front [] l = zero-le
spaced-front (n ∷ k) l =
    omega (arith, length-append (decimal n) (spaced k), length-append (decimal n) (spaced (k ++ l)), spaced-front k l)

spaced-take : (l : List ℕ) (i : ℕ) → length (spaced (take i l)) ≤ length (spaced l)
spaced-take l i = rw (take-append-drop i l) at (spaced-front (take i l) (drop i l))

-- the numbers up to a place
module _ (l : List ℕ) (i : ℕ) where
  pub spaced-step : i < length l → spaced (take (i + 1) l) ≡ spaced (take i l) ++ (space ∷ decimal (get_or l i 0))
  spaced-step h = rw (add-one, take-suc l i 0 h) (spaced-more (take i l) (get_or l i 0))

  length-step : i < length l → length (spaced (take (i + 1) l)) ≡ length (spaced (take i l)) + (1 + length (decimal (get_or l i 0)))
  length-step h = ap length (spaced-step h) ∙ length-append (spaced (take i l)) (space ∷ decimal (get_or l i 0)) ∙ omega arith

  pub spaced_room : i < length l → length (spaced (take i l)) + (1 + length (decimal (get_or l i 0))) ≤ length (spaced l)
  spaced_room h = omega (arith, length-step h, spaced-take l (i + 1))

  -- a space and the next number are written behind those before it
  pub spaced-put : {x y : List ℕ} {n r : ℕ} (t : List ℕ) (at : ℕ) → i < length l → at + length (spaced l) ≤ length t
      → x ≡ splice t at (spaced (take i l)) → n ≡ at + length (spaced (take i l)) → y ≡ splice (set x n space) (n + 1) (decimal (get_or l i 0))
      → r ≡ n + 1 + length (decimal (get_or l i 0)) → (y ≡ splice t at (spaced (take (i + 1) l))) × (r ≡ at + length (spaced (take (i + 1) l)))
  spaced-put {n = n} t at h room e p f q =
      let d = decimal (get_or l i 0) in
      let w = spaced (take i l) in
      let fits : at + length w + (1 + length d) ≤ length t = omega (arith, spaced_room h) in (
        splice_then t at (w ++ (space ∷ [])) d (rw (length-append w (space ∷ [])) (omega arith)) (set_then t at w space (omega arith) e p) (rw (length-append w (space ∷ [])) (omega arith)) f
            ∙ ap (splice t at) (append_assoc w (space ∷ []) d ∙ sym (spaced-step h)),
        omega (arith, length-step h),
      )

pub length_rest : (l : List ℕ) → length (rest l) ≡ length (spaced l) + 1
length_rest l = length-append (spaced l) (line_feed ∷ [])

pub spaced-none : length (spaced []) ≤ 0
unfolding spaced
spaced-none = zero-le

-- a number of at most suc k digits before others
pub spaced-longer : (k n : ℕ) (l : List ℕ) (m : ℕ) → n < 10 ^ suc k → length (spaced l) ≤ m → length (spaced (n ∷ l)) ≤ 2 + k + m
unfolding spaced
spaced-longer k n l m h f = omega (arith, length-append (decimal n) (spaced l), length-decimal k n h)

-- a line whose first number has at most suc k digits
pub line_short : (k n : ℕ) (l : List ℕ) (m : ℕ) → n < 10 ^ suc k → length (spaced l) ≤ m → length (line n l) ≤ 2 + k + m
line_short k n l m h f = omega (arith, length-append (decimal n) (rest l), length-decimal k n h, length_rest l)
