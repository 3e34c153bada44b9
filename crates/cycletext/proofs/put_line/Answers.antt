-- `put_line` meets its contract: each piece is written right behind those before it.
use mathlib.Core.List.{List, [], ◌∷◌, ◌++◌}
use Prim.Native.Nat.{ℕ}
use native.Mathlib.Omega.{arith}
use lib.ListN.{take, drop}
use Rattle.text.specs.Text.{ascii, decimal, line_feed}
use Rattle.text.proofs.Laws.{Written, none_written, piece_written}
use Rattle.cycletext.specs.Text.{line}
use Rattle.cycletext.proofs.Laws.{length_line}
use Rattle.cycletext.proofs.put_line.Goals as goal

-- the pieces of a line
abbrev pieces : ℕ → ℕ → ℕ → List (List ℕ)
pieces t x h = ascii "session " ∷ decimal t ∷ ascii " waits for item " ∷ decimal x ∷ ascii " held by session " ∷ decimal h ∷ (line_feed ∷ []) ∷ []

abbrev joined : List ℕ → List (List ℕ) → List ℕ
joined l [] = l
joined l (p ∷ k) = joined (l ++ p) k

pub returns : goal.returns
unfolding line ascii
returns c =
    let Wrote : ℕ → List ℕ → ℕ → Type 0 = λ k x at. let l = pieces c.from.result c.from-2.result c.from-3.result in Written c.args.out.now x at (joined [] (take k l)) (drop k l) in
    let wrote-0 : Wrote 0 c.args.out.now 0 = none_written c.args.out.now (pieces c.from.result c.from-2.result c.from-3.result) (rw (c.from.ensures, c.from-2.ensures, c.from-3.ensures) (omega (arith, length_line c.args.w, c.requires))) in
    let wrote-1 : Wrote 1 c.put_bytes-at.new.t c.put_bytes-at.result = let p = c.put_bytes-at in piece_written (wrote-0) p.ensures.0 p.ensures.1 p.auto.t in
    let wrote-2 : Wrote 2 c.put_decimal-at.new.out c.put_decimal-at.result = let p = c.put_decimal-at in piece_written (wrote-1) p.ensures.0 p.ensures.1 p.auto.out in
    let wrote-3 : Wrote 3 c.put_bytes-at-2.new.t c.put_bytes-at-2.result = let p = c.put_bytes-at-2 in piece_written (wrote-2) p.ensures.0 p.ensures.1 p.auto.t in
    let wrote-4 : Wrote 4 c.put_decimal-at-2.new.out c.put_decimal-at-2.result = let p = c.put_decimal-at-2 in piece_written (wrote-3) p.ensures.0 p.ensures.1 p.auto.out in
    let wrote-5 : Wrote 5 c.put_bytes-at-3.new.t c.put_bytes-at-3.result = let p = c.put_bytes-at-3 in piece_written (wrote-4) p.ensures.0 p.ensures.1 p.auto.t in
    let wrote-6 : Wrote 6 c.put_decimal-at-3.new.out c.put_decimal-at-3.result = let p = c.put_decimal-at-3 in piece_written (wrote-5) p.ensures.0 p.ensures.1 p.auto.out in
    let wrote-7 : Wrote 7 c.put_bytes.new.t c.put_bytes.result = let p = c.put_bytes in piece_written (wrote-6) p.ensures.0 p.ensures.1 p.auto.t in
    rw (← c.from.ensures, ← c.from-2.ensures, ← c.from-3.ensures) (wrote-7.bytes, wrote-7.behind)
