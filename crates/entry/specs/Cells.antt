-- The tests of entries as the code makes them: byte by byte, in blocks of sixteen entries. No part of the promise.
use Rattle.std.specs.Prelude.{ℕ, zero, suc, ◌+◌, ◌*◌, Bool, not, ◌&&◌, ◌||◌, List, [], ◌∷◌, eqb, leb, get_or}
use Rattle.std.specs.Bool.{beq}
use Rattle.message.specs.Kind
use Rattle.entry.specs.Entry.{to_item, to_session, width}

-- a block of entries, and its bytes in either array
abbrev pub block_entries : ℕ
block_entries = 16

abbrev pub block_cells : ℕ
block_cells = width * block_entries

-- a number is zero where the kind carries none, and only there
abbrev pub fits : Bool → ℕ → Bool
fits carries v = not (beq (eqb v 0) carries)

-- direction, session and body agree, for a kind of at most 10
unfoldable pub agree : ℕ → ℕ → ℕ → ℕ → ℕ → Bool
agree d t k a b =
    (eqb d to_item && leb Kind.request k && leb k Kind.withdraw || eqb d to_session && (eqb k Kind.probe || eqb k Kind.clean || leb Kind.grant k))
    && fits (Kind.carries k) a
    && fits (Kind.carries k) b
    && (not (eqb k Kind.abort) || eqb a t)

-- the byte of a route at one place and the byte of a body at another: both are within their bounds, and the entry that starts there agrees, unless it is skipped
abbrev pub cell : List ℕ → ℕ → ℕ → ℕ → ℕ → ℕ → Bool
cell m at to top high skip =
    leb 1 (get_or m at 0)
    && leb (get_or m at 0) top
    && leb (get_or m to 0) high
    && (eqb skip 1 || agree (get_or m at 0) (get_or m (at + 1) 0) (get_or m to 0) (get_or m (to + 1) 0) (get_or m (to + 2) 0))

-- cell i of a block whose routes and bodies start at two places
abbrev pub cell_at : List ℕ → List ℕ → List ℕ → List ℕ → ℕ → ℕ → ℕ → Bool
cell_at m tops highs skips at to i = cell m (at + i) (to + i) (get_or tops i 0) (get_or highs i 0) (get_or skips i 0)

-- three numbers, n times
unfoldable pub thrice : ℕ → ℕ → ℕ → ℕ → List ℕ
thrice zero a b c = []
thrice (suc n) a b c = a ∷ b ∷ c ∷ thrice n a b c

-- the route at a place differs from another: in its item, from depth 2 on in its session too, at depth 3 in its direction too
unfoldable pub differs : List ℕ → ℕ → ℕ → ℕ → ℕ → ℕ → Bool
differs m depth d t x at =
    not (eqb (get_or m (at + 2) 0) x)
    || leb 2 depth && not (eqb (get_or m (at + 1) 0) t)
    || leb 3 depth && not (eqb (get_or m at 0) d)

-- the three bytes at a place are not the route
abbrev pub misses : List ℕ → ℕ → ℕ → ℕ → ℕ → Bool
misses m d t x at = differs m 3 d t x at

-- a byte is skipped, or the route that starts there differs
abbrev pub differ_cell : List ℕ → List ℕ → ℕ → ℕ → ℕ → ℕ → ℕ → ℕ → Bool
differ_cell m skips depth d t x at i = eqb (get_or skips i 0) 1 || differs m depth d t x (at + i)
