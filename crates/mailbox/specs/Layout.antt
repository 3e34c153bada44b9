-- The bytes of the mailbox: C (2), count (2), then two parallel arrays of C entries, routes and bodies, three bytes each. RULES is docs/RULES.md.
-- Entries stand in order of sending; unused ones are zero.
use Rattle.std.specs.Prelude.{ℕ, ◌+◌, ◌-◌, ◌*◌, ◌≤◌, ◌<◌, ◌≡◌, Bool, ◌&&◌, List, [], ◌∷◌, ◌++◌, eqb, leb, length}
use Rattle.buffer.specs.Bytes.{slice, from_bytes, to_bytes, padded}
use Rattle.lists.specs.Lists.{between, all_of, tabulate}
use Rattle.message.specs.declared.Message.{Message}
use Rattle.entry.specs.Entry as Entry
use Rattle.entry.specs.Entry.{Entry, width, entry_from}
use Rattle.entry.specs.declared.Route.{Route}

abbrev pub max_capacity : ℕ
max_capacity = 4096

-- C and the count
abbrev pub header : ℕ
header = 4

abbrev pub count_place : ℕ
count_place = 2

abbrev pub size : ℕ → ℕ
size C = header + 2 * width * C

-- where the route and the body of entry k stand, k from 0
abbrev pub route_place : ℕ → ℕ
route_place k = header + width * k

abbrev pub body_place : ℕ → ℕ → ℕ
body_place C k = route_place C + width * k

abbrev pub capacity_of : List ℕ → ℕ
capacity_of m = from_bytes (slice m 0 2)

abbrev pub count_of : List ℕ → ℕ
count_of m = from_bytes (slice m count_place 2)

-- C is 1 to 4,096, and the length is that of C
unfoldable pub sized : List ℕ → Bool
sized m = between 1 max_capacity (capacity_of m) && eqb (length m) (size (capacity_of m))

unfoldable pub entry_at : List ℕ → ℕ → Entry
entry_at m k = entry_from m (route_place k) (body_place (capacity_of m) k)

-- the entries in order of sending
unfoldable pub entries_of : List ℕ → List Entry
entries_of m = tabulate (count_of m) (entry_at m)

-- the route of an entry
abbrev pub route_of : Entry → Route
route_of e = record { direction = e.direction; session = e.session; item = e.item }

-- the mailbox is well-formed: RULES 3.5
unfoldable pub well_formed : ℕ → ℕ → List ℕ → Bool
well_formed S M m =
    leb (count_of m) (capacity_of m)
    && all_of (Entry.well_formed S M) (entries_of m)
    && all_of (λ b. eqb b 0) (slice m (route_place (count_of m)) (width * (capacity_of m - count_of m)))
    && all_of (λ b. eqb b 0) (slice m (body_place (capacity_of m) (count_of m)) (width * (capacity_of m - count_of m)))

unfoldable pub routes : List Entry → List ℕ
routes [] = []
routes (e ∷ l) = e.direction ∷ e.session ∷ e.item ∷ routes l

unfoldable pub bodies : List Entry → List ℕ
bodies [] = []
bodies (e ∷ l) = e.kind ∷ e.a ∷ e.b ∷ bodies l

-- the bytes of a mailbox of capacity C that holds the entries
unfoldable pub mail_bytes : ℕ → List Entry → List ℕ
mail_bytes C l = to_bytes 2 C ++ (to_bytes 2 (length l) ++ (padded (width * C) (routes l) ++ padded (width * C) (bodies l)))

-- what the code that takes and adds entries asks of a mailbox: its bytes are those of its entries. A well-formed mailbox is so
pub record Kept (m : List ℕ) : Type 0 where
  pub low : 1 ≤ capacity_of m
  pub high : capacity_of m ≤ max_capacity
  pub fits : count_of m ≤ capacity_of m
  pub bytes : m ≡ mail_bytes (capacity_of m) (entries_of m)

-- entry k stands in the mailbox, k from 0
pub record Stands (m : List ℕ) (k : ℕ) : Type 0 where
  pub kept : Kept m
  pub inside : k < count_of m

-- the mailbox takes every message of a list
pub record Room (m : List ℕ) (out : List Message) : Type 0 where
  pub kept : Kept m
  pub fits : count_of m + length out ≤ capacity_of m
