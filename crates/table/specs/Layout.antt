-- The bytes of the table: S, M, then the session records and the item records, each with its tail, then a rank for each session. RULES is docs/RULES.md.
use Rattle.std.specs.Prelude.{ℕ, ◌+◌, ◌-◌, ◌*◌, ◌≤◌, ◌≡◌, Bool, true, ◌&&◌, List, [], ◌∷◌, ◌++◌, eqb, length, get_or}
use Rattle.buffer.specs.Bytes.{slice}
use Rattle.lists.specs.Lists.{between, every, append_up_to}
use Rattle.message.specs.Limits.{max_sessions, max_items}
use Rattle.session.specs.declared.Session.{Session}
use Rattle.session.specs.Record as Session
use Rattle.session.specs.Seniority
use Rattle.item.specs.declared.Item.{Item}
use Rattle.item.specs.Record as Item

abbrev pub header : ℕ
header = 2

-- the tail of a record: bytes behind it that the rules do not own
abbrev pub session_tail : ℕ
session_tail = 0

abbrev pub item_tail : ℕ
item_tail = 0

-- from one record to the next
abbrev pub session_stride : ℕ
session_stride = Session.size + session_tail

abbrev pub item_stride : ℕ
item_stride = Item.size + item_tail

-- where the record of session t stands, t from 1
abbrev pub session_place : ℕ → ℕ
session_place t = header + session_stride * (t - 1)

-- where the item records begin, and that of item x, x from 1
abbrev pub items_start : ℕ → ℕ
items_start S = header + session_stride * S

abbrev pub item_place : ℕ → ℕ → ℕ
item_place S x = items_start S + item_stride * (x - 1)

-- what stands behind the items: the ranks, one byte each, and their end
abbrev pub ranks_place : ℕ → ℕ → ℕ
ranks_place S M = items_start S + item_stride * M

abbrev pub ranks_end : ℕ → ℕ → ℕ
ranks_end S M = ranks_place S M + S

abbrev pub size : ℕ → ℕ → ℕ
size S M = ranks_end S M

-- S and M
abbrev pub sessions_of : List ℕ → ℕ
sessions_of t = get_or t 0 0

abbrev pub items_of : List ℕ → ℕ
items_of t = get_or t 1 0

-- S and M are within bounds, and the length is that of S and M
unfoldable pub sized : List ℕ → Bool
sized t = between 1 max_sessions (sessions_of t) && between 1 max_items (items_of t) && eqb (length t) (size (sessions_of t) (items_of t))

-- the record of a session, and the table with it replaced
unfoldable pub session : List ℕ → ℕ → Session
session t k = Session.session_at t (session_place k)

unfoldable pub with_session : List ℕ → ℕ → Session → List ℕ
with_session t k s = Session.put_session t (session_place k) s

-- the record of an item, and the table with it replaced
unfoldable pub item : List ℕ → ℕ → Item
item t x = Item.item_at t (item_place (sessions_of t) x)

unfoldable pub with_item : List ℕ → ℕ → Item → List ℕ
with_item t x i = Item.put_item t (item_place (sessions_of t) x) i

-- the ranks of the sessions, from session 1 on, and who is senior by them
unfoldable pub ranks : List ℕ → List ℕ
ranks t = slice t (ranks_place (sessions_of t) (items_of t)) (sessions_of t)

abbrev pub senior : List ℕ → ℕ → ℕ → Bool
senior t = Seniority.senior (ranks t)

-- the table is well-formed when every record is and the ranks are: RULES 2.7
unfoldable pub well_formed : List ℕ → Bool
well_formed t =
    every (sessions_of t) (λ k. Session.well_formed (sessions_of t) (items_of t) (session t k))
    && every (items_of t) (λ x. Item.well_formed (sessions_of t) (item t x))
    && Seniority.well_formed (ranks t)

-- what the code that reads and replaces records asks of a table: session k is one of its sessions
pub record HasSession (t : List ℕ) (k : ℕ) : Type 0 where
  pub sized : sized t ≡ true
  pub low : 1 ≤ k
  pub high : k ≤ sessions_of t

-- item x is one of its items
pub record HasItem (t : List ℕ) (x : ℕ) : Type 0 where
  pub sized : sized t ≡ true
  pub low : 1 ≤ x
  pub high : x ≤ items_of t

-- what the code that follows the waits asks of a table
pub record Formed (t : List ℕ) : Type 0 where
  pub sized : sized t ≡ true
  pub formed : well_formed t ≡ true

-- ---- start
-- what start is given for the table: S, M, and a list with the rank of each session
pub record Config : Type 0 where
  pub sessions : ℕ
  pub items : ℕ
  pub ranks : List ℕ

abbrev pub config : ℕ → ℕ → List ℕ → Config
config S M ranks = record { sessions = S; items = M; ranks = ranks }

-- the config that stands in a table
abbrev pub config_of : List ℕ → Config
config_of t = config (sessions_of t) (items_of t) (ranks t)

-- S and M are within their bounds, and there is a rank for each session
pub record Bounded (c : Config) : Type 0 where
  pub some-sessions : 1 ≤ c.sessions
  pub max-sessions : c.sessions ≤ max_sessions
  pub some-items : 1 ≤ c.items
  pub max-items : c.items ≤ max_items
  pub ranks-whole : length c.ranks ≡ c.sessions

-- what start writes into the tails of session k and of item x
abbrev pub session_tail_of : Config → ℕ → List ℕ
session_tail_of c k = []

abbrev pub item_tail_of : Config → ℕ → List ℕ
item_tail_of c x = []

-- what start writes for session k and for item x, and in all: RULES 4.3
abbrev pub started_session : Config → ℕ → List ℕ
started_session c k = Session.session_bytes Session.fresh ++ session_tail_of c k

abbrev pub started_item : Config → ℕ → List ℕ
started_item c x = Item.item_bytes (Item.packed Item.free) ++ item_tail_of c x

unfoldable pub started : Config → List ℕ
started c =
    c.sessions ∷ c.items ∷ (append_up_to c.sessions (started_session c) ++ (append_up_to c.items (started_item c) ++ c.ranks))
