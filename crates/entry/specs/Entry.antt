-- An entry of the mailbox (01: mail): its route and its body. RULES is docs/RULES.md.
use Rattle.std.specs.Prelude.{ℕ, ◌+◌, Bool, cond, not, ◌&&◌, ◌||◌, List, eqb, get_or}
use Rattle.lists.specs.Lists.{between, find_index}
use Rattle.message.specs.Kind
use Rattle.message.specs.declared.Message.{Message}
use Rattle.message.specs.Outbox.{message}

-- route (direction, session, item) and body (kind, a, b)
pub record Entry : Type 0 where
  pub direction : ℕ
  pub session : ℕ
  pub item : ℕ
  pub kind : ℕ
  pub a : ℕ
  pub b : ℕ

-- the bytes of a route, and those of a body
abbrev pub width : ℕ
width = 3

-- the directions: session to item, item to session
abbrev pub to_item : ℕ
to_item = 1

abbrev pub to_session : ℕ
to_session = 2

-- an unused entry
abbrev pub unused : Entry
unused = record { direction = 0; session = 0; item = 0; kind = 0; a = 0; b = 0 }

-- the entry whose route stands at one place and whose body stands at another
abbrev pub entry_from : List ℕ → ℕ → ℕ → Entry
entry_from m at to =
    record {
      direction = get_or m at 0;
      session = get_or m (at + 1) 0;
      item = get_or m (at + 2) 0;
      kind = get_or m to 0;
      a = get_or m (to + 1) 0;
      b = get_or m (to + 2) 0;
    }

-- which direction carries which kind: RULES 3.3
abbrev pub carried : ℕ → ℕ → Bool
carried direction kind =
    eqb direction to_item && between Kind.request Kind.withdraw kind
    || eqb direction to_session && (eqb kind Kind.probe || eqb kind Kind.clean || between Kind.grant Kind.withdrawn kind)

-- an entry is well-formed: RULES 3.4
unfoldable pub well_formed : ℕ → ℕ → Entry → Bool
well_formed S M e =
    carried e.direction e.kind
    && between 1 S e.session
    && between 1 M e.item
    && cond (Kind.carries e.kind) (between 1 S e.a && between 1 S e.b) (eqb e.a 0 && eqb e.b 0)
    && (not (eqb e.kind Kind.abort) || eqb e.a e.session)

abbrev pub on_route : ℕ → ℕ → ℕ → Entry → Bool
on_route direction t x e = eqb e.direction direction && eqb e.session t && eqb e.item x

-- the place of the earliest entry of a route, or the number of entries
abbrev pub earliest : ℕ → ℕ → ℕ → List Entry → ℕ
earliest direction t x l = find_index (on_route direction t x) l

-- a message that a session (direction 1) or an item (direction 2) sends
abbrev pub sent : ℕ → ℕ → Message → Entry
sent direction party m =
    record {
      direction = direction;
      session = cond (eqb direction to_item) party m.peer;
      item = cond (eqb direction to_item) m.peer party;
      kind = m.kind;
      a = m.a;
      b = m.b;
    }

-- a message that session t sends, and one that item x sends
abbrev pub from_session : ℕ → Message → Entry
from_session t m = sent to_item t m

abbrev pub from_item : ℕ → Message → Entry
from_item x m = sent to_session x m

-- an entry as the item or the session that receives it sees it
abbrev pub seen_by_item : Entry → Message
seen_by_item e = message e.session e.kind e.a e.b

abbrev pub seen_by_session : Entry → Message
seen_by_session e = message e.item e.kind e.a e.b
