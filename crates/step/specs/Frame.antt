-- What a step touches: the record of its party, and entries of routes to and from that party. For the laws in proofs/Frame.antt; no part of the promise.
use Rattle.std.specs.Prelude.{ℕ, ◌≤◌, ◌≡◌, Bool, false, cond, List, map, ◌≢◌, eqb, get_or}
use Rattle.mailbox.specs.Entry.{Entry, unused, to_item, to_session, on_route, from_session, from_item}
use Rattle.table.specs.Layout as Table
use Rattle.waits.specs.OnTable.{locks}
use Rattle.step.specs.Step.{deliver_to_item, deliver_to_session, delivered, item_receives, session_acts}

-- the parties of the messages
pub data Party : Type 0 where
  session item : ℕ → Party

-- who acts: an item in a delivery to it, a session in every other step
unfoldable pub actor : ℕ → ℕ → ℕ → Party
actor verb t x = cond (eqb verb deliver_to_item) (item x) (session t)

-- who sends on a route, who sends an entry, and to whom
abbrev pub route_sender : ℕ → ℕ → ℕ → Party
route_sender direction t x = cond (eqb direction to_item) (session t) (item x)

abbrev pub sender : Entry → Party
sender e = route_sender e.direction e.session e.item

abbrev pub receiver : Entry → Party
receiver e = cond (eqb e.direction to_item) (item e.item) (session e.session)

-- the entries of the route that a step delivers from; a request and a release deliver from none
unfoldable pub takes : ℕ → ℕ → ℕ → Entry → Bool
takes verb t x e =
    cond (eqb verb deliver_to_item) (on_route to_item t x e)
    (cond (eqb verb deliver_to_session) (on_route to_session t x e) false)

-- what it sends, by a seniority
unfoldable pub sent_by : (ℕ → ℕ → Bool) → ℕ → ℕ → ℕ → List ℕ → List Entry → List Entry
sent_by senior verb t x table entries =
    let e = get_or entries (delivered verb t x entries) unused in
    cond (eqb verb deliver_to_item)
    (map (from_item x) (item_receives senior (locks table x) e).sends)
    (map (from_session t) (session_acts senior verb t x (Table.session table t) e).sends)

-- every record but that of one party stands as before, and so does what start was given
pub record Touches (p : Party) (table after : List ℕ) : Type 0 where
  pub config : Table.config_of after ≡ Table.config_of table
  pub sessions : (t : ℕ) → 1 ≤ t → t ≤ Table.sessions_of table → session t ≢ p → Table.session after t ≡ Table.session table t
  pub items : (x : ℕ) → 1 ≤ x → x ≤ Table.items_of table → item x ≢ p → Table.item after x ≡ Table.item table x
