-- An item record: its bytes in the table, and when it is well-formed ("in form"). The wait queue is 01's line. RULES is docs/RULES.md.
use Rattle.std.specs.Prelude.{ℕ, ◌+◌, ◌≤◌, ◌<◌, ◌≡◌, Bool, not, ◌&&◌, List, [], ◌∷◌, eqb, leb, length, get_or, take, drop}
use Rattle.buffer.specs.Bytes.{slice, splice, padded}
use Rattle.lists.specs.Lists.{between, member, distinct, all_of}
use Rattle.message.specs.Limits.{max_sessions}
use Rattle.item.specs.declared.Item.{Item}

-- holder or 0 (1 byte), length of the queue (1), waiting sessions in order, then zeros (1 for each session)
abbrev pub waiting_place : ℕ
waiting_place = 1

abbrev pub queue_place : ℕ
queue_place = 2

abbrev pub size : ℕ
size = queue_place + max_sessions

-- what an item record says: who holds it, or 0, and who waits for it, in order
pub record Lock : Type 0 where
  pub holder : ℕ
  pub queue : List ℕ

abbrev pub lock : ℕ → List ℕ → Lock
lock h q = record { holder = h; queue = q }

-- the same with one part changed
abbrev pub with_holder : ℕ → Lock → Lock
with_holder h k = record { holder = h; queue = k.queue }

abbrev pub with_queue : List ℕ → Lock → Lock
with_queue q k = record { holder = k.holder; queue = q }

-- every item of a lock manager that was just started
abbrev pub free : Lock
free = lock 0 []

abbrev pub unpacked : Item → Lock
unpacked i = lock i.holder (take i.waiting i.queue)

abbrev pub packed : Lock → Item
packed k = record { holder = k.holder; waiting = length k.queue; queue = padded max_sessions k.queue }

-- the record whose bytes stand at `at`
abbrev pub item_at : List ℕ → ℕ → Item
item_at t at = record { holder = get_or t at 0; waiting = get_or t (at + waiting_place) 0; queue = slice t (at + queue_place) max_sessions }

abbrev pub item_bytes : Item → List ℕ
item_bytes i = i.holder ∷ i.waiting ∷ i.queue

-- t with the record written at `at`
abbrev pub put_item : List ℕ → ℕ → Item → List ℕ
put_item t at i = splice t at (item_bytes i)

-- an item record is well-formed: RULES 2.6
unfoldable pub well_formed : ℕ → Item → Bool
well_formed S i =
    leb i.holder S
    && leb i.waiting max_sessions
    && all_of (between 1 S) (unpacked i).queue
    && distinct (unpacked i).queue
    && not (member i.holder (unpacked i).queue)
    && all_of (λ b. eqb b 0) (drop i.waiting i.queue)

-- what the rules ask of a record: its queue fits, with zeros behind it, and room for one more where a session holds the item
pub record Packed (i : Item) : Type 0 where
  pub fits : i.waiting ≤ max_sessions
  pub room : (i.holder ≡ 0 → ⊥) → i.waiting < max_sessions
  pub zeros : i ≡ packed (unpacked i)

-- one more session may join the queue
pub record Joinable (i : Item) : Type 0 where
  pub packed : Packed i
  pub room : i.waiting < max_sessions
