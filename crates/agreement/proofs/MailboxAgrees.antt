-- The entries of the mailbox are read as the machine's, and the earliest of a route is the one that the machine takes.
use mathlib.Core.Path.{◌≡◌, refl, ap}
use mathlib.Core.Bool.{Bool, true, false, cond, beq, and_assoc}
use mathlib.Core.Logic.{◌⊎◌, inl, inr}
use mathlib.Core.List.{List, [], ◌∷◌, ◌++◌, map}
use Prim.Native.Nat.{ℕ, suc}
use lib.Dec.{eqb, eqb-zero-suc, eqb-suc-suc}
use lib.ListN.{length, get_or}
use Rattle.lists.specs.Lists.{all_of, find_index, remove_at}
use Rattle.lists.proofs.Tests.{and_both, eqb-sym}
use Rattle.message.specs.declared.Message.{Message}
use Rattle.mailbox.specs.Entry as Entry
use Rattle.mailbox.specs.Entry.{Entry, to_item, to_session, unused, on_route, earliest, from_session, from_item}
use Rattle.deadlock.specs.Machine
use Rattle.agreement.specs.Reading.{read_message, read_sends, read_entry, read_entries, direction_of}
use Rattle.mailbox.proofs.EntryLaws.{entry-facts}

pub read_entries-append : (k l : List Entry) → read_entries (k ++ l) ≡ read_entries k ++ read_entries l
unfolding read_entries
read_entries-append [] l = refl
read_entries-append (e ∷ k) l = ap (λ (r : List Machine.Entry). read_entry e ∷ r) (read_entries-append k l)

pub length-read_entries : (l : List Entry) → length (read_entries l) ≡ length l
unfolding read_entries
length-read_entries [] = refl
length-read_entries (e ∷ l) = ap suc (length-read_entries l)

-- what a session sends, and what an item sends
pub from-session : (t : ℕ) (l : List Message) → read_entries (map (from_session t) l) ≡ Machine.from_session t (read_sends l)
unfolding read_entries read_sends Machine.from_session
from-session t [] = refl
from-session t (m ∷ l) = ap (λ (r : List Machine.Entry). read_entry (from_session t m) ∷ r) (from-session t l)

pub from-item : (x : ℕ) (l : List Message) → read_entries (map (from_item x) l) ≡ Machine.from_item x (read_sends l)
unfolding read_entries read_sends Machine.from_item
from-item x [] = refl
from-item x (m ∷ l) = ap (λ (r : List Machine.Entry). read_entry (from_item x m) ∷ r) (from-item x l)

-- an entry runs in one of the two directions
direction-agrees : (d : Bool) (e : Entry) → (e.direction ≡ to_item) ⊎ (e.direction ≡ to_session) → eqb e.direction (direction_of d) ≡ beq d (eqb e.direction to_item)
direction-agrees true e (inl q) = rw (q) refl
direction-agrees true e (inr q) = rw (q) refl
direction-agrees false e (inl q) = rw (q) refl
direction-agrees false e (inr q) = rw (q) refl

route-agrees : (d : Bool) (t x : ℕ) (e : Entry) → (e.direction ≡ to_item) ⊎ (e.direction ≡ to_session) → on_route (direction_of d) t x e ≡ Machine.is_on_route d t x (read_entry e)
unfolding Machine.is_on_route
route-agrees d t x e c =
    rw (direction-agrees d e c, eqb-sym t e.session, eqb-sym x e.item) (and_assoc (beq d (eqb e.direction to_item)) (eqb e.session t) (eqb e.item x))

-- what is taken at a place: nothing past the end
unfoldable pub taken_at : ℕ → List Entry → Machine.Taken
taken_at k l =
    cond (eqb k (length l)) Machine.no_entry
    (Machine.taken (read_message (get_or l k unused).kind (get_or l k unused).a (get_or l k unused).b) (read_entries (remove_at k l)))

module _ (S M : ℕ) where
  pub take-agrees : (d : Bool) (t x : ℕ) (l : List Entry) → all_of (Entry.well_formed S M) l ≡ true
      → Machine.take_first d t x (read_entries l) ≡ taken_at (earliest (direction_of d) t x l) l
  unfolding Machine.take_first Machine.put_back read_entries taken_at find_index remove_at all_of
  take-agrees d t x [] w = refl
  take-agrees d t x (e ∷ l) w =
      let h = and_both (Entry.well_formed S M e) (all_of (Entry.well_formed S M) l) w in
      let same = route-agrees d t x e (entry-facts S M e h.0).kinds.direction in
      rw (← same) (go (on_route (direction_of d) t x e) (find_index (on_route (direction_of d) t x) l) (take-agrees d t x l h.1))
    where
      again : (b : Bool) (m : Machine.Message) (r : List Machine.Entry)
          → Machine.put_back (read_entry e) (cond b Machine.no_entry (Machine.taken m r)) ≡ cond b Machine.no_entry (Machine.taken m (read_entry e ∷ r))
      again true m r = refl
      again false m r = refl

      go : (b : Bool) (k : ℕ) → Machine.take_first d t x (read_entries l) ≡ taken_at k l
          → cond b (Machine.taken (read_message e.kind e.a e.b) (read_entries l)) (Machine.put_back (read_entry e) (Machine.take_first d t x (read_entries l))) ≡ taken_at (cond b 0 (suc k)) (e ∷ l)
      go true k ih = rw (eqb-zero-suc (length l)) refl
      go false k ih = rw (ih, eqb-suc-suc k (length l)) (again (eqb k (length l)) _ _)
