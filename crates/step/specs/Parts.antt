-- What the parts of the code ask of each other and leave. No part of the promise.
use Rattle.std.specs.Prelude.{ℕ, ◌+◌, ◌≤◌, ◌<◌, ◌≡◌, true, false, cond, List, ◌++◌, map, ltb, length, Option, Some, None, IfSome, is_some, Result, MatchResult}
use Rattle.lists.specs.Lists.{remove_at}
use Rattle.message.specs.declared.Message.{Message}
use Rattle.session.specs.Rules as Session
use Rattle.item.specs.Record.{Packed}
use Rattle.mailbox.specs.Entry.{Entry, seen_by_session}
use Rattle.mailbox.specs.Layout as Mail
use Rattle.table.specs.Layout as Table
use Rattle.refusal.specs.declared.Refusal.{Refusal}
use Rattle.refusal.specs.Number.{number}
use Rattle.refusal.specs.Refusal as Refusal
use Rattle.step.specs.Step.{Plan, Stepped, Formed, request, release, delivered, stage_forbids, mask_forbids, nothing_to_deliver, overfull, stepped, refused_answer, committed}

-- a step was judged: both buffers are well-formed, and its session and item are there
pub record Judged (t x : ℕ) (table mail : List ℕ) : Type 0 where
  pub formed : Formed table mail
  pub session-low : 1 ≤ t
  pub session-high : t ≤ Table.sessions_of table
  pub item-low : 1 ≤ x
  pub item-high : x ≤ Table.items_of table

-- no cause of its own but room hinders a step
pub record Unhindered (verb t x : ℕ) (table : List ℕ) (entries : List Entry) : Type 0 where
  pub stage : stage_forbids verb (Table.session table t).stage ≡ false
  pub mask : mask_forbids verb x (Table.session table t).held ≡ false
  pub route : nothing_to_deliver verb (delivered verb t x entries) entries ≡ false

-- the place of an entry, past the end where there is none
abbrev pub place_of : Option ℕ → List Entry → ℕ
place_of (Some k) l = k
place_of None l = length l

-- the entries without that one
abbrev pub without : Option ℕ → List Entry → List Entry
without o l = remove_at (place_of o l) l

-- o is the place of the entry that a step delivers
pub record Found (verb t x : ℕ) (o : Option ℕ) (mail : List ℕ) : Type 0 where
  pub place : place_of o (Mail.entries_of mail) ≡ delivered verb t x (Mail.entries_of mail)
  pub inside : IfSome o (λ k. k < Mail.count_of mail)

-- a step was judged, o is the place of what it delivers, and a delivery finds an entry there
pub record Acting (verb t x : ℕ) (o : Option ℕ) (table mail : List ℕ) : Type 0 where
  pub judged : Judged t x table mail
  pub found : Found verb t x o mail
  pub some : (verb ≡ request → ⊥) → (verb ≡ release → ⊥) → is_some o ≡ true

-- entry k of the mail is there for item x, whose record is well-formed, and for session t
pub record ForItem (x k : ℕ) (table mail : List ℕ) : Type 0 where
  pub item : Table.HasItem table x
  pub packed : Packed (Table.item table x)
  pub entry : Mail.Stands mail k

pub record ForSession (t k : ℕ) (table mail : List ℕ) : Type 0 where
  pub session : Table.HasSession table t
  pub deliverable : Session.Deliverable (seen_by_session (Mail.entry_at mail k))
  pub entry : Mail.Stands mail k

-- what is answered where more entries are to fit into the mail, and the mail after
pub record Fitting : Type 0 where
  pub refusal : ℕ
  pub mail : List ℕ

abbrev pub fitting : ℕ → List ℕ → Fitting
fitting refusal mail = record { refusal = refusal; mail = mail }

-- the mail with these entries alone, if n more fit beside them; else 9, and the mail as it was
abbrev pub room_made : List ℕ → List Entry → ℕ → Fitting
room_made mail entries n =
    cond (ltb (Mail.capacity_of mail) (length entries + n)) (fitting Refusal.mail_full mail) (fitting 0 (Mail.mail_bytes (Mail.capacity_of mail) entries))

-- messages were added behind these entries, if there is room for all of them: how many; else 9, and the mail as it was
abbrev pub Added : (Message → Entry) → List Message → List ℕ → List Entry → Result ℕ Refusal → List ℕ → Type 0
Added f l mail entries d mail' =
    MatchResult d
    (λ n. (overfull (Mail.capacity_of mail) (entries ++ map f l) ≡ false) × (n ≡ length l) × (mail' ≡ Mail.mail_bytes (Mail.capacity_of mail) (entries ++ map f l)))
    (λ e. (overfull (Mail.capacity_of mail) (entries ++ map f l) ≡ true) × (number e ≡ Refusal.mail_full) × (mail' ≡ mail))

-- the tail of every step: 9 where there is no room for the entries after it, else what is planned
abbrev pub concluded : ℕ → List ℕ → List ℕ → Plan → Stepped
concluded t table mail p =
    cond (overfull (Mail.capacity_of mail) p.entries) (stepped (refused_answer Refusal.mail_full) table mail) (committed t (Mail.capacity_of mail) p)
