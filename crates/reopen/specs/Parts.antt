-- What the code that searches the mail for a session asks of it. No part of the promise.
use Rattle.std.specs.Prelude.{ℕ, ◌≤◌, ◌<◌, ◌≡◌, false, List}
use Rattle.message.specs.Kind
use Rattle.mailbox.specs.Entry.{Entry}
use Rattle.mailbox.specs.Layout.{Kept, count_of, entry_at}

-- a kind that carries no sessions has zeros in their place
abbrev pub Plain : Entry → Type 0
Plain e = Kind.carries e.kind ≡ false → (e.a ≡ 0) × (e.b ≡ 0)

-- the mailbox is that of its entries, every entry is so, and t is not 0
pub record Searchable (t : ℕ) (mail : List ℕ) : Type 0 where
  pub low : 1 ≤ t
  pub kept : Kept mail
  pub plain : (k : ℕ) → k < count_of mail → Plain (entry_at mail k)
