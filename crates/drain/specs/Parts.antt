-- What the parts of the code ask of each other and leave. No part of the promise.
-- The entries that a drain has delivered, spent ones, stand in a gap of the mailbox until they go out all at once: before it stand entries that are kept, behind it those that are pending.
use Rattle.std.specs.Prelude.{ℕ, ◌+◌, ◌≤◌, ◌<◌, ◌≡◌, Bool, true, false, cond, ◌&&◌, List, ◌++◌, map, leb, length, Option, Some, None, Result, Ok, Err, IfOk, is_some}
use Rattle.lists.specs.Lists.{without_places}
use Rattle.message.specs.declared.Message.{Message}
use Rattle.mailbox.specs.Entry.{Entry}
use Rattle.mailbox.specs.Layout.{capacity_of, count_of, entries_of, mail_bytes, Kept}
use Rattle.refusal.specs.declared.Refusal.{Refusal}
use Rattle.refusal.specs.Number as Number
use Rattle.refusal.specs.Refusal.{mail_full}
use Rattle.step.specs.Step.{Stepped, Formed}
use Rattle.drain.specs.declared.Gap.{Gap}
use Rattle.drain.specs.Oldest.{EarliestAt}

-- the entries in use, all but the spent ones
abbrev pub in_use : Gap → List ℕ → List Entry
in_use g mail = without_places g.from g.to (entries_of mail)

-- the mailbox with the gap closed, which holds these alone
abbrev pub closed_up : Gap → List ℕ → List ℕ
closed_up g mail = mail_bytes (capacity_of mail) (in_use g mail)

-- the mailbox is the bytes of its entries, and the gap lies among them
pub record GapIn (g : Gap) (mail : List ℕ) : Type 0 where
  pub kept : Kept mail
  pub order : g.from ≤ g.to
  pub inside : g.to ≤ count_of mail

-- and the entry behind it is there to deliver
pub record Due (g : Gap) (table mail : List ℕ) : Type 0 where
  pub spent : GapIn g mail
  pub some : g.to < count_of mail
  pub formed : Formed table (closed_up g mail)
  pub earliest : EarliestAt g.from (closed_up g mail)

-- the gap once that entry is spent too
abbrev pub longer : Gap → Gap
longer g = record { from = g.from; to = g.to + 1 }

-- gap g was there before and h is after; the entries in use are the same, and n places are free behind them
pub record Placed (g : Gap) (n : ℕ) (h : Gap) (before after : List ℕ) : Type 0 where
  pub spent : GapIn h after
  pub front : h.from ≡ g.from
  pub capacity : capacity_of after ≡ capacity_of before
  pub entries : in_use h after ≡ in_use g before
  pub free : count_of after + n ≤ capacity_of after

-- n entries more have room beside those in use: the test of `overfull`, by numbers
abbrev pub fits : Gap → ℕ → List ℕ → Bool
fits g n mail = leb (length (in_use g mail) + n) (capacity_of mail)

-- 9 where they have none, else 0
abbrev pub refusal_of : Bool → ℕ
refusal_of fit = cond fit 0 mail_full

-- a delivery is made, only judged, or refused
abbrev pub is_made : Result (Option Gap) Refusal → Bool
is_made (Ok (Some h)) = true
is_made (Ok None) = false
is_made (Err e) = false

-- the gap after it
abbrev pub gap_after : Gap → Result (Option Gap) Refusal → Gap
gap_after g (Ok (Some h)) = h
gap_after g (Ok None) = g
gap_after g (Err e) = g

-- the delivery of the entry behind gap g, which sends messages, is made if they have room and it is allowed: then they stand behind the entries in use
pub record Sent (g : Gap) (allowed : Bool) (f : Message → Entry) (l : List Message) (d : Result (Option Gap) Refusal) (before after : List ℕ) : Type 0 where
  pub refusal : Number.outcome d ≡ refusal_of (fits (longer g) (length l) before)
  pub made : is_made d ≡ fits (longer g) (length l) before && allowed
  pub stays : is_made d ≡ false → (after ≡ before) × (gap_after g d ≡ g)
  pub spent : is_made d ≡ true → GapIn (gap_after g d) after × ((gap_after g d).from ≡ g.from)
  pub added : is_made d ≡ true → closed_up (gap_after g d) after ≡ mail_bytes (capacity_of before) (in_use (longer g) before ++ map f l)

-- what a delivery is refused with, or 0, and what it leaves, without the spent entries
pub record Outcome : Type 0 where
  pub refusal : ℕ
  pub table : List ℕ
  pub mail : List ℕ

abbrev pub outcome : ℕ → List ℕ → List ℕ → Outcome
outcome n table mail = record { refusal = n; table = table; mail = mail }

-- a delivery that is allowed, or only judged
abbrev pub outcome_of : Bool → List ℕ → List ℕ → Stepped → Outcome
outcome_of allowed table mail r = outcome r.answer.refusal (cond allowed r.table table) (cond allowed r.mail mail)

-- a delivery leaves a gap that begins where it did, and without it what step r leaves or, where it is only judged, what was there; one that is not refused is made where it is allowed
abbrev pub Delivers : Gap → Bool → List ℕ → List ℕ → Stepped → Result (Option Gap) Refusal → List ℕ → List ℕ → Type 0
Delivers g allowed table mail r d table' mail' =
    GapIn (gap_after g d) mail' × ((gap_after g d).from ≡ g.from)
    × (outcome (Number.outcome d) table' (closed_up (gap_after g d) mail') ≡ outcome_of allowed table (closed_up g mail) r)
    × IfOk d (λ h. is_some h ≡ allowed)
