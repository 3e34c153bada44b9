-- The delivery of the entry at a place, the oldest or another that is the earliest of its route, on buffers that were judged.
use Rattle.std.specs.Prelude.{ℕ, ◌≡◌, cond, List, eqb}
use Rattle.mailbox.specs.Entry.{Entry, to_item, earliest}
use Rattle.mailbox.specs.Layout.{entry_at, entries_of}
use Rattle.table.specs.Layout.{senior}
use Rattle.step.specs.Step.{Stepped, deliver_to_item, deliver_to_session, acted}

-- the verb that delivers an entry
abbrev pub verb_of : Entry → ℕ
verb_of e = cond (eqb e.direction to_item) deliver_to_item deliver_to_session

-- the entry at place k is the earliest of its route
abbrev pub EarliestAt : ℕ → List ℕ → Type 0
EarliestAt k mail = let e = entry_at mail k in earliest e.direction e.session e.item (entries_of mail) ≡ k

-- the step on the route of the entry at place k
abbrev pub acted_at : ℕ → List ℕ → List ℕ → Stepped
acted_at k table mail = let e = entry_at mail k in acted (senior table) (verb_of e) e.session e.item table mail
