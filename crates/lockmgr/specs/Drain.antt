-- Drain (02: empty the tray): the oldest entry is delivered, again and again. RULES is docs/RULES.md.
use Rattle.std.specs.Prelude.{ℕ, zero, suc, cond, List, [], ◌∷◌, eqb, length}
use Rattle.mailbox.specs.Entry.{Entry}
use Rattle.mailbox.specs.Layout as Mail
use Rattle.refusal.specs.Refusal
use Rattle.refusal.specs.Refusal.{first}
use Rattle.drain.specs.Oldest.{verb_of}
use Rattle.lockmgr.specs.declared.Drained.{Drained}
use Rattle.lockmgr.specs.Calls.{buffer_causes}
use Rattle.lockmgr.specs.Run.{Step, Buffers, buffers, done_on, left_by, left}

-- the step that delivers an entry, the earliest of its route
abbrev pub delivery : Entry → Step
delivery e = record { verb = verb_of e; session = e.session; item = e.item }

-- the delivery of the oldest entry
abbrev pub oldest : Buffers → Step
oldest b = delivery (Mail.entry_at b.mail 0)

-- the endings
abbrev pub empty : ℕ
empty = 1

abbrev pub full : ℕ
full = 2

abbrev pub limited : ℕ
limited = 3

-- why a drain that stops here ends: no mail is left; else the next delivery would be refused with 9; else the limit is reached: RULES 4.9
unfoldable pub ending : Buffers → ℕ
ending b =
    cond (eqb (Mail.count_of b.mail) 0) empty
    (cond (eqb (done_on b (oldest b)).result.answer.refusal Refusal.mail_full) full limited)

-- the deliveries of a drain that is allowed so many, in their order
unfoldable pub deliveries : ℕ → Buffers → List Step
deliveries zero b = []
deliveries (suc n) b = cond (eqb (ending b) limited) (oldest b ∷ deliveries n (left_by (done_on b (oldest b)))) []

-- before any of them the buffers are judged
abbrev pub drain_refusal : Buffers → ℕ
drain_refusal b = first (buffer_causes b.table b.mail)

-- a refused drain makes none
unfoldable pub drain_steps : ℕ → Buffers → List Step
drain_steps limit b = cond (eqb (drain_refusal b) 0) (deliveries limit b) []

-- what a drain answers, and both buffers after
abbrev pub drain_answer : ℕ → ℕ → ℕ → Drained
drain_answer refusal made ending = record { refusal = refusal; made = made; ending = ending }

pub record DrainResult : Type 0 where
  pub answer : Drained
  pub table : List ℕ
  pub mail : List ℕ

abbrev pub drain_result : Drained → List ℕ → List ℕ → DrainResult
drain_result a table mail = record { answer = a; table = table; mail = mail }

unfoldable pub drain : ℕ → List ℕ → List ℕ → DrainResult
drain limit table mail =
    let b = buffers table mail in
    let l = drain_steps limit b in
    let end = left b l in
    drain_result (drain_answer (drain_refusal b) (length l) (cond (eqb (drain_refusal b) 0) (ending end) 0)) end.table end.mail
