-- Form is kept: the table in which a session begins anew is well-formed, with the same config.
use mathlib.Core.Path.{refl, ap}
use mathlib.Core.List.{List, []}
use Prim.Native.Nat.{ℕ, ◌≤◌}
use Rattle.lists.proofs.Laws.{all_none}
use Rattle.session.specs.Record.{fresh}
use Rattle.session.specs.Rules as Session
use Rattle.session.proofs.WellFormed.{fresh-formed}
use Rattle.table.specs.Layout as Table
use Rattle.wellformed.proofs.Sessions.{SessionKept}
use Rattle.step.specs.Step.{Formed}
use Rattle.step.proofs.Form.{session-planned}

-- the record begins anew, and nothing is sent
abbrev pub anew : Session.After
anew = Session.after fresh []

pub anew-kept : (S M t : ℕ) → SessionKept S M t anew
anew-kept S M t = record { session = fresh-formed S M; juniors = refl; sends = all_none _ }

pub reopened-formed : (t : ℕ) (table mail : List ℕ) → Formed table mail → 1 ≤ t → t ≤ Table.sessions_of table → Formed (Table.with_session table t fresh) mail
reopened-formed t table mail f low high =
    let p = session-planned table f.records.sized f.records.formed [] (all_none _) t low high anew (anew-kept (Table.sessions_of table) (Table.items_of table) t) in
    let sessions = ap (λ (c : Table.Config). c.sessions) p.config in
    let items = ap (λ (c : Table.Config). c.items) p.config in
    record { records = record { sized = p.sized; formed = p.formed }; mail-sized = f.mail-sized; mail-formed = rw (sessions, items) f.mail-formed }
