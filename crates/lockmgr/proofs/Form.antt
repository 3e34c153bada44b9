-- Form is kept: a step on well-formed buffers, reached or forged, leaves well-formed buffers with the same config and capacity, and a reopening a well-formed table.
use mathlib.Core.Path.{◌≡◌, refl}
use mathlib.Core.List.{List}
use Prim.Native.Nat.{ℕ}
use lib.Dec.{eqb}
use borrow.Author.Tests.{eqb-true}
use Rattle.lists.proofs.Tests.{by-test, within}
use Rattle.session.specs.Record.{fresh}
use Rattle.table.specs.Layout as Table
use Rattle.table.proofs.Laws as TableLaws
use Rattle.step.specs.Step.{Stepped, Formed}
use Rattle.step.proofs.Form.{FormKept, unchanged, committed_keeps, plan_keeps}
use Rattle.reopen.specs.Reopening.{Reopened}
use Rattle.reopen.proofs.Form.{reopened-formed}
use Rattle.lockmgr.specs.Calls.{step, reopen_refusal, reopen}
use Rattle.lockmgr.proofs.Judging.{by_call, reopen-zero}

-- any step on well-formed buffers
pub step_keeps_form : (verb t x : ℕ) (table mail : List ℕ) → Formed table mail → FormKept table mail (step verb t x table mail)
step_keeps_form verb t x table mail f =
    by_call verb t x table mail (FormKept table mail) (λ n _. unchanged table mail f n)
    (λ low high j u fits. committed_keeps table mail f t _ (plan_keeps t x table mail j verb low high u) fits)

-- any step, on any bytes, leaves the config
pub step-config : (verb t x : ℕ) (table mail : List ℕ) → Table.config_of (step verb t x table mail).table ≡ Table.config_of table
step-config verb t x table mail =
    by_call verb t x table mail (λ (r : Stepped). Table.config_of r.table ≡ Table.config_of table) (λ _ _. refl)
    (λ low high j u _. (plan_keeps t x table mail j verb low high u).config)

-- any reopening
pub reopen_keeps_form : (t : ℕ) (table mail : List ℕ) → Formed table mail → Formed (reopen t table mail).table mail
unfolding reopen
reopen_keeps_form t table mail f =
    by-test (λ (r : Reopened). Formed r.table mail) (eqb (reopen_refusal t table mail) 0)
    (λ e. let n = within 1 (Table.sessions_of table) t (reopen-zero t table mail (eqb-true (reopen_refusal t table mail) 0 e)).1 in reopened-formed t table mail f n.0 n.1)
    (λ _. f)

pub reopen-config : (t : ℕ) (table mail : List ℕ) → Table.config_of (reopen t table mail).table ≡ Table.config_of table
unfolding reopen
reopen-config t table mail =
    by-test (λ (r : Reopened). Table.config_of r.table ≡ Table.config_of table) (eqb (reopen_refusal t table mail) 0)
    (λ e. let k = reopen-zero t table mail (eqb-true (reopen_refusal t table mail) 0 e) in
    let n = within 1 (Table.sessions_of table) t k.1 in
    TableLaws.config_of-with_session table k.0.records.sized t n.0 n.1 fresh refl)
    (λ _. refl)
