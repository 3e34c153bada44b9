-- With rank k for session k every call is that of the order of the numbers: the ranks stand as start wrote them, and seniority by them is that order.
use mathlib.Core.Path.{◌≡◌, refl, sym, ap, subst, ◌∙◌}
use mathlib.Core.Bool.{Bool}
use mathlib.Core.List.{List, [], ◌∷◌, ◌++◌}
use Prim.Native.Nat.{ℕ}
use lib.Dec.{eqb, ltb}
use borrow.Author.Tests.{eqb-true, eqb-false}
use Rattle.lists.proofs.Tests.{by-test}
use Rattle.session.specs.Seniority as Seniority
use Rattle.session.specs.Seniority.{plain}
use Rattle.session.proofs.Seniority as SeniorityLaws
use Rattle.table.specs.Layout as Table
use Rattle.table.proofs.StartLaws.{config_of-started}
use Rattle.lockmgr.specs.Calls as Calls
use Rattle.lockmgr.specs.Calls.{Config}
use Rattle.lockmgr.specs.Run.{Step, Buffers, Done, done_on, left_by, done, left}
use Rattle.lockmgr.specs.History.{Call, step, report, drain, reopen, steps_of, leaves, after, steps}
use Rattle.lockmgr.specs.PlainRanks.{Plain, DoneBy, ByNumber}
use Rattle.lockmgr.proofs.Judging.{start-zero}
use Rattle.lockmgr.proofs.Form.{step-config, reopen-config}

-- ---- the config stays
pub left-config : (b : Buffers) (l : List Step) → Table.config_of (left b l).table ≡ Table.config_of b.table
unfolding left
left-config b [] = refl
left-config b (c ∷ l) = left-config (left_by (done_on b c)) l ∙ step-config c.verb c.session c.item b.table b.mail

pub leaves-config : (b : Buffers) (c : Call) → Table.config_of (leaves b c).table ≡ Table.config_of b.table
unfolding leaves
leaves-config b (step verb t x) = left-config b (steps_of b (step verb t x))
leaves-config b (report t) = refl
leaves-config b (drain limit) = left-config b (steps_of b (drain limit))
leaves-config b (reopen t) = reopen-config t b.table b.mail

-- and so do plain ranks
abbrev plain_config : Table.Config → Type 0
plain_config c = c.ranks ≡ plain c.sessions

plain-stays : (table after : List ℕ) → Table.config_of after ≡ Table.config_of table → Plain table → Plain after
plain-stays table after e p = subst plain_config (sym e) p

-- ---- each call
by_number : (table : List ℕ) → Plain table → Table.senior table ≡ ltb
by_number table p = ap Seniority.senior p ∙ (SeniorityLaws.theorem).by_number (Table.sessions_of table)

step-by-number : (verb t x : ℕ) (table mail : List ℕ) → Plain table → Calls.step verb t x table mail ≡ Calls.step_by ltb verb t x table mail
unfolding Calls.step
step-by-number verb t x table mail p = ap (λ (s : ℕ → ℕ → Bool). Calls.step_by s verb t x table mail) (by_number table p)

text-by-number : (t : ℕ) (table buffer : List ℕ) → Plain table → Calls.cycle_text t table buffer ≡ Calls.cycle_text_by ltb t table buffer
unfolding Calls.cycle_text
text-by-number t table buffer p = ap (λ (s : ℕ → ℕ → Bool). Calls.cycle_text_by s t table buffer) (by_number table p)

-- ---- a list of calls
join : (k l : List Done) → DoneBy ltb k → DoneBy ltb l → DoneBy ltb (k ++ l)
join [] l h g = g
join (d ∷ k) l h g = (h.0, join k l h.1 g)

done-by-number : (b : Buffers) → Plain b.table → (l : List Step) → DoneBy ltb (done b l)
unfolding done
done-by-number b p [] = tt
done-by-number b p (c ∷ l) = (
  step-by-number c.verb c.session c.item b.table b.mail p,
  done-by-number (left_by (done_on b c)) (plain-stays b.table _ (step-config c.verb c.session c.item b.table b.mail) p) l,
)

calls-by-number : (b : Buffers) → Plain b.table → (l : List Call) → DoneBy ltb (steps b l)
unfolding steps
calls-by-number b p [] = tt
calls-by-number b p (c ∷ l) =
    join (done b (steps_of b c)) (steps (leaves b c) l) (done-by-number b p (steps_of b c))
    (calls-by-number (leaves b c) (plain-stays b.table (leaves b c).table (leaves-config b c) p) l)

calls-stay : (b : Buffers) → Plain b.table → (l : List Call) → Plain (after b l).table
unfolding after
calls-stay b p [] = p
calls-stay b p (c ∷ l) = calls-stay (leaves b c) (plain-stays b.table (leaves b c).table (leaves-config b c) p) l

-- ---- a start
start_plain : (c : Config) (table mail : List ℕ) → (Calls.start c table mail).refusal ≡ 0 → c.kept.ranks ≡ plain c.kept.sessions → Plain (Calls.start c table mail).table
unfolding Calls.start
start_plain c table mail e p =
    by-test (λ (r : Calls.Started). r.refusal ≡ 0 → Plain r.table) (eqb (Calls.start_refusal c table mail) 0)
    (λ z _. subst plain_config (sym (config_of-started c.kept (start-zero c table mail (eqb-true (Calls.start_refusal c table mail) 0 z)).sizes.bounded)) p)
    (λ z q. absurd (eqb-false (Calls.start_refusal c table mail) 0 z q))
    e

pub theorem : ByNumber
theorem = record { step = step-by-number; cycle-text = text-by-number; calls = calls-by-number; stays = calls-stay; started = start_plain }
