-- With rank k for session k every call is that of the order of the numbers: RULES 9.12. RULES is docs/RULES.md.
use Rattle.std.specs.Prelude.{ℕ, ◌≡◌, Bool, List, [], ◌∷◌, ltb}
use Rattle.session.specs.Seniority.{plain}
use Rattle.table.specs.Layout as Table
use Rattle.lockmgr.specs.Calls as Calls
use Rattle.lockmgr.specs.Calls.{Config}
use Rattle.lockmgr.specs.Run.{Buffers, Done}
use Rattle.lockmgr.specs.History.{Call, after, steps}

-- rank k for session k stands in the table
abbrev pub Plain : List ℕ → Type 0
Plain table = Table.ranks table ≡ plain (Table.sessions_of table)

-- every single step of a list is done by a seniority
abbrev pub DoneBy : (ℕ → ℕ → Bool) → List Done → Type 0
DoneBy senior [] = Unit {0}
DoneBy senior (d ∷ l) =
    (d.result ≡ Calls.step_by senior d.verb d.session d.item d.before.table d.before.mail) × DoneBy senior l

-- on any bytes in which these ranks stand; a start, a report and a reopening look at no seniority
pub record ByNumber : Type 0 where
  pub step : (verb t x : ℕ) (table mail : List ℕ) → Plain table → Calls.step verb t x table mail ≡ Calls.step_by ltb verb t x table mail
  pub cycle-text : (t : ℕ) (table buffer : List ℕ) → Plain table → Calls.cycle_text t table buffer ≡ Calls.cycle_text_by ltb t table buffer
  -- every list of calls is made of such steps, drains too, and leaves these ranks; so what ends a drain is such a step as well
  pub calls : (b : Buffers) → Plain b.table → (l : List Call) → DoneBy ltb (steps b l)
  pub stays : (b : Buffers) → Plain b.table → (l : List Call) → Plain (after b l).table
  -- start writes them
  pub started : (c : Config) (table mail : List ℕ) → (Calls.start c table mail).refusal ≡ 0 → c.kept.ranks ≡ plain c.kept.sessions → Plain (Calls.start c table mail).table
