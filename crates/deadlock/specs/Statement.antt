-- What is proved of the machine: for every seniority, every choice of the next holder, every policy and every list of calls.
use Rattle.std.specs.Prelude.{◌≡◌, Bool, false, true, [], List, ◌≤◌, ℕ}
use Rattle.std.proofs.Math.Option.{some}
use Rattle.deadlock.specs.Machine.{Call, count_closed, count_rolled_back, Declaration, Laws, on_cycle, reached, Rules, run, start, State, step}

-- session i lies on a cycle of waits; no member of it is senior to i; v is a member, and no member is junior to v
pub record TrueDeclaration (R : Rules) (s : State) (v i : ℕ) : Type 0 where
  pub low : 1 ≤ i
  pub high : i ≤ R.S
  pub on-cycle : on_cycle R s i ≡ true
  pub most-senior : (n : ℕ) → R.senior (reached R s n i) i ≡ false
  pub victim-member : (n : ℕ) × (reached R s n i ≡ v)
  pub most-junior : (n : ℕ) → R.senior v (reached R s n i) ≡ false

-- whatever a step declares is true in the state that the step leaves
abbrev pub DeclarationsTrue : Rules → (State → Call → Bool) → Type 0
DeclarationsTrue R admits =
    (cs : List Call) (c : Call) (d : Declaration)
    → (step R admits (run R admits (start R) cs).state c).event.declared ≡ some d
    → TrueDeclaration R (step R admits (run R admits (start R) cs).state c).state d.victim d.initiator

-- when no message is left, no session lies on a cycle
abbrev pub SettledFree : Rules → (State → Call → Bool) → Type 0
SettledFree R admits =
    (cs : List Call) → (run R admits (start R) cs).state.mailbox ≡ []
    → (t : ℕ) → 1 ≤ t → t ≤ R.S → on_cycle R (run R admits (start R) cs).state t ≡ false

-- when no message is left, as many sessions were rolled back as cycles were closed
abbrev pub CountsAgree : Rules → (State → Call → Bool) → Type 0
CountsAgree R admits =
    (cs : List Call) → (run R admits (start R) cs).state.mailbox ≡ []
    → count_closed (run R admits (start R) cs).events ≡ count_rolled_back (run R admits (start R) cs).events

-- what is guaranteed under one policy
pub record Guarantees (R : Rules) (admits : State → Call → Bool) : Type 0 where
  pub declarations-true : DeclarationsTrue R admits
  pub settled-free : SettledFree R admits
  pub counts-agree : CountsAgree R admits

-- for every seniority and choice of the next holder that meet the laws, and every policy
abbrev pub Statement : Type 0
Statement = (R : Rules) → Laws R → (admits : State → Call → Bool) → Guarantees R admits
