-- What is proved of the machine: a session whose work is over, and for which no message is on its way, is named nowhere.
use Rattle.std.specs.Prelude.{◌≡◌, Bool, false, true, List, ◌≢◌, ◌⊎◌, ◌≤◌, ℕ}
use Rattle.deadlock.specs.Machine.{Call, item_names, Laws, none_of_session, releasing, rolled_back, Rules, run, Session, shrinking, start, State}

-- a session that was rolled back, or releases and holds nothing more
abbrev pub Over : Session → Type 0
Over r = (r.stage ≡ releasing rolled_back) ⊎ ((r.stage ≡ releasing shrinking) × ((x : ℕ) → r.held x ≡ false))

-- no item names session t, and no stored probe does, as initiator or as junior
pub record NamedNowhere (R : Rules) (s : State) (t : ℕ) : Type 0 where
  pub no_item : (x : ℕ) → 1 ≤ x → x ≤ R.M → item_names t (s.item x) ≡ false
  pub no_probe : (u i : ℕ) → (s.session u).stored i ≢ 0 → (i ≢ t) × ((s.session u).stored i ≢ t)

-- for every seniority and choice of the next holder that meet the laws, every policy and every list of calls
abbrev pub Statement : Type 0
Statement =
    (R : Rules) → Laws R → (admits : State → Call → Bool) (cs : List Call) (t : ℕ)
    → (let s = (run R admits (start R) cs).state in Over (s.session t) → none_of_session t s.mailbox ≡ true → NamedNowhere R s t)
