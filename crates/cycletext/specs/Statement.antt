-- What is proved of the texts of cycles, for every S and M.
use Rattle.std.specs.Prelude.{ℕ, ◌≤◌, ◌≡◌, List, ◌≢◌, length}
use Rattle.table.specs.Layout.{Formed}
use Rattle.waits.specs.Waits.{reached}
use Rattle.waits.specs.OnTable.{waits_for, cycle_length, cycle}
use Rattle.cycletext.specs.Reading.{read_back}
use Rattle.cycletext.specs.OnTable.{text}

-- no text is longer: 64 lines of 42 bytes and three numbers; the numbers 1 to 64, which stand there three times, have 119 digits
abbrev pub longest : ℕ
longest = 3045

pub record Texts : Type 0 where
  -- the text read back gives the cycle: its sessions, items and holders
  pub reads_back : (table : List ℕ) (t : ℕ) → read_back (text table t) ≡ cycle table t
  -- two different cycles, in waits or in items, never have the same text
  pub differ : (table other : List ℕ) (t u : ℕ) → cycle table t ≢ cycle other u → text table t ≢ text other u
  -- a cycle has one text, whichever member is asked about
  pub one-text : (table : List ℕ) → Formed table → (t k : ℕ) → 1 ≤ t → cycle_length table t ≢ 0 → text table (reached (waits_for table) k t) ≡ text table t
  -- no text is longer than that
  pub fits : (table : List ℕ) → Formed table → (t : ℕ) → 1 ≤ t → length (text table t) ≤ longest
