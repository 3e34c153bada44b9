-- The lines of a transcript: how long they are, and how they follow one another.
use mathlib.Core.Path.{◌≡◌, refl}
use mathlib.Core.List.{List, [], ◌∷◌, ◌++◌, append_assoc}
use Prim.Native.Nat.{ℕ, suc, ◌+◌, ◌≤◌, ◌<◌}
use native.Mathlib.Omega.{arith}
use lib.ListN.{length}
use Rattle.mailbox.specs.Layout as Mail
use Rattle.step.specs.declared.Answer.{Answer}
use Rattle.lockmgr.specs.Calls.{step}
use Rattle.lockmgr.specs.Run as Run
use Rattle.lockmgr.specs.Run.{run, done, left, tallied, counted}
use Rattle.text.specs.Text.{spaced, rest}
use Rattle.text.proofs.Laws.{length_rest, spaced-none, spaced-longer, line_short}
use Rattle.transcript.specs.Transcript.{step_line, step_lines, end_line, printed, longest_line}

-- a byte has at most three digits
bytes-longer : (n : ℕ) (l : List ℕ) (m : ℕ) → n < 256 → length (spaced l) ≤ m → length (spaced (n ∷ l)) ≤ 4 + m
bytes-longer n l m h f = spaced-longer 2 n l m (omega arith) f

abbrev pub numbers : Run.Step → Answer → List ℕ
numbers c a = c.verb ∷ c.session ∷ c.item ∷ a.refusal ∷ a.sent ∷ a.closed ∷ a.victim ∷ a.initiator ∷ []

module _ (index : ℕ) (c : Run.Step) (a : Answer) (few : index < 10000) where
  module _ (v : c.verb < 256) (t : c.session < 256) (x : c.item < 256) (r : a.refusal < 256) (s : a.sent < 256)
      (k : a.closed < 256) (b : a.victim < 256) (i : a.initiator < 256) where
    numbers_short : length (spaced (numbers c a)) ≤ 32
    numbers_short =
        bytes-longer c.verb _ 28 v (bytes-longer c.session _ 24 t (bytes-longer c.item _ 20 x (bytes-longer a.refusal _ 16 r
        (bytes-longer a.sent _ 12 s (bytes-longer a.closed _ 8 k (bytes-longer a.victim _ 4 b (bytes-longer a.initiator [] 0 i spaced-none)))))))

    pub step_short : length (step_line index c a) ≤ longest_line
    unfolding step_line
    step_short = line_short 3 index (numbers c a) 32 few numbers_short

module _ (left : ℕ) (y : Run.Tally) (l : left < 100000) (k : y.closed < 10000) (d : y.declared < 10000) (r : y.rolled_back < 10000) where
  pub end_short : length (rest (left ∷ y.closed ∷ y.declared ∷ y.rolled_back ∷ [])) ≤ 22
  end_short =
      let numbers_short : length (spaced (left ∷ y.closed ∷ y.declared ∷ y.rolled_back ∷ [])) ≤ 21 =
      spaced-longer 4 left _ 15 l (spaced-longer 3 y.closed _ 10 k (spaced-longer 3 y.declared _ 5 d (spaced-longer 3 y.rolled_back [] 0 r spaced-none))) in
      omega (arith, length_rest (left ∷ y.closed ∷ y.declared ∷ y.rolled_back ∷ []))

-- what is still printed of a list of steps
abbrev pub ahead : ℕ → List ℕ → List ℕ → Run.Tally → List Run.Step → List ℕ
ahead index table mail y l = printed index l (run table mail y l)

pub ahead_none : (index : ℕ) (table mail : List ℕ) (y : Run.Tally) → ahead index table mail y [] ≡ end_line (Mail.count_of mail) y
unfolding printed run done left tallied step_lines
ahead_none index table mail y = refl

pub ahead_step : (index : ℕ) (table mail : List ℕ) (y : Run.Tally) (c : Run.Step) (l : List Run.Step)
    → let r = step c.verb c.session c.item table mail in
    ahead index table mail y (c ∷ l) ≡ step_line index c r.answer ++ ahead (suc index) r.table r.mail (counted c.session table r y) l
unfolding printed run done left tallied step_lines
ahead_step index table mail y c l =
    let r = step c.verb c.session c.item table mail in
    let b = run r.table r.mail (counted c.session table r y) l in
    append_assoc (step_line index c r.answer) (step_lines (suc index) l b.answers) (end_line (Mail.count_of b.mail) b.tally)
