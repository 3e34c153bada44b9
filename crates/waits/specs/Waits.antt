-- Who waits for whom, and the cycles of waits (01: rings), read from holders and wait queues alone. RULES is docs/RULES.md.
use Rattle.std.specs.Prelude.{ℕ, zero, suc, Bool, cond, not, ◌&&◌, eqb}
use Rattle.lists.specs.Lists.{every, lowest, count_up_to, member}
use Rattle.item.specs.Record.{Lock}

-- M items, of which x is `locks x`
module _ (M : ℕ) (locks : ℕ → Lock) where
  -- session t stands in the queue of item x, which is held
  unfoldable pub queued_at : ℕ → ℕ → Bool
  queued_at t x = not (eqb (locks x).holder 0) && member t (locks x).queue

  -- the item at which t waits, or 0: RULES 7.1
  unfoldable pub waits_at : ℕ → ℕ
  waits_at t = lowest M (queued_at t)

  -- the session for which t waits, or 0: RULES 7.2
  unfoldable pub waits_for : ℕ → ℕ
  waits_for t = cond (eqb (waits_at t) 0) 0 (locks (waits_at t)).holder

-- each session waits for the next, or for none where that is 0
module _ (next : ℕ → ℕ) where
  -- the session reached from t by n waits, or 0
  unfoldable pub reached : ℕ → ℕ → ℕ
  reached zero t = t
  reached (suc n) t = next (reached n t)

  -- S sessions
  module _ (S : ℕ) where
    -- the length of the cycle on which t lies, or 0: RULES 7.4
    unfoldable pub cycle_length : ℕ → ℕ
    cycle_length t = lowest S (λ n. eqb (reached n t) t)

    unfoldable pub on_cycle : ℕ → Bool
    on_cycle t = not (eqb (cycle_length t) 0)

    module _ (senior : ℕ → ℕ → Bool) where
      -- t lies on a cycle and no member of it is senior to t
      unfoldable pub leads : ℕ → Bool
      leads t = on_cycle t && every (cycle_length t) (λ n. not (senior (reached n t) t))

      -- the number of standing cycles, each counted at its most senior member: RULES 7.6
      unfoldable pub cycles : ℕ
      cycles = count_up_to S leads
