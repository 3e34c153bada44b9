-- `put` meets its contract: three stores are a run written over the buffer.
use mathlib.Core.List.{[], ◌∷◌}
use native.Mathlib.Numerals.{towards_suc}
use Rattle.buffer.proofs.Laws.{sets-splice}
use native.Mathlib.Omega.{arith}
use Rattle.entry.proofs.put.Goals as goal

pub returns : goal.returns
returns c = let a = c.args in simp towards_suc (sets-splice a.m.now a.at (a.a ∷ a.b ∷ a.c ∷ []) (omega arith))
