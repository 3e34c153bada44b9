-- Laws of what a call that can be refused answers.
use mathlib.Core.Path.{◌≡◌, refl}
use native.Mathlib.Omega.{arith}
use Rattle.std.specs.Prelude.{Result, Err}
use Rattle.std.specs.Result.{IsErrAnd}
use Rattle.std.proofs.lemmas.Result.{err_from_is_err_and}
use Rattle.refusal.specs.declared.Refusal.{Refusal}
use Rattle.refusal.specs.declared.Refusal.TheVariants.{BadVerb, BadSize, BadTable, BadMail, BadNumber, WrongStage, WrongItem, NoMessage, MailFull, NoCycle, ShortBuffer, BadList, Nobody, BadRanks, InUse}
use Rattle.refusal.specs.Number.{number, outcome}

-- every refusal has a number other than 0
pub number-positive : (r : Refusal) → number r ≡ 0 → ⊥
number-positive BadVerb e = omega arith
number-positive BadSize e = omega arith
number-positive BadTable e = omega arith
number-positive BadMail e = omega arith
number-positive BadNumber e = omega arith
number-positive WrongStage e = omega arith
number-positive WrongItem e = omega arith
number-positive NoMessage e = omega arith
number-positive MailFull e = omega arith
number-positive NoCycle e = omega arith
number-positive ShortBuffer e = omega arith
number-positive BadList e = omega arith
number-positive Nobody e = omega arith
number-positive BadRanks e = omega arith
number-positive InUse e = omega arith

-- a refusal that is passed on stays the same
pub passed-on : {A : Type 0} (x : Refusal) (r : Result A Refusal) → IsErrAnd r (λ y. y ≡ x) → r ≡ Err x
passed-on x r h = let p = err_from_is_err_and r h in rw (p.1, p.2) refl
