-- What a step answers that may be refused.
use Rattle.std.specs.Prelude.{Result, Ok, Err}
use Rattle.refusal.specs.declared.Refusal.{Refusal}
use Rattle.refusal.specs.Number.{number}
use Rattle.step.specs.declared.Answer.{Answer}
use Rattle.step.specs.Step.{refused_answer}

abbrev pub told : Result Answer Refusal → Answer
told (Ok a) = a
told (Err e) = refused_answer (number e)
