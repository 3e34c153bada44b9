-- The numbers of the verbs, and what a number names.
use Rattle.std.specs.Prelude.{ℕ, ◌≡◌, false, Result, MatchResult}
use Rattle.lists.specs.Lists.{between}
use Rattle.refusal.specs.declared.Refusal.{Refusal}
use Rattle.refusal.specs.declared.Refusal.TheVariants.{BadVerb}
use Rattle.step.specs.declared.Verb.{Verb}
use Rattle.step.specs.declared.Verb.TheVariants.{Request, Release, DeliverToItem, DeliverToSession}
use Rattle.step.specs.Step.{request, release, deliver_to_item, deliver_to_session}

abbrev pub verb_number : Verb → ℕ
verb_number Request = request
verb_number Release = release
verb_number DeliverToItem = deliver_to_item
verb_number DeliverToSession = deliver_to_session

-- the verb of this number, or 1 where no verb has it
abbrev pub Names : ℕ → Result Verb Refusal → Type 0
Names n r = MatchResult r (λ v. verb_number v ≡ n) (λ e. (e ≡ BadVerb) × (between request deliver_to_session n ≡ false))
