-- The number of each refusal, and what is answered of a call that can be refused: its number, or 0.
use Rattle.std.specs.Prelude.{ℕ, Result, Ok, Err}
use Rattle.refusal.specs.declared.Refusal.{Refusal}
use Rattle.refusal.specs.declared.Refusal.TheVariants.{BadVerb, BadSize, BadTable, BadMail, BadNumber, WrongStage, WrongItem, NoMessage, MailFull, NoCycle, ShortBuffer, BadList, Nobody, BadRanks, InUse}
use Rattle.refusal.specs.Refusal as Number

abbrev pub number : Refusal → ℕ
number BadVerb = Number.bad_verb
number BadSize = Number.bad_size
number BadTable = Number.bad_table
number BadMail = Number.bad_mail
number BadNumber = Number.bad_number
number WrongStage = Number.wrong_stage
number WrongItem = Number.wrong_item
number NoMessage = Number.no_message
number MailFull = Number.mail_full
number NoCycle = Number.no_cycle
number ShortBuffer = Number.short_buffer
number BadList = Number.bad_list
number Nobody = Number.nobody
number BadRanks = Number.bad_ranks
number InUse = Number.in_use

abbrev pub outcome : {A : Type 0} → Result A Refusal → ℕ
outcome (Ok _) = 0
outcome (Err e) = number e
