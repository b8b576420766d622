-- The answers of a site to asks.
use Rattle.std.specs.Prelude.{◌≡◌, ◌⊎◌, ⊤, Result, Ok, Err}
use Rattle.replica.specs.declared.refusal.Refusal.{Refusal}
use Rattle.replica.specs.declared.refusal.Refusal.TheVariants.{Memory}
use Rattle.replica.specs.Changes.{change_of}
use Rattle.replica.specs.Commands.{IsDone}
use Rattle.replica.specs.Site.{SiteState, meaning_at}
use Rattle.status_report.specs.declared.asks.Answer.{Answer}
use Rattle.status_report.specs.declared.asks.Answer.TheVariants.{Done, Refused, Report}
use Rattle.status_report.specs.declared.asks.Ask.{Ask}
use Rattle.status_report.specs.declared.asks.Ask.TheVariants.{Command as asked_command, Status}
use Rattle.status_report.specs.Status.{report_of}

-- the answer for the result of a command
abbrev pub answer_of : Result (Unit {0}) Refusal → Answer
answer_of (Ok done) = Done
answer_of (Err refusal) = Refused refusal

-- a command is answered by its result, and changes the site by its meaning there
abbrev pub AnswersCommand : SiteState → Ask → SiteState → Answer → Type 0
AnswersCommand old (asked_command command) new answer = (result : Result (Unit {0}) Refusal) × (answer ≡ answer_of result) × IsDone old (meaning_at old (change_of command)) new result
AnswersCommand old (Status request) new answer = ⊤

-- a status is answered by its report, or refused as out of memory
abbrev pub AnswersStatus : SiteState → Ask → Answer → Type 0
AnswersStatus old (asked_command command) answer = ⊤
AnswersStatus old (Status request) answer = (answer ≡ Report (report_of old request)) ⊎ (answer ≡ Refused Memory)

-- a status changes nothing
abbrev pub KeepsAtStatus : SiteState → Ask → SiteState → Type 0
KeepsAtStatus old (asked_command command) new = ⊤
KeepsAtStatus old (Status request) new = new ≡ old
