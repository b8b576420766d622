-- The answers of a site that knows these operations: the report of what they show (Asterisk's QueueStatus), and commands by their
-- meaning.
use Rattle.std.specs.Prelude.{ℕ, ◌≡◌, ◌⊎◌, List}
use Rattle.dots.specs.declared.call_totals.CallTotals.{CallTotals}
use Rattle.dots.specs.declared.calls.Calls.TheVariants.{Completed, Abandoned}
use Rattle.operations.specs.Knowledge.{Knowledge, SameOperations, IsConsistent}
use Rattle.operations.specs.Rows.{dot_view, rows_of}
use Rattle.operations.specs.Counts.{queue_total}
use Rattle.replica.specs.Changes.{change_of}
use Rattle.replica.specs.Site.{SiteState, IsUnchanged}
use Rattle.replica.specs.Standing.{StandsFor, result_of}
use Rattle.replica.specs.Steps.{SiteKnowledge, Do, step}
use Rattle.replica.specs.declared.refusal.Refusal.TheVariants.{Memory}
use Rattle.status_report.specs.declared.asks.Answer.{Answer}
use Rattle.status_report.specs.declared.asks.Answer.TheVariants.{Refused, Report}
use Rattle.status_report.specs.declared.asks.Ask.{Ask}
use Rattle.status_report.specs.declared.asks.Ask.TheVariants.{Command as asked_command, Status}
use Rattle.status_report.specs.declared.request.StatusRequest.{StatusRequest}
use Rattle.status_report.specs.Answers.{answer_of}
use Rattle.status_report.specs.Status.{status_text}

-- the totals of a queue in a knowledge
abbrev pub totals_in : Knowledge → ℕ → CallTotals
totals_in k queue = record { completed = queue_total k queue Completed; abandoned = queue_total k queue Abandoned }

-- the status text of a knowledge: of the queues of these names, with the totals and the rows that it shows
abbrev pub status_in : Knowledge → List (List ℕ) → StatusRequest → List ℕ
status_in k names request = status_text names (totals_in k) (rows_of (dot_view k)) request

-- consistent knowledges of the same operations have the same status texts
abbrev pub SameStatusTexts : Type 0
SameStatusTexts = (k l : Knowledge) (names : List (List ℕ)) (request : StatusRequest) → IsConsistent k → SameOperations k l → status_in k names request ≡ status_in l names request

-- the answer of a site of this number with these queues, and what it knows then: a command is one step of the site; a status is
-- answered by its text, and changes nothing
abbrev pub answer_in : ℕ → List (List ℕ) → SiteKnowledge → Ask → SiteKnowledge × Answer
answer_in site names s (asked_command command) = let done = step site names s (Do (change_of command)) in (done.0, answer_of (result_of done.1))
answer_in site names s (Status request) = (s, Report (status_in s.known names request))

-- a state, and an answer, are those of a site that knows this now; or the site is out of memory, and says the same as before
abbrev pub IsAnswered : SiteState → SiteState → Answer → SiteKnowledge × Answer → Type 0
IsAnswered old new answer after = (StandsFor new after.0 × (answer ≡ after.1)) ⊎ (IsUnchanged old new × (answer ≡ Refused Memory))

-- the result of an ask is the given one; or it is out of memory, and then the site knows what it knew
abbrev pub MayComeOf : SiteKnowledge → SiteKnowledge × Answer → SiteKnowledge × Answer → Type 0
MayComeOf s given after = (after ≡ given) ⊎ ((after.0 ≡ s) × (after.1 ≡ Refused Memory))

-- an answer is that of one step of a site, and the new state stands for the site after it
pub record IsOneStep (new : SiteState) (answer : Answer) (s : SiteKnowledge) (given : SiteKnowledge × Answer) : Type 0 where
  pub after : SiteKnowledge
  pub stands : StandsFor new after
  pub comes : MayComeOf s given (after, answer)
