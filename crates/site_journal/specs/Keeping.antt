-- The payload of steps in bytes.
use Rattle.std.specs.List.{sum_by}
use Rattle.std.specs.Prelude.{ℕ, ◌+◌, List, length, Some, None}
use Rattle.status_report.specs.declared.asks.Answer.{Answer}
use Rattle.status_report.specs.declared.asks.Answer.TheVariants.{Done, Refused, Report}
use Rattle.status_report.specs.declared.asks.Ask.{Ask}
use Rattle.status_report.specs.declared.asks.Ask.TheVariants.{Command, Status}
use Rattle.site_journal.specs.declared.step.Step.{Step}
use Rattle.site_journal.specs.declared.step.StepDeed.{StepDeed}
use Rattle.site_journal.specs.declared.step.StepDeed.TheVariants.{Asked, Took, Cut, Whole}

-- the payload of an ask: the bytes of a status's ActionID
abbrev pub kept_by_ask : Ask → ℕ
kept_by_ask (Command command) = 0
kept_by_ask (Status request) = length request.action_id

-- the payload of an answer: the bytes of its report
abbrev pub kept_by_answer : Answer → ℕ
kept_by_answer Done = 0
kept_by_answer (Refused refusal) = 0
kept_by_answer (Report bytes) = length bytes

-- the payload of a deed: that of its ask and its answer, or the bytes of its frame
abbrev pub kept_by : StepDeed → ℕ
kept_by (Asked asked answer) = kept_by_ask asked + kept_by_answer answer
kept_by (Took bytes) = length bytes
kept_by (Cut None) = 0
kept_by (Cut (Some bytes)) = length bytes
kept_by (Whole bytes) = length bytes

-- the payload of steps: that of all their deeds
abbrev pub kept_by_steps : List Step → ℕ
kept_by_steps = sum_by (λ (step : Step). kept_by step.deed)
