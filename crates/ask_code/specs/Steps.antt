-- The part of a site's step that is a command with its answer.
use Rattle.std.specs.Prelude.{◌≡◌}
use Rattle.status_report.specs.Answers.{answer_of}
use Rattle.status_report.specs.declared.asks.Answer.{Answer}
use Rattle.status_report.specs.declared.asks.Ask.{Ask}
use Rattle.status_report.specs.declared.asks.Ask.TheVariants as ask
use Rattle.ask_code.specs.declared.answered.AnsweredCommand.{AnsweredCommand}
use Rattle.ask_code.specs.Values.{IsKeptAnswer}

-- `answered` has the command that was asked and the answer that was given, and a store keeps that answer
pub record IsAnsweredStep (answered : AnsweredCommand) (asked : Ask) (given : Answer) : Type 0 where
  pub command : asked ≡ ask.Command answered.command
  pub answer : given ≡ answer_of answered.answer
  pub kept : IsKeptAnswer answered.answer
