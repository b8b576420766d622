-- The answers of a replica, as a desk.
use Rattle.std.specs.Prelude.{◌≡◌}
use Rattle.replica.specs.Site.{SiteState}
use Rattle.replica.specs.Standing.{StandsFor}
use Rattle.replica.specs.Steps.{SiteKnowledge}
use Rattle.status_report.specs.declared.asks.Answer.{Answer}
use Rattle.status_report.specs.declared.asks.Ask.{Ask}
use Rattle.status_report.specs.Answers.{AnswersCommand, AnswersStatus, KeepsAtStatus}
use Rattle.status_report.specs.Knowing.{IsAnswered, answer_in}

-- a replica's answer is that of its state; where it stands for what a site knows, it is that site's
pub record AnswersAs (old : SiteState) (asked : Ask) (answer : Answer) (new : SiteState) : Type 0 where
  pub command : AnswersCommand old asked new answer
  pub status : AnswersStatus old asked answer
  pub unchanged : KeepsAtStatus old asked new
  pub site : new.site ≡ old.site
  pub names : new.names ≡ old.names
  pub meaning : (s : SiteKnowledge) → StandsFor old s → IsAnswered old new answer (answer_in old.site old.names s asked)
