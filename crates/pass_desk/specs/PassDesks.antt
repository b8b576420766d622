-- What a pass does for the asks of sessions (this project's own).
use Rattle.std.specs.Prelude.{ℕ, ◌≡◌, ◌<◌, ◌+◌, List}
use Rattle.site_desk.specs.Deeds.{IsAnsweredSomewhere}
use Rattle.site_desk.specs.Passes.{PassState}
use Rattle.site_journal.specs.declared.step.StepDeed.TheVariants.{Asked}
use Rattle.status_report.specs.declared.asks.Answer.{Answer}
use Rattle.status_report.specs.declared.asks.Ask.{Ask}

-- a pass has done one step more, and has seen more: some state of the site of this number with these queues, reachable or not, gives this answer to the ask
pub record AnswersByPass (site : ℕ) (names : List (List ℕ)) (old : PassState) (asked : Ask) (answer : Answer) (new : PassState) : Type 0 where
  pub ordinal : new.ordinal ≡ old.ordinal
  pub share : new.share ≡ old.share + 1
  pub seen : old.seen < new.seen
  pub possible : IsAnsweredSomewhere site names asked (Asked asked answer)
