-- What a pass of a desk with a store does for the asks of sessions (this project's own).
use Rattle.std.specs.Prelude.{◌≡◌}
use Rattle.replica.specs.Site.{SiteState}
use Rattle.site_desk.specs.Passes.{HasDone, PassState}
use Rattle.site_journal.specs.declared.receipt.Receipt.{Receipt}
use Rattle.site_journal.specs.declared.step.StepDeed.TheVariants.{Asked}
use Rattle.status_report.specs.declared.asks.Answer.{Answer}
use Rattle.status_report.specs.declared.asks.Ask.{Ask}
use Rattle.stored_desk.specs.Failing.{IsAnsweredAt}

-- from `old` to `new` a pass has done the step of an ask with this answer, as a site that began in state `base` answers
-- it after as many legal steps as the position of the step says
pub record AnswersByStoredPass (base : SiteState) (old : PassState) (asked : Ask) (answer : Answer) (new : PassState) : Type 0 where
  pub receipt : Receipt
  pub deed : receipt.deed ≡ Asked asked answer
  pub done : HasDone old receipt new
  pub answered : IsAnsweredAt base asked receipt
