use Rattle.status_report.proofs.AskLemmas.{report_same}
use Rattle.status_report.proofs.laws.sites_that_say_the_same_have_the_same_report.Goals as goal

pub returns : goal.returns
returns c = λ s t request same. report_same s t same request
