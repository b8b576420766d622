use Rattle.status_report.proofs.KnowingLemmas.{same_status}
use Rattle.status_report.proofs.laws.knowledges_of_the_same_operations_have_the_same_status.Goals as goal

pub returns : goal.returns
returns c = same_status
