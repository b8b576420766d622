use Rattle.replica.proofs.SiteViewLaws.{means_the_same}
use Rattle.replica.proofs.laws.a_command_means_the_same_at_the_same_operations.Goals as goal

pub returns : goal.returns
returns c = means_the_same
