use Rattle.replica.proofs.AlikeSites.{means_alike}
use Rattle.replica.proofs.laws.a_command_means_the_same_at_views_that_are_alike.Goals as goal

pub returns : goal.returns
returns c = means_alike
