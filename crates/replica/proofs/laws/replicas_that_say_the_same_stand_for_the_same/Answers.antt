use Rattle.replica.proofs.SameSites.{same_site_stands}
use Rattle.replica.proofs.laws.replicas_that_say_the_same_stand_for_the_same.Goals as goal

pub returns : goal.returns
returns c = same_site_stands
