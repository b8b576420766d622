use Rattle.replica.proofs.StandingSites.{unchanged_stands}
use Rattle.replica.proofs.laws.an_unchanged_replica_stands_for_the_same.Goals as goal

pub returns : goal.returns
returns c = unchanged_stands
