use Rattle.sites_world.proofs.KnownTogether.{together}
use Rattle.sites_world.proofs.SteppedHistories.{reached_history}
use Rattle.sites_world.proofs.laws.knowledges_of_a_world_are_consistent_together.Goals as goal

pub returns : goal.returns
returns c = λ names sites w k l reached. together names w k l (reached_history names sites w reached)
