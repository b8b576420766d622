use Rattle.sites_world.proofs.SteppedHistories.{reached_history}
use Rattle.sites_world.proofs.laws.a_world_has_a_history.Goals as goal

pub returns : goal.returns
returns c = λ names sites w reached. reached_history names sites w reached
