use Rattle.sites_world.proofs.OutcomeLaws.{have_outcomes}
use Rattle.sites_world.proofs.laws.each_event_has_one_outcome.Goals as goal

pub returns : goal.returns
returns c = have_outcomes
