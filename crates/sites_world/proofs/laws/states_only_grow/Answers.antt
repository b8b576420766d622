use Rattle.sites_world.proofs.GrowingStates.{lead_all_grows, leads_grow, taken_stays_said}
use Rattle.sites_world.proofs.laws.states_only_grow.Goals as goal

pub returns : goal.returns
returns c = record { event = leads_grow; events = lead_all_grows; taken = taken_stays_said }
