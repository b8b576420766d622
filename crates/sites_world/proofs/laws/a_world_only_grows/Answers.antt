use Rattle.sites_world.proofs.Growing.{event_grows, run_grows, taken_stays}
use Rattle.sites_world.proofs.laws.a_world_only_grows.Goals as goal

pub returns : goal.returns
returns c = record { event = event_grows; events = run_grows; taken = taken_stays }
