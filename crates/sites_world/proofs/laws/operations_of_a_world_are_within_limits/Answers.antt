use Rattle.sites_world.proofs.Held.{within_held}
use Rattle.sites_world.proofs.WithinLimits.{events_keep_limits, worlds_within_limits}
use Rattle.sites_world.proofs.laws.operations_of_a_world_are_within_limits.Goals as goal

pub returns : goal.returns
returns c = record { event = events_keep_limits; events = worlds_within_limits; held = within_held }
