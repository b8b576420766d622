use Rattle.sites_world.proofs.Happenings.{reached_more}
use Rattle.sites_world.proofs.KnownTogether.{in_parts}
use Rattle.sites_world.proofs.laws.events_are_run_in_parts.Goals as goal

pub returns : goal.returns
returns c = record { parts = in_parts; leads = reached_more }
