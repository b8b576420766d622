use Rattle.sites_world.proofs.OutcomeLaws.{refusals_change_nothing}
use Rattle.sites_world.proofs.laws.what_is_refused_changes_nothing.Goals as goal

pub returns : goal.returns
returns c = refusals_change_nothing
