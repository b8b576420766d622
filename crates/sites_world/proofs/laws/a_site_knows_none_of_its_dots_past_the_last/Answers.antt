use Rattle.sites_world.proofs.Held.{know_none_past}
use Rattle.sites_world.proofs.laws.a_site_knows_none_of_its_dots_past_the_last.Goals as goal

pub returns : goal.returns
returns c = know_none_past
