use Rattle.sites_world.proofs.Held.{few_held, one_held}
use Rattle.sites_world.proofs.laws.what_is_held_has_one_dot_of_a_member_and_a_site.Goals as goal

pub returns : goal.returns
returns c = record { dots = one_held; cells = few_held }
