use Rattle.sites_world.proofs.Held.{held_agree}
use Rattle.sites_world.proofs.laws.what_is_held_agrees.Goals as goal

pub returns : goal.returns
returns c = held_agree
