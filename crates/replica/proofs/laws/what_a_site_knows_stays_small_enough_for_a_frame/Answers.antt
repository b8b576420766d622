use Rattle.replica.proofs.SmallSites.{new_small, steps_stay}
use Rattle.replica.proofs.laws.what_a_site_knows_stays_small_enough_for_a_frame.Goals as goal

pub returns : goal.returns
returns c = record { new = new_small; steps = steps_stay }
