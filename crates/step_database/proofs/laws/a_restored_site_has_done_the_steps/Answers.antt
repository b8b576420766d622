use Rattle.step_database.proofs.Found.{found_site}
use Rattle.step_database.proofs.laws.a_restored_site_has_done_the_steps.Goals as goal

pub returns : goal.returns
returns c = found_site
