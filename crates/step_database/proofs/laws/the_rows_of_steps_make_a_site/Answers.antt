use Rattle.step_database.proofs.Found.{found_makes}
use Rattle.step_database.proofs.laws.the_rows_of_steps_make_a_site.Goals as goal

pub returns : goal.returns
returns c = found_makes
