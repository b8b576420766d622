use Rattle.stored_steps.proofs.RestoringLaws.{same_site_again}
use Rattle.stored_steps.proofs.laws.a_restored_site_did_what_its_rows_say.Goals as goal

pub returns : goal.returns
returns c = same_site_again
