use Rattle.stored_steps.proofs.Replaying.{one_site}
use Rattle.stored_steps.proofs.laws.rows_lead_to_one_site.Goals as goal

pub returns : goal.returns
returns c = one_site
