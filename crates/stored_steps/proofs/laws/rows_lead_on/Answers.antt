use Rattle.stored_steps.proofs.Replaying.{lead_on}
use Rattle.stored_steps.proofs.laws.rows_lead_on.Goals as goal

pub returns : goal.returns
returns c = lead_on
