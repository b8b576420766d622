use Rattle.stored_steps.proofs.Replaying.{steps_lead}
use Rattle.stored_steps.proofs.laws.rows_lead_where_their_steps_do.Goals as goal

pub returns : goal.returns
returns c = steps_lead
