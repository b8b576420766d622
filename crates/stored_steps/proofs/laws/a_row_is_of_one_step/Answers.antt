use Rattle.stored_steps.proofs.RowLaws.{one_step}
use Rattle.stored_steps.proofs.laws.a_row_is_of_one_step.Goals as goal

pub returns : goal.returns
returns c = one_step
