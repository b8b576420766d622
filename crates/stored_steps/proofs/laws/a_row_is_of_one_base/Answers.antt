use Rattle.stored_steps.proofs.BaseLaws.{read_same}
use Rattle.stored_steps.proofs.laws.a_row_is_of_one_base.Goals as goal

pub returns : goal.returns
returns c = read_same
