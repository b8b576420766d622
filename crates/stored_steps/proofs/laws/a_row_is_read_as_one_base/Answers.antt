use Rattle.stored_steps.proofs.BaseLaws.{read_once}
use Rattle.stored_steps.proofs.laws.a_row_is_read_as_one_base.Goals as goal

pub returns : goal.returns
returns c = read_once
