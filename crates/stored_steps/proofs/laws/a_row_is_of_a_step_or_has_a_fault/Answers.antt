use Rattle.stored_steps.proofs.RowFaults.{either_row, not_both_rows, one_row_fault}
use Rattle.stored_steps.proofs.laws.a_row_is_of_a_step_or_has_a_fault.Goals as goal

pub returns : goal.returns
returns c = record { either = either_row; not_both = λ row of faulty. not_both_rows row of.step faulty.fault of.row_is of.within faulty.has; one = one_row_fault }
