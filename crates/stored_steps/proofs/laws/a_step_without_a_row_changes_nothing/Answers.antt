use Rattle.stored_steps.proofs.Replaying.{led_still}
use Rattle.stored_steps.proofs.laws.a_step_without_a_row_changes_nothing.Goals as goal

pub returns : goal.returns
returns c = λ from to step none l. led_still from to step none l
