use Rattle.replica.proofs.StepLaws.{refusals_change_nothing}
use Rattle.replica.proofs.laws.a_refused_step_changes_nothing.Goals as goal

pub returns : goal.returns
returns c = refusals_change_nothing
