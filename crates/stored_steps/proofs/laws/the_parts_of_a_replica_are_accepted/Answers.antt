use Rattle.stored_steps.proofs.PartsLaws.{few_parts, no_restore_cause}
use Rattle.stored_steps.proofs.laws.the_parts_of_a_replica_are_accepted.Goals as goal

pub returns : goal.returns
returns c = λ site fault is other cause. no_restore_cause site fault (few_parts site is) other cause
