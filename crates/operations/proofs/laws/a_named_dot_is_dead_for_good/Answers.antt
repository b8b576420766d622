use Rattle.operations.proofs.VisibleLaws.{dead_for_good}
use Rattle.operations.proofs.laws.a_named_dot_is_dead_for_good.Goals as goal

pub returns : goal.returns
returns c = dead_for_good
