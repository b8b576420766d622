use Rattle.delta.proofs.StandingDeltas.{same_operations}
use Rattle.delta.proofs.laws.knowledges_of_the_same_operations_have_one_delta.Goals as goal

pub returns : goal.returns
returns c = same_operations
