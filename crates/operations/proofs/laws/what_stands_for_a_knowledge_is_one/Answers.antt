use Rattle.operations.proofs.StandingLaws.{represents_one}
use Rattle.operations.proofs.laws.what_stands_for_a_knowledge_is_one.Goals as goal

pub returns : goal.returns
returns c = represents_one
