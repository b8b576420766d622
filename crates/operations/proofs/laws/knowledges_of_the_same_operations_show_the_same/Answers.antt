use Rattle.operations.proofs.RowLaws.{show_the_same}
use Rattle.operations.proofs.laws.knowledges_of_the_same_operations_show_the_same.Goals as goal

pub returns : goal.returns
returns c = show_the_same
