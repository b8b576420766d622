use Rattle.operations.proofs.ConditionOrder.{conditions_ordered, conditions_least}
use Rattle.operations.proofs.laws.a_join_of_conditions_is_the_least_above_both.Goals as goal

pub returns-clause-ordered : goal.returns-clause-ordered
returns-clause-ordered c = conditions_ordered

pub returns-clause-least : goal.returns-clause-least
returns-clause-least c = conditions_least
