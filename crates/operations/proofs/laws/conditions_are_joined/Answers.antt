use Rattle.operations.proofs.ConditionLaws.{conditions_comm, conditions_assoc, conditions_self, conditions_agree, dead_wins, unknown_is_neutral}
use Rattle.operations.proofs.laws.conditions_are_joined.Goals as goal

pub returns-clause-join : goal.returns-clause-join
returns-clause-join c = record { commutative = conditions_comm; associative = conditions_assoc; idempotent = conditions_self; keeps_agreement = conditions_agree }

pub returns-clause-dead_wins : goal.returns-clause-dead_wins
returns-clause-dead_wins c = dead_wins

pub returns-clause-unknown_is_neutral : goal.returns-clause-unknown_is_neutral
returns-clause-unknown_is_neutral c = unknown_is_neutral
