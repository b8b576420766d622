use Rattle.operations.proofs.ConditionOrder.{registers_ordered, registers_least}
use Rattle.operations.proofs.RegisterLaws.{joined_comm, joined_assoc, joined_self, joined_agrees}
use Rattle.lww_registers.proofs.laws.registers_are_joined.Goals as goal

pub returns-clause-join : goal.returns-clause-join
returns-clause-join c = λ s. record { commutative = joined_comm; associative = joined_assoc; idempotent = joined_self; keeps_agreement = λ x y z a b d. joined_agrees x y z b d }

pub returns-clause-keeps_agreement : goal.returns-clause-keeps_agreement
returns-clause-keeps_agreement c = λ s. joined_agrees

pub returns-clause-ordered : goal.returns-clause-ordered
returns-clause-ordered c = λ s. registers_ordered

pub returns-clause-least : goal.returns-clause-least
returns-clause-least c = λ s. registers_least
