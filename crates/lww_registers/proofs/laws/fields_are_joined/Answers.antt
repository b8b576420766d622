use Rattle.operations.proofs.ConditionLaws.{fields_comm, fields_assoc, fields_self, fields_agree}
use Rattle.lww_registers.proofs.laws.fields_are_joined.Goals as goal

pub returns-clause-join : goal.returns-clause-join
returns-clause-join c = record {
  commutative = fields_comm;
  associative = fields_assoc;
  idempotent = fields_self;
  keeps_agreement = λ x y z a b d. fields_agree x y z b d;
}

pub returns-clause-keeps_agreement : goal.returns-clause-keeps_agreement
returns-clause-keeps_agreement c = fields_agree
