use Rattle.delta.proofs.Merging.{associative, commutative, empty, idempotent, into_empty, keeps_agreement, turned}
use Rattle.delta.proofs.laws.deltas_are_joined_in_any_order.Goals as goal

pub returns : goal.returns
returns c = record {
  commutative = commutative;
  turned = turned;
  associative = associative;
  idempotent = idempotent;
  keeps_agreement = keeps_agreement;
  empty = empty;
  into_empty = into_empty;
}
