use Rattle.dots.proofs.Unions.{union_comm, union_assoc, union_same}
use Rattle.causal_context.proofs.laws.contexts_are_joined.Goals as goal

pub returns : goal.returns
returns c = record { commutative = λ a b same. union_comm a b; associative = union_assoc; idempotent = union_same; keeps_agreement = λ a b d p q r. tt }
