use Rattle.operations.proofs.TotalsLaws.{joined_comm, joined_assoc, joined_self}
use Rattle.site_totals.proofs.laws.totals_are_joined.Goals as goal

pub returns : goal.returns
returns c = record { commutative = λ x y a. joined_comm x y; associative = joined_assoc; idempotent = joined_self; keeps_agreement = λ x y z a b d. tt }
