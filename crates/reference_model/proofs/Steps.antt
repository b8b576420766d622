-- One operation of a list after the other.
use Rattle.std.proofs.Common.{◌≡◌, ℕ, ◌+◌, ◌<◌, List, ◌∷◌, length, get_or, drop, ap}
use Rattle.reference_model.specs.declared.operation.Operation.{Operation as Plain}
use Rattle.reference_model.specs.Plain.{operation_of, knowledge_of}
use Rattle.general_lemmas.proofs.Fronts.{open_at}

-- the operation at a place
pub next_operation : (operations : List Plain) (i : ℕ) (o : Plain) → i < length operations → o ≡ get_or operations i o
    → knowledge_of (drop i operations) ≡ operation_of o ∷ knowledge_of (drop (i + 1) operations)
next_operation operations i o lt is = ap knowledge_of (open_at operations i o lt is)
