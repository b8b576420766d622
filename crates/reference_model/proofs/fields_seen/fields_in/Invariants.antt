use Rattle.std.proofs.Common.{◌≡◌, drop}
use Rattle.operations.specs.Conditions.{fields_in, fields_joined}
use Rattle.reference_model.specs.Plain.{knowledge_of}
use Rattle.reference_model.specs.Views.{fields_of}
use Rattle.reference_model.proofs.fields_seen.fields_in.Given as goal

-- what was joined, and what is left, make the fields of all
abbrev pub invariant-loop-operation : goal.invariant-loop-operation
invariant-loop-operation l = fields_joined (fields_of l.fields) (fields_in (knowledge_of (drop l.operation-index l.operations)) l.dot) ≡ fields_in (knowledge_of l.operations) l.dot
