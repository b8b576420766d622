use Rattle.std.proofs.Common.{◌≡◌, drop}
use Rattle.operations.specs.Conditions.{fields_joined}
use Rattle.reference_model.specs.Plain.{knowledge_of}
use Rattle.reference_model.specs.Views.{fields_of, fields_over}
use Rattle.reference_model.proofs.fields_seen.fields_over.Given as goal

-- what was joined, and what is left, make the fields of all
abbrev pub invariant-loop-dot : goal.invariant-loop-dot
invariant-loop-dot l = fields_joined (fields_of l.fields) (fields_over (knowledge_of l.operations) (drop l.dot-index l.dots)) ≡ fields_over (knowledge_of l.operations) l.dots
