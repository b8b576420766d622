use Rattle.std.proofs.Common.{◌≡◌, ◌++◌, drop}
use Rattle.reference_model.specs.Plain.{knowledge_of}
use Rattle.reference_model.proofs.site_steps.push_each.Given as goal

-- what is held, and what is left, are what was held and all that came
abbrev pub invariant-loop-operation : goal.invariant-loop-operation
invariant-loop-operation l = knowledge_of l.all.items ++ knowledge_of (drop l.operation-index l.operations) ≡ knowledge_of l.initial.all.items ++ knowledge_of l.operations
