use Rattle.std.proofs.Common.{◌≡◌, drop}
use Rattle.operations.specs.Knowledge.{member_of}
use Rattle.reference_model.specs.Plain.{knowledge_of}
use Rattle.reference_model.proofs.dots_seen.member_of.Given as goal

-- what is left has the member that all have
abbrev pub invariant-loop-operation : goal.invariant-loop-operation
invariant-loop-operation l = member_of (knowledge_of (drop l.operation-index l.operations)) l.dot ≡ member_of (knowledge_of l.operations) l.dot
