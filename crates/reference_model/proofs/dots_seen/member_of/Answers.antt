use Rattle.std.proofs.Common.{◌+◌, drop, ap, sym, ◌∙◌}
use Rattle.operations.specs.Knowledge.{member_of}
use Rattle.reference_model.specs.Plain.{operation_of, knowledge_of}
use Rattle.reference_model.proofs.DotSteps.{member_first, member_later}
use Rattle.reference_model.proofs.Steps.{next_operation}
use Rattle.reference_model.proofs.dots_seen.member_of.Goals as goal

pub returns-in-Some : goal.returns-in-Some
returns-in-Some c =
    let next = next_operation c.args.operations.now c.loop-operation.operation-index c.operation-item.result c.loop-operation-test.true c.operation-item.is in
    member_first (operation_of c.operation-item.result) (knowledge_of (drop (c.loop-operation.operation-index + 1) c.args.operations.now)) c.args.dot c.in-Some.member.now c.in-Some.ensures
    ∙ ap (λ k. member_of k c.args.dot) (sym next)
    ∙ c.loop-operation.invariant

pub loop-operation-preserved : goal.loop-operation-preserved
loop-operation-preserved c =
    let next = next_operation c.args.operations.now c.loop-operation.operation-index c.operation-item.result c.loop-operation-test.true c.operation-item.is in
    member_later (operation_of c.operation-item.result) (knowledge_of (drop (c.loop-operation.operation-index + 1) c.args.operations.now)) c.args.dot c.in_default.ensures
    ∙ ap (λ k. member_of k c.args.dot) (sym next)
    ∙ c.loop-operation.invariant
