use Rattle.std.proofs.Common.{◌+◌, drop, ap, sym, ◌∙◌}
use Rattle.operations.specs.Conditions.{fields_in, fields_joined}
use Rattle.reference_model.specs.Plain.{operation_of, knowledge_of}
use Rattle.reference_model.specs.Views.{fields_of, fields_set}
use Rattle.reference_model.proofs.FieldSteps.{fields_asserted, fields_passed, joins_first}
use Rattle.reference_model.proofs.Steps.{next_operation}
use Rattle.reference_model.proofs.fields_seen.fields_in.Goals as goal
use Rattle.reference_model.proofs.fields_seen.fields_in.Goals.{then-asserts, else-asserts}

pub loop-operation-preserved : goal.loop-operation-preserved
loop-operation-preserved c =
    let o = operation_of c.operation-item.result in
    let dot = c.args.dot in
    let operations = c.args.operations.now in
    let rest = knowledge_of (drop (c.loop-operation.operation-index + 1) operations) in
    let left = knowledge_of (drop c.loop-operation.operation-index operations) in
    let next = next_operation operations c.loop-operation.operation-index c.operation-item.result c.loop-operation-test.true c.operation-item.is in
    elim c.if-asserts.branch [
      | then-asserts w ↦
          joins_first (fields_of c.loop-operation.fields) (fields_set o) (fields_in rest dot) (fields_in left dot) (fields_of c.if-asserts.fields) _
          (ap (λ k. fields_in k dot) next ∙ fields_asserted o rest dot (sym c.asserts.ensures ∙ w.if-asserts.true))
          (ap fields_of w.fields-is ∙ w.joined-fields.ensures ∙ ap (fields_joined (fields_of c.loop-operation.fields)) w.fields.ensures)
          c.loop-operation.invariant
      | else-asserts w ↦
          (λ i. fields_joined (fields_of (w.fields-is i)) (fields_in rest dot))
          ∙ ap (fields_joined (fields_of c.loop-operation.fields)) (sym (ap (λ k. fields_in k dot) next ∙ fields_passed o rest dot (sym c.asserts.ensures ∙ w.if-asserts.false)))
          ∙ c.loop-operation.invariant
    ]
