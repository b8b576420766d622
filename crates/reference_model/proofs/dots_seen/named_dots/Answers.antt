use Rattle.std.proofs.Common.{◌||◌, ◌+◌, drop, ap, ◌∙◌}
use Rattle.std.specs.List.{list_any}
use Rattle.operations.specs.Knowledge.{is_dot, is_named, names}
use Rattle.reference_model.specs.Plain.{operation_of, knowledge_of}
use Rattle.reference_model.proofs.DotSteps.{names_is}
use Rattle.reference_model.proofs.SetSteps.{adds_first}
use Rattle.reference_model.proofs.Steps.{next_operation}
use Rattle.reference_model.proofs.dots_seen.named_dots.Goals as goal

pub loop-operation-preserved : goal.loop-operation-preserved
loop-operation-preserved c = λ q.
    let operations = c.args.operations.now in
    let o = operation_of c.operation-item.result in
    let held = list_any (is_dot q) c.loop-operation.found.keys in
    let next = next_operation operations c.loop-operation.operation-index c.operation-item.result c.loop-operation-test.true c.operation-item.is in
    adds_first held (names q o) (is_named (knowledge_of (drop (c.loop-operation.operation-index + 1) operations)) q) (is_named (knowledge_of (drop c.loop-operation.operation-index operations)) q) (list_any (is_dot q) c.insert_each.new.found.keys) _
    (ap (λ k. is_named k q) next) (c.in_ok-insert_each.ensures q ∙ ap (λ b. held || b) (names_is q o c.named.result.now c.named.ensures)) (c.loop-operation.invariant q)
