use Rattle.std.proofs.Common.{◌+◌, drop, ap, ◌∙◌}
use Rattle.operations.specs.Conditions.{fields_in, fields_joined}
use Rattle.reference_model.specs.Plain.{knowledge_of}
use Rattle.reference_model.specs.Views.{fields_of, fields_over}
use Rattle.reference_model.proofs.FieldSteps.{fields_over_more, joins_first}
use Rattle.general_lemmas.proofs.Fronts.{open_at}
use Rattle.reference_model.proofs.fields_seen.fields_over.Goals as goal

pub loop-dot-preserved : goal.loop-dot-preserved
loop-dot-preserved c =
    let k = knowledge_of c.args.operations.now in
    let dots = c.args.dots.now in
    let rest = drop (c.loop-dot.dot-index + 1) dots in
    let next = open_at dots c.loop-dot.dot-index c.dot-item.result c.loop-dot-test.true c.dot-item.is in
    joins_first (fields_of c.loop-dot.fields) (fields_in k c.dot-item.result) (fields_over k rest) (fields_over k (drop c.loop-dot.dot-index dots)) (fields_of c.joined-fields.result) _
    (ap (fields_over k) next ∙ fields_over_more k c.dot-item.result rest)
    (c.joined-fields.ensures ∙ ap (fields_joined (fields_of c.loop-dot.fields)) c.fields_in.ensures)
    c.loop-dot.invariant
