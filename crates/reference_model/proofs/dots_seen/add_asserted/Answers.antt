use Rattle.std.proofs.Common.{◌||◌, ap, sym, ◌∙◌}
use Rattle.std.specs.List.{list_any}
use Rattle.std.proofs.Math.Bool.{or-false}
use Rattle.operations.specs.Knowledge.{is_dot, asserts}
use Rattle.reference_model.specs.Plain.{operation_of}
use Rattle.reference_model.proofs.DotSteps.{one_dot_more}
use Rattle.reference_model.proofs.dots_seen.add_asserted.Goals as goal

pub returns-in_ok-insert-in-Add : goal.returns-in_ok-insert-in-Add
returns-in_ok-insert-in-Add c = λ q.
    let old = list_any (is_dot q) c.args.found.now.keys in
    one_dot_more q c.in-Add.dot c.args.found.now.keys c.insert.new.self.keys c.in_ok-insert-in-Add.ensures.keys
    ∙ ap (λ b. old || b) (sym (or-false (is_dot q c.in-Add.dot)))
    ∙ ap (λ o. old || asserts q (operation_of o)) (sym c.in-Add.is)
