use Rattle.std.proofs.Common.{◌∙◌}
use Rattle.reference_model.specs.Plain.{operation_of}
use Rattle.reference_model.proofs.DotSteps.{names_is}
use Rattle.reference_model.proofs.operation.Operation.names.Goals as goal

pub returns : goal.returns
returns c = c.has_dot.ensures ∙ names_is c.args.dot (operation_of c.args.self.now) c.named.result.now c.named.ensures
