use Rattle.std.proofs.Common.{◌∙◌, Bor}
use Rattle.dots.specs.declared.member.Member.{Member}
use Rattle.reference_model.specs.Plain.{operation_of}
use Rattle.reference_model.proofs.DotSteps.{asserts_is}
use Rattle.reference_model.proofs.operation.Operation.asserts.Goals as goal

pub returns : goal.returns
returns c = c.is_some.ensures ∙ asserts_is (λ (m : Bor Member). m.now) c.args.dot (operation_of c.args.self.now) c.member_of.result c.member_of.ensures
