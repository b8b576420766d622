use Rattle.std.proofs.Common.{◌∙◌, sym, rules, tests}
use Rattle.std.proofs.lemmas.Iterator.{YieldsList-from_slice}
use Rattle.std.proofs.lemmas.Iterator.Search.{any_from_yields_List}
use Rattle.operations.specs.Knowledge.{names}
use Rattle.general_lemmas.proofs.Membership.{any_map}
use Rattle.reference_model.specs.declared.operation.Operation.{Operation}
use Rattle.reference_model.specs.Plain.{operation_of}
use Rattle.reference_model.proofs.dots_seen.is_named.Goals as goal

pub returns : goal.returns
returns c =
    any_from_yields_List (λ (o : Operation). names c.args.dot (operation_of o)) _ _ _ c.any.ensures.ran (YieldsList-from_slice c.args.operations.now cc) (λ x b q k. search (rules, tests))
    ∙ sym (any_map (names c.args.dot) operation_of c.args.operations.now)
