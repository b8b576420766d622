use Rattle.std.proofs.Common.{◌≡◌, not, filter, Vec, Global}
use Rattle.std.proofs.lemmas.Result.{IfOk-weaker}
use Rattle.dots.specs.Values.{Dot}
use Rattle.operations.specs.Knowledge.{is_named}
use Rattle.reference_model.specs.Plain.{knowledge_of}
use Rattle.reference_model.proofs.DotSteps.{visible_list}
use Rattle.reference_model.proofs.dots_seen.visible_dots.Goals as goal

pub returns : goal.returns
returns c =
    let k = knowledge_of c.args.operations.now in
    IfOk-weaker c.unnamed.result (λ (dots : Vec Dot Global). dots.items ≡ filter (λ d. not (is_named k d)) c.in_ok-found.found.keys) _ (λ dots is.
    visible_list k c.in_ok-found.found.keys dots.items (λ dot. c.in_ok-found.ensures dot) c.unnamed.ensures.ordered is) c.unnamed.ensures.value
