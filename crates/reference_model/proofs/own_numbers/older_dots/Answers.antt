use Rattle.std.proofs.Common.{◌≡◌, filter, Vec, Global}
use Rattle.std.proofs.lemmas.Result.{IfOk-weaker}
use Rattle.dots.specs.Values.{Dot}
use Rattle.dots.specs.DotSets.{is_older}
use Rattle.reference_model.specs.Plain.{knowledge_of}
use Rattle.reference_model.proofs.LimitSteps.{older_list}
use Rattle.reference_model.proofs.own_numbers.older_dots.Goals as goal

pub returns : goal.returns
returns c =
    IfOk-weaker c.older_among.result (λ (older : Vec Dot Global). older.items ≡ filter (is_older c.args.dots.now) c.in_ok-named.named.keys) _ (λ older is site.
    older_list site (knowledge_of c.args.operations.now) c.args.dots.now c.in_ok-named.named.keys older.items c.older_dots_are_named.ensures (λ q. c.in_ok-named.ensures q) is) c.older_among.ensures
