use Rattle.std.proofs.Common.{nat_lt, [], ◌∷◌, ap}
use Rattle.operations.specs.Knowledge.{known_dots}
use Rattle.reference_model.proofs.LimitSteps.{known_alone}
use Rattle.reference_model.proofs.meanings.is_too_long.Goals as goal

pub returns : goal.returns
returns c = λ o touches.
    ap (nat_lt 65536) (c.in_ok-runs.ensures.runs (known_dots (o ∷ [])) (known_alone o c.args.asserted.now c.args.named.now touches))
