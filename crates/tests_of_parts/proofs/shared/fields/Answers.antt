use Rattle.std.proofs.Common.{ap}
use Rattle.tests_of_parts.proofs.shared.fields.Goals as goal

pub returns : goal.returns
returns g c none = absurd (c.penalty-fields-inside.ensures (ap (λ f. f.penalty) none))
