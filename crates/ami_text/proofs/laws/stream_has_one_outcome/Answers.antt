use Rattle.ami_text.proofs.Existence.{outcome}
use Rattle.ami_text.proofs.Outcomes.{one_outcome}
use Rattle.ami_text.proofs.laws.stream_has_one_outcome.Goals as goal

pub returns-clause-messages : goal.returns-clause-messages
returns-clause-messages c = λ bytes messages others ending other r s. (one_outcome messages others bytes ending other r s).0

pub returns-clause-ending : goal.returns-clause-ending
returns-clause-ending c = λ bytes messages others ending other r s. (one_outcome messages others bytes ending other r s).1

pub returns-clause-some : goal.returns-clause-some
returns-clause-some c = outcome
