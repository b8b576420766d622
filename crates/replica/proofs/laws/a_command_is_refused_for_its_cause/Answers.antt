use Rattle.replica.proofs.CausedMeanings.{means_caused}
use Rattle.replica.proofs.laws.a_command_is_refused_for_its_cause.Goals as goal

pub returns : goal.returns
returns c = λ site names change k buffer. means_caused site names k buffer change
