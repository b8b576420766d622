use Rattle.delta.proofs.StandingDeltas.{consistent_agree}
use Rattle.delta.proofs.laws.deltas_of_what_is_consistent_agree.Goals as goal

pub returns : goal.returns
returns c = consistent_agree
