use Rattle.delta.proofs.EachDelta.{each_has}
use Rattle.delta.proofs.StandingDeltas.{one_delta, same_stands}
use Rattle.delta.proofs.laws.a_knowledge_has_one_delta.Goals as goal

pub returns : goal.returns
returns c = record { some = each_has; one = one_delta; same = same_stands }
