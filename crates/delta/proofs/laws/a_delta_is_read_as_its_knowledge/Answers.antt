use Rattle.delta.proofs.ShownDeltas.{read_as}
use Rattle.delta.proofs.laws.a_delta_is_read_as_its_knowledge.Goals as goal

pub returns : goal.returns
returns c = read_as
