use Rattle.delta.proofs.StandingDeltas.{empty_where}
use Rattle.delta.proofs.laws.operations_leave_traces_in_a_delta.Goals as goal

pub returns : goal.returns
returns c = empty_where
