use Rattle.replica.proofs.TracesMade.{makes_traces}
use Rattle.replica.proofs.laws.a_command_makes_operations_that_leave_traces.Goals as goal

pub returns : goal.returns
returns c = makes_traces
