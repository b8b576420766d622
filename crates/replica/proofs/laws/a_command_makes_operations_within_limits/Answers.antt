use Rattle.replica.proofs.MadeLimits.{makes_within_limits}
use Rattle.replica.proofs.laws.a_command_makes_operations_within_limits.Goals as goal

pub returns : goal.returns
returns c = makes_within_limits
