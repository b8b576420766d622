use Rattle.ami_session.proofs.AskedWithinLimits.{what_is_asked}
use Rattle.ami_session.proofs.laws.what_a_message_asks_is_within_limits.Goals as goal

pub returns : goal.returns
returns c = what_is_asked
