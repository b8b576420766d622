use Rattle.ami_session.proofs.TextLaws.{nothing_follows}
use Rattle.ami_session.proofs.laws.nothing_follows_a_logoff.Goals as goal

pub returns : goal.returns
returns c = nothing_follows
