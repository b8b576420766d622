use Rattle.ami_session.proofs.TextLaws.{front-of-longer}
use Rattle.ami_session.proofs.laws.text_grows_with_the_messages.Goals as goal

pub returns : goal.returns
returns c = front-of-longer
