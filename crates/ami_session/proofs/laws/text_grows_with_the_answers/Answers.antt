use Rattle.ami_session.proofs.TextLaws.{front_of_more}
use Rattle.ami_session.proofs.laws.text_grows_with_the_answers.Goals as goal

pub returns : goal.returns
returns c = front_of_more
