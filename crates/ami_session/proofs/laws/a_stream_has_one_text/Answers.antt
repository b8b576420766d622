use Rattle.ami_session.proofs.TextLaws.{one_text}
use Rattle.ami_session.proofs.laws.a_stream_has_one_text.Goals as goal

pub returns : goal.returns
returns c = one_text c.stream_has_one_outcome.ensures.some c.stream_has_one_outcome.ensures.messages c.stream_of_two_pieces.ensures.rest
