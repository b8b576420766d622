use Rattle.delta_codec.proofs.FrameLaws.{one_spelling}
use Rattle.delta_codec.proofs.laws.each_frame_has_one_spelling.Goals as goal

pub returns : goal.returns
returns c = one_spelling
