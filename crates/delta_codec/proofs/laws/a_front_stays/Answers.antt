use Rattle.delta_codec.proofs.FaultLaws.{frame_stays, front_same, stays}
use Rattle.delta_codec.proofs.laws.a_front_stays.Goals as goal

pub returns : goal.returns
returns c = record { frame = frame_stays; one = front_same; fault = stays }
