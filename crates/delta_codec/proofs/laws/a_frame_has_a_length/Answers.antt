use Rattle.delta_codec.proofs.FrameLaws.{lengths, whole_length}
use Rattle.delta_codec.proofs.laws.a_frame_has_a_length.Goals as goal

pub returns : goal.returns
returns c = record { least = λ parts good. (lengths parts good).0; most = λ parts good. (lengths parts good).1; whole = whole_length }
