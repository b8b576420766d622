use Rattle.delta_codec.proofs.FrameLaws.{no_prefix, one_frame, one_version}
use Rattle.delta_codec.proofs.laws.bytes_spell_one_frame.Goals as goal

pub returns : goal.returns
returns c = record { one = one_frame; version = one_version; no_prefix = no_prefix }
