use Rattle.delta_codec.proofs.FrameLaws.{spelled_alike}
use Rattle.delta_codec.proofs.Spellings.{has_oldest_spelling, no_ring_spelled}
use Rattle.delta_codec.proofs.laws.the_oldest_version_has_all_but_the_ring.Goals as goal

pub returns : goal.returns
returns c = record { no_ring = no_ring_spelled; some = has_oldest_spelling; alike = spelled_alike }
