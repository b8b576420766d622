use Rattle.site_peers.proofs.Losses.{all_is}
use Rattle.site_peers.proofs.laws.no_frame_is_lost_without_a_whole.Goals as goal

pub returns : goal.returns
returns c = λ old new events is_open due have. all_is events old new is_open due have
