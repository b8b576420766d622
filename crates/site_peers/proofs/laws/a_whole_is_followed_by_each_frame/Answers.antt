use Rattle.std.proofs.Common.{refl}
use Rattle.site_peers.specs.Queues.{with_whole}
use Rattle.site_peers.proofs.Losses.{all_is}
use Rattle.site_peers.proofs.laws.a_whole_is_followed_by_each_frame.Goals as goal

pub returns : goal.returns
returns c = λ old new whole events is_open have. all_is events (with_whole old whole) new is_open refl have
