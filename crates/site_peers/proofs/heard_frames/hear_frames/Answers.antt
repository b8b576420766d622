use Rattle.std.proofs.Common.{[], refl}
use Rattle.site_peers.proofs.heard_frames.hear_frames.Goals as goal

-- nothing was done
pub returns-in_default-clause-works : goal.returns-in_default-clause-works
returns-in_default-clause-works g c = ([], refl)
