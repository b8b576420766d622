use Rattle.std.proofs.Common.{[], refl}
use Rattle.site_peers.proofs.hearing.hear_link.Goals as goal

-- no hello, so nothing was done
pub returns-in-Err-clause-works : goal.returns-in-Err-clause-works
returns-in-Err-clause-works g c = ([], refl)
