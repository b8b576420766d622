use Rattle.std.proofs.Common.{[], refl}
use Rattle.site_peers.proofs.hearing.hear_connection.Goals as goal

-- nothing came
pub returns-then-not-has_first_byte-clause-works : goal.returns-then-not-has_first_byte-clause-works
returns-then-not-has_first_byte-clause-works g c = ([], refl)
