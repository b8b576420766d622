use Rattle.std.proofs.Common.{◌∙◌, [], ◌++◌, refl}
use Rattle.site_peers.proofs.Turns.{works_on}
use Rattle.site_peers.proofs.hearing.hear_peers.Goals as goal

pub loop-init : goal.loop-init
loop-init g c = (([], refl), refl)

-- a connection more
pub loop-preserved : goal.loop-preserved
loop-preserved g c = let was = c.loop.invariant.0 in let more = c.hear_connection.ensures.works in (
  (was.0 ++ more.0, works_on g.P.Port.makes g.P.Port.refuses was.0 more.0 _ _ _ was.1 more.1),
  c.hear_connection.ensures.ordinal ∙ c.loop.invariant.1,
)
