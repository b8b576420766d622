use Rattle.site_pumps.proofs.Calling.{called_none, called_then, called_work}
use Rattle.linked_site.proofs.working.spread_to_the_end.Goals as goal

-- no call yet
pub loop-init : goal.loop-init
loop-init g c = called_none g.P.Port.makes g.P.Port.refuses c.args.port.now

-- then the calls of one round
pub loop-preserved : goal.loop-preserved
loop-preserved g c = called_then g.P.Port.makes g.P.Port.refuses _ _ _ c.loop.invariant (called_work g.P.Port.makes g.P.Port.refuses _ _ _ _ c.spread-spreads.ensures.spread.3.work)

pub returns-then-has_bell_ended : goal.returns-then-has_bell_ended
returns-then-has_bell_ended g c = called_then g.P.Port.makes g.P.Port.refuses _ _ _ c.loop.invariant (called_work g.P.Port.makes g.P.Port.refuses _ _ _ _ c.spread-spreads.ensures.spread.3.work)
