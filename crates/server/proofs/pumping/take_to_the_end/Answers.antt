use Rattle.site_pumps.proofs.Calling.{called_none, called_then, called_work}
use Rattle.server.proofs.pumping.take_to_the_end.Goals as goal

-- no call yet
pub loop-init : goal.loop-init
loop-init g c = called_none g.P.Port.makes g.P.Port.refuses c.args.port.now

-- then the calls of one pump
pub returns-in_default-clause-calls : goal.returns-in_default-clause-calls
returns-in_default-clause-calls g c = called_then g.P.Port.makes g.P.Port.refuses _ _ _ c.loop.invariant (called_work g.P.Port.makes g.P.Port.refuses _ _ _ _ c.pump_in-fault.ensures.pumped.work)

pub returns-then-ends_site-clause-calls : goal.returns-then-ends_site-clause-calls
returns-then-ends_site-clause-calls g c = called_then g.P.Port.makes g.P.Port.refuses _ _ _ c.loop.invariant (called_work g.P.Port.makes g.P.Port.refuses _ _ _ _ c.pump_in-fault.ensures.pumped.work)

pub loop-preserved : goal.loop-preserved
loop-preserved g c = called_then g.P.Port.makes g.P.Port.refuses _ _ _ c.loop.invariant (called_work g.P.Port.makes g.P.Port.refuses _ _ _ _ c.pump_in-fault.ensures.pumped.work)
