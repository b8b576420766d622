use Rattle.std.proofs.Common.{rules}
use Rattle.site_pumps.proofs.Calling.{called_none, called_then, called_work}
use Rattle.server.proofs.pumping.send_to_the_end.Goals as goal

-- no call yet
pub loop-init : goal.loop-init
loop-init g c = called_none g.P.Port.makes g.P.Port.refuses c.args.port.now

-- then the calls of one broadcast
pub returns-then-have_all-clause-calls : goal.returns-then-have_all-clause-calls
returns-then-have_all-clause-calls g c = called_then g.P.Port.makes g.P.Port.refuses _ _ _ c.loop.invariant (called_work g.P.Port.makes g.P.Port.refuses _ _ _ _ c.broadcast.ensures.broadcast.5.work)

pub loop-preserved-in-Ok : goal.loop-preserved-in-Ok
loop-preserved-in-Ok g c = called_then g.P.Port.makes g.P.Port.refuses _ _ _ c.loop.invariant (called_work g.P.Port.makes g.P.Port.refuses _ _ _ _ c.broadcast.ensures.broadcast.5.work)

pub returns-in-Err-Unsaved-clause-calls : goal.returns-in-Err-Unsaved-clause-calls
returns-in-Err-Unsaved-clause-calls g c = called_then g.P.Port.makes g.P.Port.refuses _ _ _ c.loop.invariant (called_work g.P.Port.makes g.P.Port.refuses _ _ _ _ c.broadcast.ensures.broadcast.5.work)

pub returns-then-has_bell_ended-2 : goal.returns-then-has_bell_ended-2
returns-then-has_bell_ended-2 g c = let sent = called_then g.P.Port.makes g.P.Port.refuses _ _ _ c.loop.invariant (called_work g.P.Port.makes g.P.Port.refuses _ _ _ _ c.broadcast.ensures.broadcast.5.work) in search rules

pub loop-preserved : goal.loop-preserved
loop-preserved g c = called_then g.P.Port.makes g.P.Port.refuses _ _ _ c.loop.invariant (called_work g.P.Port.makes g.P.Port.refuses _ _ _ _ c.broadcast.ensures.broadcast.5.work)
