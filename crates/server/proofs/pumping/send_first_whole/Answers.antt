use Rattle.site_pumps.proofs.Calling.{called_work}
use Rattle.server.proofs.pumping.send_first_whole.Goals as goal

pub returns-in-Ok : goal.returns-in-Ok
returns-in-Ok g c = called_work g.P.Port.makes g.P.Port.refuses _ _ _ _ c.broadcast_whole.ensures.step.2.work

pub returns-in-Err : goal.returns-in-Err
returns-in-Err g c = called_work g.P.Port.makes g.P.Port.refuses _ _ _ _ c.broadcast_whole.ensures.step.2.work
