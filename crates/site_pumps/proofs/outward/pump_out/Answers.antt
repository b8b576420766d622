use Rattle.site_pumps.proofs.GivenItems.{each_all_begun}
use Rattle.site_pumps.proofs.outward.pump_out.Goals as goal

pub returns-in-Ok-clause-front : goal.returns-in-Ok-clause-front
returns-in-Ok-clause-front g c = rw (c.done.ensures.0, ← c.deeds.ensures) (each_all_begun g.O.Outlet.given _ _ _ c.in-Ok.ensures.sent)
