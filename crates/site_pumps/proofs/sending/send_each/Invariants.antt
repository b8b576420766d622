use Rattle.std.specs.Prelude.{take}
use Rattle.site_pumps.specs.Carried.{EachLink}
use Rattle.site_pumps.specs.Outlets.{OutletRun}
use Rattle.site_pumps.proofs.sending.send_each.Given as goal

abbrev pub invariant-loop-item : goal.invariant-loop-item
invariant-loop-item g l = EachLink (OutletRun g.O.Outlet.given (take l.item-index l.items)) l.initial.outlets l.outlets
