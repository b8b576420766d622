use Rattle.std.specs.Prelude.{◌∷◌, []}
use Rattle.site_pumps.specs.Carried.{SoFar}
use Rattle.site_pumps.specs.Outlets.{OutletRun}
use Rattle.site_pumps.proofs.sending.send_item.Given as goal

abbrev pub invariant-loop-i : goal.invariant-loop-i
invariant-loop-i g l = SoFar (OutletRun g.O.Outlet.given (l.item ∷ [])) l.initial.outlets l.outlets l.i
