use Rattle.site_pumps.specs.Calls.{HasCalled}
use Rattle.server.proofs.pumping.take_to_the_end.Given as goal

abbrev pub invariant-loop : goal.invariant-loop
invariant-loop g l = HasCalled g.P.Port.makes g.P.Port.refuses l.initial.port l.port
