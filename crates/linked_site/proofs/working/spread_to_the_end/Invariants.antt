use Rattle.site_pumps.specs.Calls.{HasCalled}
use Rattle.linked_site.proofs.working.spread_to_the_end.Given as goal

abbrev pub invariant-loop : goal.invariant-loop
invariant-loop g l = HasCalled g.P.Port.makes g.P.Port.refuses l.initial.port l.port
