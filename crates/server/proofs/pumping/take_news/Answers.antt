use Rattle.stored_pass_desk.proofs.KeepingCalls.{given_back}
use Rattle.server.proofs.pumping.take_news.Goals as goal

-- a port that keeps the journal has called this one
pub returns-clause-calls : goal.returns-clause-calls
returns-clause-calls g c = given_back g.P.Port.makes g.P.Port.refuses _ _ _ _ c.new-keeping.ensures.port c.into_inner.ensures c.take_to_the_end-taken.ensures.calls
