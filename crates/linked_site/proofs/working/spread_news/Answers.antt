use Rattle.site_pumps.proofs.Calling.{called_none}
use Rattle.stored_pass_desk.proofs.KeepingCalls.{given_back}
use Rattle.linked_site.proofs.working.spread_news.Goals as goal

-- no call
pub returns-in_default : goal.returns-in_default
returns-in_default g c = called_none g.P.Port.makes g.P.Port.refuses c.args.port

pub returns : goal.returns
returns g c = given_back g.P.Port.makes g.P.Port.refuses _ _ _ _ c.new-keeping.ensures.port c.into_inner.ensures c.spread_to_the_end.ensures
