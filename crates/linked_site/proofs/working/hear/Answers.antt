use Rattle.stored_pass_desk.proofs.KeepingCalls.{given_back}
use Rattle.linked_site.proofs.TurnCalls.{turns_called}
use Rattle.linked_site.proofs.working.hear.Goals as goal

pub returns : goal.returns
returns g c = let works = c.hear_peers.ensures.works in
    given_back g.P.Port.makes g.P.Port.refuses _ _ _ _ c.new-keeping.ensures.port c.into_inner.ensures (turns_called _ _ works.0 _ _ works.1)
