use Rattle.std.proofs.Common.{refl, subst, sym}
use Rattle.site_pumps.specs.Calls.{HasCalled}
use Rattle.site_pumps.proofs.Calling.{called_none, called_then}
use Rattle.stored_pass_desk.proofs.KeepingCalls.{given_back}
use Rattle.stored_pass_desk.specs.KeepingPorts.{inner_port}
use Rattle.server.proofs.pumping.send_news.Goals as goal
use Rattle.server.proofs.pumping.send_news.Goals.{then-is_restored, else-is_restored}

-- perhaps a whole, and then what the site does
pub returns : goal.returns
returns g c =
    let first : HasCalled g.P.Port.makes g.P.Port.refuses c.args.port (inner_port c.if-is_restored.keeping) = elim c.if-is_restored.branch [
      | then-is_restored w ↦ subst (λ keeping. HasCalled g.P.Port.makes g.P.Port.refuses c.args.port (inner_port keeping)) (sym w.keeping-is)
          (given_back g.P.Port.makes g.P.Port.refuses _ _ _ _ c.new-keeping.ensures.port refl w.send_first_whole.ensures)
      | else-is_restored w ↦ subst (λ keeping. HasCalled g.P.Port.makes g.P.Port.refuses c.args.port (inner_port keeping)) (sym w.keeping-is)
          (subst (λ port. HasCalled g.P.Port.makes g.P.Port.refuses port (inner_port c.new-keeping.result)) c.new-keeping.ensures.port (called_none g.P.Port.makes g.P.Port.refuses _))
    ] in
    called_then g.P.Port.makes g.P.Port.refuses _ _ _ first (given_back g.P.Port.makes g.P.Port.refuses _ _ _ _ refl c.into_inner.ensures c.send_to_the_end.ensures.calls)
