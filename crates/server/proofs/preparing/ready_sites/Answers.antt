use Rattle.std.proofs.lemmas.Result.{IfOk-weaker}
use Rattle.server.proofs.preparing.ready_sites.Goals as goal

-- there are such links
pub returns-clause-each : goal.returns-clause-each
returns-clause-each c = IfOk-weaker c.sites_with-sites.result _ _ (λ sites each. (c.in-Ok-link_all.links, each)) c.sites_with-sites.ensures.each
