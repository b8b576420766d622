use Rattle.std.proofs.Common.{◌≡◌, arith, length}
use Rattle.server.proofs.ListeningLemmas.{all_written}
use Rattle.server.proofs.ServedStores.{served_ends}
use Rattle.server.proofs.stored_serving.serve_stored_sites.Goals as goal

-- each site has ended as the one at its place
pub returns-clause-each : goal.returns-clause-each
returns-clause-each g c =
    let long : length c.args.resumed.items ≡ length c.in_ok-sites.sites.items = omega (arith, c.in_ok-sites.ensures.number, c.args.resumed.ok.0, c.in_ok-sites.sites.ok.0) in
    served_ends _ g.D.StepStore.holds g.D.StepStore.keeps g.D.StepStore.begun c.args.resumed.items c.in_ok-sites.sites.items c.in_ok-ends.ends.items long c.in_ok-sites.ensures.each c.in_ok-ends.ensures.ends

-- once all sites listen the log has all lines
pub returns-in_err-sites-clause-begun : goal.returns-in_err-sites-clause-begun
returns-in_err-sites-clause-begun g c = all_written c.from_residual.result c.args.settings.now.address c.args.settings.now.port c.args.settings.now.sites _ _ c.in-Ok.ensures.written

pub returns-in_err-ends-clause-begun : goal.returns-in_err-ends-clause-begun
returns-in_err-ends-clause-begun g c = all_written c.from_residual-in_err-ends.result c.args.settings.now.address c.args.settings.now.port c.args.settings.now.sites _ _ c.in-Ok.ensures.written
