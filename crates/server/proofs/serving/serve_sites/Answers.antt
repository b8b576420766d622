use Rattle.std.proofs.Common.{◌≡◌, ◌+◌, arith, length}
use Rattle.server.proofs.ServedSites.{served_each}
use Rattle.server.proofs.serving.serve_sites.Goals as goal

-- each journal is that of its site
pub returns-clause-each : goal.returns-clause-each
returns-clause-each g c =
    let long : length c.in_ok-ends.ends.items ≡ length c.in_ok-sites.sites.items = omega (arith, c.in_ok-ends.ensures.number, c.in_ok-ends.ends.ok.0, c.in_ok-sites.sites.ok.0) in
    let ready = c.in_ok-ready.ensures.each in
    served_each _ c.args.list.now (c.args.settings.now.session.places + 1) ready.0 c.in_ok-ready.ready.items c.in_ok-sites.sites.items c.in_ok-ends.ends.items long ready.1 c.in_ok-sites.ensures.each c.in_ok-ends.ensures.ends
