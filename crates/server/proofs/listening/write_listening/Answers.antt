use Rattle.std.proofs.Common.{rules, arith, ◌≡◌, ◌+◌}
use Rattle.server.specs.Listening.{listening_line}
use Rattle.server.proofs.ListeningLemmas.{at_err, next_begun, some_written}
use Rattle.server.proofs.listening.write_listening.Goals as goal

-- the lines of the sites so far are written
pub returns-in_err-line-clause-begun : goal.returns-in_err-line-clause-begun
returns-in_err-line-clause-begun g c = at_err c.from_residual.result _
    (some_written c.args.settings.now.address c.args.settings.now.port c.args.settings.now.sites c.loop-site.site _ _ (omega (arith, c.loop-site-test.true)) c.loop-site.invariant.1)

-- and a prefix of the next one
pub returns-in-Err-clause-begun : goal.returns-in-Err-clause-begun
returns-in-Err-clause-begun g c =
    let line : c.as_bytes.result.now ≡ listening_line c.args.settings.now.address (c.args.settings.now.port + c.loop-site.site) = search rules in
    next_begun c.args.settings.now.address c.args.settings.now.port c.args.settings.now.sites c.loop-site.site _ _ _ c.as_bytes.result.now c.loop-site-test.true c.loop-site.invariant.1 line c.in-Err.ensures.begun
