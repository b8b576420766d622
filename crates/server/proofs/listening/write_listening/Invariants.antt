use Rattle.std.proofs.Common.{◌≡◌, false}
use Rattle.std.specs.Io.KnownBytes.{Appends}
use Rattle.server.specs.Listening.{listening_lines}
use Rattle.server.proofs.listening.write_listening.Given as goal

-- the lines of the sites so far are written
abbrev pub invariant-loop-site : goal.invariant-loop-site
invariant-loop-site g l = (g.W.Sink.failed l.log ≡ false)
    × Appends (g.W.Sink.taken l.initial.log) (g.W.Sink.taken l.log) (listening_lines l.settings.address l.settings.port l.site)
