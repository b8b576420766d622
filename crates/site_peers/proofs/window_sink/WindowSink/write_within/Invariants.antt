use Rattle.std.proofs.Common.{◌≡◌}
use Rattle.site_peers.proofs.window_sink.WindowSink.write_within.Given as goal

abbrev pub invariant-loop : goal.invariant-loop
invariant-loop g l = (l.self.writer ≡ l.initial.self.writer) × (l.self.failed ≡ l.initial.self.failed) × (l.self.window.written ≡ l.initial.self.window.written)
