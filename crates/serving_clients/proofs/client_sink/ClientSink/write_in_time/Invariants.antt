use Rattle.std.proofs.Common.{◌≡◌}
use Rattle.std.specs.Io.KnownBytes.{Keeps}
use Rattle.serving_clients.proofs.client_sink.ClientSink.write_in_time.Given as goal

abbrev pub invariant-loop : goal.invariant-loop
invariant-loop g l = Keeps (g.W.Write.contents l.initial.self.writer) (g.W.Write.contents l.self.writer) × (l.self.failed ≡ l.initial.self.failed)
