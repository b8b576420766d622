use Rattle.std.proofs.Common.{◌≡◌, ◌+◌, ◌≤◌, false, length}
use Rattle.sites_world.specs.Worlds.{World}
use Rattle.scripts.specs.LineSteps.{StandsAt, place_of}
use Rattle.scripts.proofs.Running.{Going}
use Rattle.scripts.proofs.script.Script.run_lines.Given as goal

-- the writer works, the numbers stay small, and the script goes on
abbrev pub invariant-loop-rest : goal.invariant-loop-rest
invariant-loop-rest g l = record {
  works : g.W.Sink.failed l.writer ≡ false;
  lines : l.number + length l.rest ≤ 16777216;
  unknown : l.unknown ≤ l.number;
  place : place_of l.self ≡ place_of l.fn.self;
  going : (w : World) → StandsAt l.fn.self.world w
      → Going (place_of l.fn.self) w l.text (g.W.Sink.taken l.fn.writer) l.self.world l.rest l.number l.unknown (g.W.Sink.taken l.writer);
}

abbrev pub decreases-loop-rest : goal.decreases-loop-rest
decreases-loop-rest g l = length l.rest
