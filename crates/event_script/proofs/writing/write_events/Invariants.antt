use Rattle.std.proofs.Common.{◌≡◌, false, take, count_by}
use Rattle.std.specs.Io.KnownBytes.{Appends}
use Rattle.std.specs.List.{All}
use Rattle.event_script.specs.Lines.{HasLimits, is_unsaid, script_of}
use Rattle.event_script.proofs.writing.write_events.Given as goal

-- the lines of the first events are written, and those that no line says are counted
abbrev pub invariant-loop-event : goal.invariant-loop-event
invariant-loop-event g l = record {
  works : g.W.Sink.failed l.writer ≡ false;
  written : Appends (g.W.Sink.taken l.fn.writer) (g.W.Sink.taken l.writer) (script_of (take l.event-index l.events));
  unsaid : l.unsaid ≡ count_by is_unsaid (take l.event-index l.events);
  limits : All HasLimits (take l.event-index l.events);
}
