use Rattle.std.proofs.Common.{◌∙◌, sym}
use Rattle.event_script.proofs.Written.{more_limits, more_said, more_unsaid, more_written}
use Rattle.event_script.proofs.writing.write_events.Goals as goal
use Rattle.event_script.proofs.writing.write_events.Goals.{then-not-branch, else-not-branch}

-- a line more says its event
pub loop-event-preserved : goal.loop-event-preserved
loop-event-preserved g c = record {
  works = c.in_ok-write_event.ensures.works;
  written = more_written (g.W.Sink.taken c.args.writer.now) (g.W.Sink.taken c.loop-event.writer) (g.W.Sink.taken c.write_event.new.writer) c.args.events.now c.loop-event.event-index
      c.event-item.result c.loop-event-test.true c.event-item.is c.loop-event.invariant.written c.in_ok-write_event.ensures.written;
  unsaid = (let said = sym c.in_ok-write_event.ensures.said in elim c.if-not-branch.branch [
    | then-not-branch w ↦ w.unsaid-is ∙ more_unsaid c.args.events.now c.loop-event.event-index c.event-item.result c.loop-event.unsaid c.loop-event-test.true c.event-item.is (said ∙ w.if-not-branch.true) c.loop-event.invariant.unsaid
    | else-not-branch w ↦ w.unsaid-is ∙ more_said c.args.events.now c.loop-event.event-index c.event-item.result c.loop-event.unsaid c.loop-event-test.true c.event-item.is (said ∙ w.if-not-branch.false) c.loop-event.invariant.unsaid
  ]);
  limits = more_limits c.args.events.now c.loop-event.event-index c.event-item.result c.loop-event-test.true c.event-item.is c.loop-event.invariant.limits c.in_ok-write_event.ensures.limits;
}
