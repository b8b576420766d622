use Rattle.std.proofs.Common.{◌<◌, ◌≤◌, length, arith, ap, ◌∙◌}
use Rattle.status_report.proofs.BlockLemmas.{queue_text, queue_count, whole_report}
use Rattle.status_report.proofs.status.write_report.Goals as goal

-- the queue's blocks go from what is left to what was written
pub loop-number-preserved : goal.loop-number-preserved
loop-number-preserved g c =
    let q = c.args.queues.now in
    let names = ap length c.list.ensures in
    let lt : c.loop-number.number < length (g.Q.Queues.names q) = omega (arith, names, c.len-number-end.ensures.value, c.loop-number-test.true) in
    record {
      text = queue_text c.args.request.now (g.Q.Queues.totals q) (g.Q.Queues.rows q) (g.Q.Queues.names q) c.loop-number.number lt _ _ c.in_ok-events.ensures.text ∙ c.loop-number.invariant.text;
      count = queue_count c.args.request.now (g.Q.Queues.totals q) (g.Q.Queues.rows q) (g.Q.Queues.names q) c.loop-number.number lt _ _ c.in_ok-events.ensures.count ∙ c.loop-number.invariant.count;
      few = omega (arith, c.in_ok-events.ensures.few, c.loop-number.invariant.few);
    }

-- none is left
pub returns : goal.returns
returns g c =
    let q = c.args.queues.now in
    let names = ap length c.list.ensures in
    let past : length (g.Q.Queues.names q) ≤ c.loop-number.number = omega (arith, names, c.len-number-end.ensures.value, c.loop-number-test.false) in
    whole_report c.args.request.now (g.Q.Queues.totals q) (g.Q.Queues.rows q) (g.Q.Queues.names q) c.loop-number.number c.loop-number.events _ _ past c.loop-number.invariant.text c.loop-number.invariant.count c.in_ok-push_closing.ensures
