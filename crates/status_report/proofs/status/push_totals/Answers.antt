use Rattle.std.proofs.Common.{codes, decimal}
use Rattle.ami_text.specs.WrittenLines.{field}
use Rattle.status_report.specs.Status.{event_lines, end, queue_block}
use Rattle.status_report.proofs.TextLemmas.{wrote, wrote_value, and_then, all_written}
use Rattle.status_report.proofs.status.push_totals.Goals as goal

pub returns : goal.returns
returns c = all_written c.push_end.result c.args.out.now.items (queue_block c.args.request.now.action_id c.args.name.now c.args.totals) c.push_number-2.new.out.items end c.push_end.new.out.items (λ last.
    (and_then (wrote c.args.out.now.items (event_lines c.args.request.now.action_id (codes "QueueParams")) c.push_event.new.out.items c.in_ok-push_event.ensures)
    (and_then (wrote_value c.push_event.new.out.items (codes "Queue") c.as_bytes.result.now c.push_field.new.out.items c.args.name.now c.as_bytes.ensures.value c.in_ok-push_field.ensures)
    (and_then (wrote c.push_field.new.out.items (field (codes "Completed") (decimal c.args.totals.completed)) c.push_number.new.out.items c.in_ok-push_number.ensures)
    (and_then (wrote c.push_number.new.out.items (field (codes "Abandoned") (decimal c.args.totals.abandoned)) c.push_number-2.new.out.items c.in_ok-push_number-2.ensures) last))))) c.push_end.ensures
