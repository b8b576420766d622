use Rattle.std.proofs.Common.{codes}
use Rattle.ami_text.specs.WrittenLines.{field}
use Rattle.status_report.specs.Status.{end, opening}
use Rattle.ami_text.specs.WrittenLines.{action_id_line}
use Rattle.status_report.proofs.TextLemmas.{wrote, and_then, all_written}
use Rattle.status_report.proofs.status.push_opening.Goals as goal

pub returns : goal.returns
returns c = all_written c.push_end.result c.args.out.now.items (opening c.args.request.now.action_id) c.push_field-3.new.out.items end c.push_end.new.out.items (λ last.
    (and_then (wrote c.args.out.now.items (field (codes "Response") (codes "Success")) c.push_field.new.out.items c.in_ok-push_field.ensures)
    (and_then (wrote c.push_field.new.out.items (action_id_line c.args.request.now.action_id) c.push_action_id.new.out.items c.in_ok-push_action_id.ensures)
    (and_then (wrote c.push_action_id.new.out.items (field (codes "EventList") (codes "start")) c.push_field-2.new.out.items c.in_ok-push_field-2.ensures)
    (and_then (wrote c.push_field-2.new.out.items (field (codes "Message") (codes "Queue status will follow")) c.push_field-3.new.out.items c.in_ok-push_field-3.ensures) last))))) c.push_end.ensures
