use Rattle.std.proofs.Common.{◌++◌, ◌∙◌, ap, codes}
use Rattle.std.specs.List.{flat_map}
use Rattle.event_script.specs.Lines.{field_if_any, field_text, yes_or_no}
use Rattle.event_script.proofs.Wording.{pause_text, on_ok}
use Rattle.event_script.proofs.lines.push_pause.Goals as goal

-- the words, field by field
pub returns-clause-text : goal.returns-clause-text
returns-clause-text c =
    on_ok c.push_part_if_any.result (λ last.
    pause_text c.args.queue.now c.args.interface.now c.args.pause.now c.args.line.now.items c.push_action.new.line.items c.push_queue.new.line.items c.push_interface.new.line.items c.push_yes_or_no.new.line.items
    c.push_part_if_any.new.line.items (last ∙ ap (λ r. c.push_yes_or_no.new.line.items ++ flat_map field_text (field_if_any (codes "Reason") r)) c.reason.ensures.value)
    (c.in_ok-push_yes_or_no.ensures ∙ ap (λ p. c.push_interface.new.line.items ++ field_text (codes "Paused", yes_or_no p)) c.paused.ensures)
    c.in_ok-push_interface.ensures.text c.in_ok-push_queue.ensures.text c.in_ok-push_action.ensures)
    c.push_part_if_any.ensures.text
