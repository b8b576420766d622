use Rattle.std.proofs.Common.{◌++◌, ◌∙◌, ap, codes}
use Rattle.event_script.specs.Lines.{field_text}
use Rattle.event_script.proofs.Wording.{add_text, on_ok}
use Rattle.event_script.proofs.lines.push_add.Goals as goal

-- the words, field by field
pub returns-clause-text : goal.returns-clause-text
returns-clause-text c =
    on_ok c.push_label.result (λ last.
    add_text c.args.queue.now c.args.interface.now c.args.penalty c.args.paused c.args.label.now c.args.line.now.items c.push_action.new.line.items c.push_part.new.line.items c.push_interface.new.line.items
    c.push_penalty.new.line.items c.push_yes_or_no.new.line.items c.push_label.new.line.items last c.in_ok-push_yes_or_no.ensures c.in_ok-push_penalty.ensures.text
    c.in_ok-push_interface.ensures.text (c.in_ok-push_part.ensures ∙ ap (λ v. c.push_action.new.line.items ++ field_text (codes "Queue", v)) c.as_bytes.ensures.value) c.in_ok-push_action.ensures)
    c.push_label.ensures.text
