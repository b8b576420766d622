use Rattle.std.proofs.Common.{◌++◌, ◌∙◌, ap, codes}
use Rattle.event_script.specs.Lines.{field_text}
use Rattle.event_script.proofs.Wording.{remove_text, on_ok}
use Rattle.event_script.proofs.lines.push_remove.Goals as goal

-- the words, field by field
pub returns-clause-text : goal.returns-clause-text
returns-clause-text c =
    on_ok c.push_interface.result (λ last.
    remove_text c.args.queue.now c.args.interface.now c.args.line.now.items c.push_action.new.line.items c.push_part.new.line.items c.push_interface.new.line.items last
    (c.in_ok-push_part.ensures ∙ ap (λ v. c.push_action.new.line.items ++ field_text (codes "Queue", v)) c.as_bytes.ensures.value) c.in_ok-push_action.ensures)
    c.push_interface.ensures.text
