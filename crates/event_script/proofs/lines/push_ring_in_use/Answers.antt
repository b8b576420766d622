use Rattle.event_script.proofs.Wording.{ring_text, on_ok}
use Rattle.event_script.proofs.lines.push_ring_in_use.Goals as goal

-- the words, field by field
pub returns-clause-text : goal.returns-clause-text
returns-clause-text c =
    on_ok c.push_yes_or_no.result (λ last.
    ring_text c.args.queue.now c.args.interface.now c.args.ring c.args.line.now.items c.push_action.new.line.items c.push_queue.new.line.items c.push_interface.new.line.items c.push_yes_or_no.new.line.items last
    c.in_ok-push_interface.ensures.text c.in_ok-push_queue.ensures.text c.in_ok-push_action.ensures)
    c.push_yes_or_no.ensures
