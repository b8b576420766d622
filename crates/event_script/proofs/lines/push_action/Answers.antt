use Rattle.std.proofs.Common.{◌++◌}
use Rattle.event_script.proofs.Wording.{action_text, appended, on_ok}
use Rattle.event_script.proofs.lines.push_action.Goals as goal

pub returns : goal.returns
returns c =
    on_ok c.extend_from_slice-2.result (λ last.
    action_text c.args.action.now c.args.line.now.items c.extend_from_slice.new.self.items c.extend_from_slice-2.new.self.items last c.in_ok-extend_from_slice.ensures.items)
    (appended c.extend_from_slice-2.result c.extend_from_slice-2.new.self.items (c.extend_from_slice.new.self.items ++ c.args.action.now) c.extend_from_slice.new.self.items
    c.extend_from_slice-2.ensures.items)
