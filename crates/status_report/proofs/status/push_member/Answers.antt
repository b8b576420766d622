use Rattle.std.proofs.Common.{◌≡◌, ◌∙◌, ◌++◌, codes, decimal, ap, if◌then◌else◌}
use Rattle.ami_text.specs.WrittenLines.{field}
use Rattle.status_report.specs.Status.{end, text_shown}
use Rattle.status_report.proofs.BlockLemmas.{member_lines}
use Rattle.status_report.proofs.TextLemmas.{wrote, wrote_same, and_then, when_ok}
use Rattle.status_report.proofs.status.push_member.Goals as goal

-- the pieces in their order are the block's lines
pub returns : goal.returns
returns c = when_ok c.push-10.result (λ last action_id name front.
    (and_then (wrote_same c.args.out.now.items c.args.front.now c.push.new.out.items _ front c.in_ok-push.ensures)
    (and_then (wrote_same c.push.new.out.items c.shown.result.now c.push-2.new.out.items (text_shown c.args.row.now.name.now c.args.interface.now) c.shown.ensures c.in_ok-push-2.ensures)
    (and_then (wrote c.push-2.new.out.items (codes "\r\nLocation: ") c.push-3.new.out.items c.in_ok-push-3.ensures)
    (and_then (wrote_same c.push-3.new.out.items c.as_bytes.result.now c.push-4.new.out.items c.args.interface.now c.as_bytes.ensures.value c.in_ok-push-4.ensures)
    (and_then (wrote c.push-4.new.out.items (codes "\r\nStateInterface: ") c.push-5.new.out.items c.in_ok-push-5.ensures)
    (and_then (wrote_same c.push-5.new.out.items c.shown-2.result.now c.push-6.new.out.items (text_shown c.args.row.now.state.now c.args.interface.now) c.shown-2.ensures c.in_ok-push-6.ensures)
    (and_then (wrote c.push-6.new.out.items (codes "\r\nMembership: dynamic\r\nPenalty: ") c.push-7.new.out.items c.in_ok-push-7.ensures)
    (and_then (wrote_same c.push-7.new.out.items (decimal c.from.result) c.push_decimal.new.out.items (decimal c.args.row.now.penalty) (ap decimal c.from.ensures) c.in_ok-push_decimal.ensures)
    (and_then (wrote_same c.push_decimal.new.out.items c.paused_line.result.now c.push-8.new.out.items (codes "\r\n" ++ (field (codes "Paused") (decimal (if c.args.row.now.paused then 1 else 0)) ++ codes "PausedReason: ")) c.paused_line.ensures c.in_ok-push-8.ensures)
    (and_then (wrote c.push-8.new.out.items c.args.row.now.reason.now c.push-9.new.out.items c.in_ok-push-9.ensures)
    (wrote_same c.push-9.new.out.items c.ring_line.result.now c.push-10.new.out.items (codes "\r\n" ++ (field (codes "RingInUse") (decimal (if c.args.row.now.ring then 1 else 0)) ++ end)) c.ring_line.ensures last))))))))))).is
    ∙ ap (λ text. c.args.out.now.items ++ text) (member_lines (decimal c.args.row.now.penalty) (decimal (if c.args.row.now.paused then 1 else 0)) c.args.row.now.reason.now
    (decimal (if c.args.row.now.ring then 1 else 0)) action_id name (text_shown c.args.row.now.name.now c.args.interface.now) c.args.interface.now
    (text_shown c.args.row.now.state.now c.args.interface.now))) c.push-10.ensures
