use Rattle.store_listing.proofs.Pieces.{frame_text}
use Rattle.store_listing.proofs.lines.frame_lines.Goals as goal

-- the text, piece by piece
pub returns-clause-value : goal.returns-clause-value
returns-clause-value c =
    frame_text c.args.with_frames c.args.position c.args.pass c.args.moved.now c.args.bytes.now c.as_slice-bytes.result.now c.in_ok-summary.summary c.in_ok-line.line.items
    c.push_moved.new.line.items c.push_bytes.new.line.items c.as_slice-bytes.ensures c.in_ok-summary.ensures.value c.in_ok-line.ensures c.in_ok-push_moved.ensures c.in_ok-push_bytes.ensures
