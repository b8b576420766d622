use Rattle.std.proofs.Common.{arith}
use Rattle.site_audit.proofs.Lists.{within_some}
use Rattle.store_audit.specs.Headings.{queue_line}
use Rattle.store_audit.proofs.Lines.{comments_all, comments_next, lines_all, lines_next}
use Rattle.store_audit.proofs.heading.push_queues.Goals as goal

-- one line more is appended
pub loop-place-preserved : goal.loop-place-preserved
loop-place-preserved c =
    let low = c.loop-place-test.true in
    let many = c.len-place-end.ensures.value in
    let place = c.loop-place.place in
    let found = within_some c.args.list.now place (omega (arith, low, many)) in
    record {
      lines = lines_next queue_line c.args.list.now place found.0 c.args.out.now.items c.loop-place.out.items c.push_queue_at.new.out.items found.1 c.loop-place.invariant.lines
          (c.in_ok-push_queue_at.ensures.line found.0 found.1);
      comments = comments_next queue_line c.args.list.now place found.0 found.1 c.loop-place.invariant.comments (c.in_ok-push_queue_at.ensures.comment found.0 found.1);
    }

-- all lines are
pub returns-clause-lines : goal.returns-clause-lines
returns-clause-lines c =
    let past = c.loop-place-test.false in
    let many = c.len-place-end.ensures.value in
    lines_all queue_line c.args.list.now c.loop-place.place c.args.out.now.items c.loop-place.out.items (omega (arith, past, many)) c.loop-place.invariant.lines

pub returns-clause-comments : goal.returns-clause-comments
returns-clause-comments c =
    let past = c.loop-place-test.false in
    let many = c.len-place-end.ensures.value in
    comments_all queue_line c.args.list.now c.loop-place.place (omega (arith, past, many)) c.loop-place.invariant.comments
