use Rattle.std.proofs.Common.{◌≡◌, ◌++◌, map, take}
use Rattle.std.specs.List.{All}
use Rattle.ami_text.specs.Lines.{lines_text}
use Rattle.event_script.specs.Comments.{IsComment}
use Rattle.store_audit.specs.Headings.{queue_line}
use Rattle.store_audit.proofs.heading.push_queues.Given as goal

-- the lines of the first queues are appended
abbrev pub invariant-loop-place : goal.invariant-loop-place
invariant-loop-place l = record {
  lines : l.out.items ≡ l.fn.out.items ++ lines_text (map queue_line (take l.place l.list));
  comments : All IsComment (map queue_line (take l.place l.list));
}
