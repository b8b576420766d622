use Rattle.std.proofs.Common.{◌≡◌, ◌++◌, map, take}
use Rattle.std.specs.List.{All}
use Rattle.ami_text.specs.Lines.{lines_text}
use Rattle.event_script.specs.Comments.{IsComment}
use Rattle.store_audit.specs.Headings.{store_line}
use Rattle.store_audit.proofs.heading.push_stores.Given as goal

-- the lines of the first stores are appended
abbrev pub invariant-loop-store : goal.invariant-loop-store
invariant-loop-store l = record {
  lines : l.out.items ≡ l.fn.out.items ++ lines_text (map store_line (take l.store-index l.stores));
  comments : All IsComment (map store_line (take l.store-index l.stores));
}
