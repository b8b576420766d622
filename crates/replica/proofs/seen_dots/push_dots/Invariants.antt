use Rattle.std.proofs.Common.{◌≡◌, ◌≤◌, ◌++◌, length}
use Rattle.operations.specs.Rows.{dots_of}
use Rattle.member_orset.specs.Members.{dot_view_of}
use Rattle.replica.proofs.seen_dots.push_dots.Given as goal

-- the dots so far, with those that are left, and at least those that were there
abbrev pub invariant-loop-dot : goal.invariant-loop-dot
invariant-loop-dot l = record {
  dots : l.list.items ++ l.dot-iterator ≡ l.fn.list.items ++ dots_of (dot_view_of l.members) l.member;
  more : length l.fn.list.items ≤ length l.list.items;
}
