use Rattle.std.proofs.Common.{◌≡◌, ◌≤◌, ◌+◌, ◌++◌, length, drop, map as each}
use Rattle.std.specs.List.{concat}
use Rattle.operations.specs.Views.{listed_row_view}
use Rattle.status_report.specs.Status.{member_blocks}
use Rattle.status_report.proofs.status.push_members.Given as goal

-- what was written, and the blocks of what is left, make the blocks of all
abbrev pub invariant-loop-interface : goal.invariant-loop-interface
invariant-loop-interface l = record {
  text : l.out.items ++ concat (member_blocks l.request l.name (each listed_row_view (drop l.interface-index l.rows))) ≡ l.initial.out.items ++ concat (member_blocks l.request l.name (each listed_row_view l.rows));
  count : l.members + length (member_blocks l.request l.name (each listed_row_view (drop l.interface-index l.rows))) ≡ length (member_blocks l.request l.name (each listed_row_view l.rows));
  few : length l.initial.out.items + l.members ≤ length l.out.items;
}
