use Rattle.std.proofs.Common.{◌≡◌, ◌≤◌, ◌++◌, length, take, drop}
use Rattle.site_totals.specs.TotalLists.{joined_rows}
use Rattle.site_totals.proofs.joining.merge.Given as goal

-- what is written, and the join of what is left, make the join
abbrev pub invariant-loop-written : goal.invariant-loop-written
invariant-loop-written l = record {
  ours : l.own ≤ length l.rows;
  others : l.theirs ≤ length l.others;
  joins : take l.written l.rows ++ joined_rows (drop l.own l.rows) (drop l.theirs l.others) ≡ joined_rows (drop l.spare l.fn.rows) l.others;
}
