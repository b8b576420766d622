use Rattle.std.proofs.Common.{◌≡◌, ◌+◌, ◌-◌, ◌≤◌, length, drop}
use Rattle.site_totals.specs.TotalLists.{joined_rows}
use Rattle.site_totals.proofs.joining.joined_count.Given as goal

-- the entries that were counted, and those of the join of what is left, are those of the join
abbrev pub invariant-loop-own : goal.invariant-loop-own
invariant-loop-own l = record {
  ours : l.own ≤ length l.rows;
  others : l.theirs ≤ length l.others;
  few : l.count ≤ l.own + l.theirs;
  counted : l.count + length (joined_rows (drop l.own l.rows) (drop l.theirs l.others)) ≡ length (joined_rows l.rows l.others);
}

abbrev pub decreases-loop-own : goal.decreases-loop-own
decreases-loop-own l = (length l.rows + length l.others) - (l.own + l.theirs)
