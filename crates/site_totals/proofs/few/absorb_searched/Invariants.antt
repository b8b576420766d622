-- With those that are left joined in, it is what it is to be; and there is room for what is missing of these.
use Rattle.std.proofs.Common.{◌≡◌, ◌-◌, ◌≤◌, drop}
use Rattle.std.specs.Vec.{vec_capacity, vec_len}
use Rattle.operations.specs.Totals.{count_missing, join_of}
use Rattle.site_totals.specs.TotalLists.{IsKept, entries_of}
use Rattle.site_totals.proofs.few.absorb_searched.Given as goal

abbrev pub invariant-loop-row : goal.invariant-loop-row
invariant-loop-row l = record {
  kept : IsKept l.rows.items;
  joins : join_of (entries_of l.rows.items) (entries_of (drop l.row-index l.others)) ≡ join_of (entries_of l.fn.rows.items) (entries_of l.others);
  room : count_missing (entries_of l.rows.items) (entries_of (drop l.row-index l.others)) ≤ vec_capacity l.rows - vec_len l.rows;
}
