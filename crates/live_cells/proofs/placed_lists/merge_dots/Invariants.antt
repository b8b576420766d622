use Rattle.std.proofs.Common.{◌-◌, ◌≤◌}
use Rattle.live_cells.specs.Merges.{placed_cmp}
use Rattle.live_cells.proofs.Merging.{Merging}
use Rattle.live_cells.proofs.placed_lists.merge_dots.Given as goal

abbrev pub invariant-loop-left : goal.invariant-loop-left
invariant-loop-left l = record {
  merging : Merging placed_cmp l.fn.own.items l.others (l.end - l.left) l.left l.own.items;
  order : l.left ≤ l.end;
  room : l.fn.own.room ≤ l.own.room;
}

abbrev pub decreases-loop-left : goal.decreases-loop-left
decreases-loop-left l = l.end
