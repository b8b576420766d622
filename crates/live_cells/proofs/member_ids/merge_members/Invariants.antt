use Rattle.std.proofs.Common.{◌-◌, ◌≤◌}
use Rattle.live_cells.specs.PlacedStates.{id_order}
use Rattle.live_cells.proofs.Merging.{Merging}
use Rattle.live_cells.proofs.member_ids.merge_members.Given as goal

abbrev pub invariant-loop-left : goal.invariant-loop-left
invariant-loop-left g l = record {
  merging : Merging (id_order l.cells.held) l.fn.own.items l.others (l.end - l.left) l.left l.own.items;
  order : l.left ≤ l.end;
  room : l.fn.own.room ≤ l.own.room;
}

abbrev pub decreases-loop-left : goal.decreases-loop-left
decreases-loop-left g l = l.end
