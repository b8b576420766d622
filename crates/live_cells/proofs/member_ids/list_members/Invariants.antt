use Rattle.std.proofs.Common.{◌≡◌, ◌≤◌, take}
use Rattle.std.specs.Vec.{vec_capacity}
use Rattle.live_cells.specs.PlacedStates.{ids_of}
use Rattle.live_cells.proofs.member_ids.list_members.Given as goal

-- the ids of the first dots are listed, in the room that was there
abbrev pub invariant-loop-placed : goal.invariant-loop-placed
invariant-loop-placed g l = record {
  items : l.members.items ≡ ids_of (take l.placed-index l.dots);
  room : vec_capacity l.fn.members ≤ vec_capacity l.members;
}
