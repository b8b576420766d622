use Rattle.std.proofs.Common.{◌≡◌, take}
use Rattle.live_cells.specs.PlacedStates.{AreHeld, cells_at}
use Rattle.live_cells.proofs.member_ids.copy_members.Given as goal

-- the cells so far are those of the first ids
abbrev pub invariant-loop-id : goal.invariant-loop-id
invariant-loop-id g l = record {
  held : AreHeld l.copy.held l.ids.items;
  cells : cells_at l.copy.held l.ids.items ≡ cells_at l.index.cells.now.held (take l.id-index l.members);
}
