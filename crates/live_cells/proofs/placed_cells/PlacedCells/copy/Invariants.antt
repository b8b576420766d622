use Rattle.std.proofs.Common.{◌≡◌, ◌≤◌, length, take}
use Rattle.std.specs.FinSet as set
use Rattle.live_cells.specs.PlacedStates.{IsPlaced, cells_of}
use Rattle.live_cells.proofs.placed_cells.PlacedCells.copy.Given as goal

-- the first cells are copied, and there is room for all
abbrev pub invariant-loop-place : goal.invariant-loop-place
invariant-loop-place g l = record {
  cells : cells_of l.copy ≡ take l.place (cells_of l.self);
  spent : l.copy.spent ≡ set.empty;
  room : length l.self.dots ≤ l.copy.room;
  valid : IsPlaced l.copy;
  own : IsPlaced l.self;
}
