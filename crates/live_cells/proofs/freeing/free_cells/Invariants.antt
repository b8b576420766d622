-- Of the first dots those have no cell that are dead there.
use Rattle.std.proofs.Common.{◌≡◌, ◌≤◌}
use Rattle.live_cells.specs.LiveStates.{dead_there}
use Rattle.live_cells.proofs.FreedCells.{ChosenBefore, Freeing}
use Rattle.live_cells.proofs.freeing.free_cells.Given as goal

abbrev pub invariant-loop-placed : goal.invariant-loop-placed
invariant-loop-placed g l = record {
  freeing : Freeing l.dots l.fn.cells.held l.fn.cells.spent l.placed-index l.cells.held l.cells.spent;
  there : l.there ≡ l.fn.there;
  chosen : ChosenBefore (dead_there l.known.dots l.fn.there) l.dots l.fn.cells.held l.placed-index l.cells.held;
  spare : l.fn.cells.spare ≤ l.cells.spare;
}
