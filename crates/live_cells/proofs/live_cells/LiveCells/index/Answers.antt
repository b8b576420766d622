use Rattle.std.proofs.Common.{sym, subst}
use Rattle.live_cells.specs.PlacedStates.{AreIndexed}
use Rattle.live_cells.proofs.live_cells.LiveCells.index.Goals as goal

pub invariant_of-result : goal.invariant_of-result
invariant_of-result g c = record { indexed = subst (AreIndexed c.self.inside.placed) (sym c.as_slice.ensures) c.self.invariant }
