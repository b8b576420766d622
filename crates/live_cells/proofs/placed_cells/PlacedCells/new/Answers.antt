use Rattle.live_cells.proofs.PlacedChanges.{nothing_placed}
use Rattle.live_cells.proofs.placed_cells.PlacedCells.new.Goals as goal

pub invariant_of-result : goal.invariant_of-result
invariant_of-result g c = nothing_placed c.new.result.items c.new-2.result.held c.new-2.result.spent c.new.ensures.items c.new-2.ensures.held

pub returns-clause-valid : goal.returns-clause-valid
returns-clause-valid g c = nothing_placed c.new.result.items c.new-2.result.held c.new-2.result.spent c.new.ensures.items c.new-2.ensures.held
