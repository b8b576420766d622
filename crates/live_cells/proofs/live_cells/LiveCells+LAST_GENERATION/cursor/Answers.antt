use Rattle.live_cells.proofs.live_cells.LiveCells+LAST_GENERATION.cursor.Goals as goal

pub of-requires : goal.of-requires
of-requires c = c.self.invariant.placed
