use Rattle.std.proofs.Common.{ap, ◌∙◌}
use Rattle.operations.specs.Rows.{rows_of}
use Rattle.live_cells.specs.PlacedStates.{cells_of, listed_at}
use Rattle.live_cells.proofs.LiveMaps.{rise}
use Rattle.live_cells.proofs.Shows.{all_rows}
use Rattle.live_cells.proofs.live_cells.LiveCells+LAST_GENERATION.rows.Goals as goal
use Rattle.live_cells.specs.Holdings.{view_of}

pub returns : goal.returns
returns c =
    let s = c.index.result.cells.now in
    let indexed = c.index.result.indexed in
    c.of.ensures ∙ all_rows (cells_of s) (listed_at s.held c.index.result.ids.now) c.args.queue (rise s.dots s.held s.spent indexed.placed) indexed.index
    ∙ ap (λ live. rows_of (view_of live) c.args.queue) c.index.ensures
