use Rattle.std.proofs.Common.{ap, ◌∙◌}
use Rattle.operations.specs.Rows.{row_of}
use Rattle.live_cells.proofs.live_cells.LiveCells+LAST_GENERATION.row.Goals as goal
use Rattle.live_cells.specs.Holdings.{view_of}

pub returns : goal.returns
returns c = c.row_in.ensures ∙ ap (λ live. row_of (view_of live) c.args.member.now) c.index.ensures
