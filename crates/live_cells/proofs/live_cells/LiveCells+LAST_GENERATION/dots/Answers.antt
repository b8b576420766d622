use Rattle.std.proofs.Common.{ap, ◌∙◌}
use Rattle.operations.specs.Rows.{dots_of}
use Rattle.live_cells.specs.PlacedStates.{cells_of, listed_at}
use Rattle.live_cells.proofs.LiveMaps.{rise}
use Rattle.live_cells.proofs.MemberDots.{dots_are}
use Rattle.live_cells.proofs.live_cells.LiveCells+LAST_GENERATION.dots.Goals as goal
use Rattle.live_cells.specs.Holdings.{view_of}

pub returns : goal.returns
returns c =
    let s = c.index.result.cells.now in
    let m = c.args.member.now in
    let indexed = c.index.result.indexed in
    c.of.ensures
    ∙ dots_are (cells_of s) (listed_at s.held c.index.result.ids.now) m (rise s.dots s.held s.spent indexed.placed) indexed.index
    ∙ ap (λ live. dots_of (view_of live) m) c.index.ensures
