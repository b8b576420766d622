use Rattle.std.proofs.Common.{sym, ap, ◌∙◌}
use Rattle.std.specs.FinMap as map
use Rattle.live_cells.specs.PlacedStates.{cells_of}
use Rattle.live_cells.proofs.LiveMaps.{rise}
use Rattle.live_cells.proofs.Views.{entries_live_of}
use Rattle.live_cells.proofs.live_cells.LiveCells+LAST_GENERATION.iter.Goals as goal

pub returns : goal.returns
returns c =
    let s = c.self.inside.placed in
    c.of.ensures ∙ sym (entries_live_of (cells_of s) (rise s.dots s.held s.spent c.self.invariant.placed)) ∙ ap (λ x. map.entries x.live) c.self.view_is
