use Rattle.std.proofs.Common.{Some, lit<, sym, ap, ◌∙◌}
use Rattle.std.specs.FinMap as map
use Rattle.live_cells.specs.LiveLists.{holding}
use Rattle.live_cells.specs.PlacedStates.{cells_of}
use Rattle.live_cells.proofs.Changes.{gap_live}
use Rattle.live_cells.proofs.CellsOfDots.{no_cell}
use Rattle.live_cells.proofs.LiveMaps.{live_here, rise, within_dots}
use Rattle.live_cells.proofs.cursor.Cursor.get.Goals as goal

pub cell_at-requires : goal.cell_at-requires
cell_at-requires c =
    let s = c.self.inside.cells.now in
    (lit< tt, within_dots s.dots s.held s.spent c.self.invariant c.args.dot c.in-Ok.place c.in-Ok.ensures.found)

pub returns-in-Ok-clause-value : goal.returns-in-Ok-clause-value
returns-in-Ok-clause-value c =
    let s = c.self.inside.cells.now in
    let none = no_cell c.args.dot in
    ap Some (c.lent.ensures ∙ ap holding (c.cell_at.ensures none)) ∙ sym (live_here s.dots s.held s.spent c.self.invariant c.args.dot c.in-Ok.place none c.in-Ok.ensures.found) ∙ ap (λ live. map.get live c.args.dot) c.self.view_is

pub returns-in-Err-clause-value : goal.returns-in-Err-clause-value
returns-in-Err-clause-value c =
    let s = c.self.inside.cells.now in
    sym (gap_live (cells_of s) c.args.dot c.in-Err.place (rise s.dots s.held s.spent c.self.invariant) c.in-Err.ensures.missed) ∙ ap (λ live. map.get live c.args.dot) c.self.view_is
