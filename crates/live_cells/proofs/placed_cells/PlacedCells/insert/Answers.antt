use Rattle.std.proofs.Common.{◌≤◌, length, sym, ap, subst, ◌∙◌, arith}
use Rattle.std.specs.List.{insert}
use Rattle.live_cells.specs.LiveLists.{IsGap}
use Rattle.live_cells.specs.PlacedStates.{cells_at, cells_of, ids_of}
use Rattle.live_cells.proofs.PlacedChanges.{more_cells, more_placed, same_placed}
use Rattle.live_cells.proofs.CellsOfDots.{as_long}
use Rattle.live_cells.proofs.placed_cells.PlacedCells.insert.Goals as goal

pub insert-requires-clause-within : goal.insert-requires-clause-within
insert-requires-clause-within g c =
    let s = c.self.inside in
    let gap = subst (λ x. IsGap (cells_of x) c.args.cell.dot c.args.place) (sym c.self.view_is) c.requires.gap in
    let within : c.args.place ≤ length (cells_at s.cells.held (ids_of s.dots.items)) = gap.within in
    omega (arith, within, as_long s.dots.items s.cells.held c.self.invariant.there)

pub invariant_of-self : goal.invariant_of-self
invariant_of-self g c =
    let s = c.self.inside in
    let gap = subst (λ x. IsGap (cells_of x) c.args.cell.dot c.args.place) (sym c.self.view_is) c.requires.gap in
    same_placed _ _ _ _ _ _ c.insert.ensures.items c.place-id.ensures.held c.place-id.ensures.spent
    (more_placed s.dots.items s.cells.held s.cells.spent c.self.invariant c.args.place c.place-id.result c.args.cell gap c.place-id.ensures.was_not_held c.place-id.ensures.was_not_spent)

pub returns-clause-cells : goal.returns-clause-cells
returns-clause-cells g c =
    let s = c.self.inside in
    let gap = subst (λ x. IsGap (cells_of x) c.args.cell.dot c.args.place) (sym c.self.view_is) c.requires.gap in
    (λ k. cells_at (c.place-id.ensures.held k) (ids_of (c.insert.ensures.items k)))
    ∙ more_cells s.dots.items s.cells.held s.cells.spent c.self.invariant c.args.place c.place-id.result c.args.cell gap c.place-id.ensures.was_not_held
    ∙ ap (λ x. insert (cells_of x) c.args.place c.args.cell) c.self.view_is

pub returns-clause-valid : goal.returns-clause-valid
returns-clause-valid g c = invariant_of-self g c
